-- The machine's look-ups over declared classes are those over the classes as they were checked.
use Rattle.std.proofs.Common.{◌≡◌, ℕ, List, [], ◌∷◌, ◌++◌, map, reverse, cond, Option, Some, refl, ap, sym, ◌∙◌, subst}
use Rattle.std.specs.Prelude.{◌==◌, slice_get}
use Rattle.std.specs.List.{flat_map}
use Rattle.std.specs.Option.{option_and_then, option_map, unwrap_or}
use Rattle.std.specs.Str.{bytes_eq}
use Rattle.std.proofs.lemmas.List.{map-append, reverse-append}
use Rattle.std.proofs.lemmas.Simd.{map-map}
use Rattle.ode_value.specs.declared.class.Class.{Class}
use Rattle.ode_value.specs.Classes as machine
use Rattle.ode_value.specs.GoodWorlds.{RiseFrom}
use Rattle.ode_value.specs.Worlds as worlds
use Rattle.ode_value.specs.Worlds.{Declared}
use Rattle.ode_types.specs.Checked.{AreChecked}
use Rattle.ode_types.specs.Families.{class_named, class_numbered, line_of, upward}
use Rattle.ode_states.specs.Machine.{checked}
use Rattle.ode_schema.specs.Parts.{family_in, trigger_under, triggers_in}
use Rattle.ode_schema.proofs.Lines.{line_goes}
use Rattle.ode_schema.proofs.Placed.{numbers_rise}

pub numbered_agree : (ds : List Declared) (number : ℕ) → class_numbered (checked ds) number ≡ worlds.class_numbered number ds
numbered_agree [] number = refl
numbered_agree (d ∷ ds) number = ap (cond (d.class.number == number) (Some d.class)) (numbered_agree ds number)

pub named_agree : (ds : List Declared) (name : List ℕ) → class_named (checked ds) name ≡ worlds.class_named name ds
named_agree [] name = refl
named_agree (d ∷ ds) name = ap (cond (bytes_eq d.class.name name) (Some d.class)) (named_agree ds name)

upward_agrees : (ds : List Declared) (number : ℕ) → upward number (checked ds) ≡ machine.upward number ds
upward_agrees [] number = refl
upward_agrees (d ∷ ds) number =
    ap (λ (up : List Class). cond (d.class.number == number) (d.class ∷ up) (upward number (checked ds))) (upward_agrees ds (unwrap_or d.class.parent 0))
    ∙ ap (λ (rest : List Class). cond (d.class.number == number) (d.class ∷ machine.upward (unwrap_or d.class.parent 0) ds) rest) (upward_agrees ds number)

reverse-checked : (ds : List Declared) → reverse (checked ds) ≡ checked (reverse ds)
reverse-checked [] = refl
reverse-checked (d ∷ ds) =
    reverse-append (d.class ∷ []) (checked ds) ∙ ap (λ (cs : List Class). cs ++ d.class ∷ []) (reverse-checked ds)
    ∙ sym (map-append (λ (e : Declared). e.class) (reverse ds) (d ∷ [])) ∙ sym (ap checked (reverse-append (d ∷ []) ds))

-- the line from a number up
pub line_agrees : (ds : List Declared) (number : ℕ) → upward number (reverse (checked ds)) ≡ machine.line_of ds number
line_agrees ds number = ap (upward number) (reverse-checked ds) ∙ upward_agrees (reverse ds) number

-- the same of classes that these came to
module _ (cs : List Class) (ds : List Declared) (are : checked ds ≡ cs) where
  pub numbered_by : (number : ℕ) → class_numbered cs number ≡ worlds.class_numbered number ds
  numbered_by number = ap (λ (es : List Class). class_numbered es number) (sym are) ∙ numbered_agree ds number

  pub named_by : (name : List ℕ) → class_named cs name ≡ worlds.class_named name ds
  named_by name = ap (λ (es : List Class). class_named es name) (sym are) ∙ named_agree ds name

  pub line_by : (number : ℕ) → upward number (reverse cs) ≡ machine.line_of ds number
  line_by number = ap (λ (es : List Class). upward number (reverse es)) (sym are) ∙ line_agrees ds number

  pub family_by : (number : ℕ) → family_in cs number ≡ machine.family ds number
  family_by number = ap reverse (line_by number)

  pub triggers_by : (number : ℕ) → triggers_in cs number ≡ machine.triggers_of ds number
  triggers_by number = ap (flat_map machine.own_triggers) (family_by number)

  pub trigger_by : (class place : ℕ) → option_map (λ t. machine.trigger_of class (place, t)) (trigger_under cs class place) ≡ machine.trigger_at ds class place
  trigger_by class place =
      ap (λ (o : Option Class). option_map (λ t. machine.trigger_of class (place, t)) (option_and_then (λ (c : Class). slice_get c.triggers place) o)) (numbered_by class)

  pub rise_by : AreChecked cs → RiseFrom 0 (map (λ (d : Declared). d.class.number) ds)
  rise_by checks = subst (RiseFrom 0) (ap (map (λ (c : Class). c.number)) (sym are) ∙ map-map (λ (c : Class). c.number) (λ (d : Declared). d.class) ds) (numbers_rise cs checks)

-- the line from a class that has its number
pub line_of_class : (ds : List Declared) → AreChecked (checked ds) → (number : ℕ) (c : Class) → class_numbered (checked ds) number ≡ Some c → machine.line_of ds number ≡ line_of (checked ds) c
line_of_class ds checks number c found = sym (line_agrees ds number) ∙ line_goes (checked ds) checks number c found
