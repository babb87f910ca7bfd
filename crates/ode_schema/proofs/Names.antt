-- A trigger's name is one in the line of a class, so it is found from either end.
use Rattle.std.proofs.Common.{◌≡◌, ◌≤◌, ◌<◌, ℕ, zero, suc, ◌+◌, List, [], ◌∷◌, ◌++◌, map, length, reverse, take, Bool, true, false, cond, Option, Some, None, refl, ap, sym, ◌∙◌, subst, arith, append-nil}
use Rattle.std.specs.List.{AllByRecursion, enumerate_from, find, flat_map}
use Rattle.std.specs.Option.{option_map, option_or, unwrap_or}
use Rattle.std.specs.Str.{bytes_eq}
use Rattle.std.proofs.lemmas.Grind.{flat_map-append}
use Rattle.std.proofs.lemmas.List.{reverse-append}
use Rattle.std.proofs.lemmas.List.Folds.{find-append}
use Rattle.std.proofs.lemmas.Option.{slice_get_within}
use Rattle.std.proofs.lemmas.Slice.Eq.{bytes_eq-Decides}
use Rattle.ode_value.specs.declared.class.Class.{Class}
use Rattle.ode_value.specs.declared.member.TriggerDecl.{TriggerDecl}
use Rattle.ode_value.specs.Classes as machine
use Rattle.ode_value.specs.Classes.{Trigger, own_triggers, trigger_of}
use Rattle.ode_value.specs.Worlds.{Declared}
use Rattle.ode_types.specs.Checked.{AreChecked}
use Rattle.ode_types.specs.Families.{ancestors_of, class_numbered, line_of, trigger_named, upward}
use Rattle.ode_states.specs.Machine.{checked}
use Rattle.ode_schema.proofs.Agree.{triggers_by}
use Rattle.ode_schema.proofs.Lines.{line_below, line_ends, line_goes}
use Rattle.ode_schema.proofs.Members.{IsFresh, names_of}
use Rattle.ode_schema.proofs.Placed.{at_place, before, place_of}

-- no class of a line has a trigger of these names
abbrev AreNew : List Class → List (List ℕ) → Type 0
AreNew line names = AllByRecursion (λ n. trigger_named line n ≡ None) names

-- each class of a line has triggers of other names than those above it
abbrev Apart : List Class → Type 0
Apart [] = Unit {0}
Apart (c ∷ line) = AreNew line (names_of c.triggers) × Apart line

are_new : (known : List Class) (c : Class) (line : List Class) → ancestors_of known c ≡ line → (names : List (List ℕ)) → AllByRecursion (IsFresh known c) names → AreNew line names
are_new known c line is [] fresh = tt
are_new known c line is (n ∷ names) fresh = (ap (λ (l : List Class). trigger_named l n) (sym is) ∙ fresh.0, are_new known c line is names fresh.1)

module _ (cs : List Class) (checks : AreChecked cs) where
  -- by what holds of the lines below a number
  apart_at : (n : ℕ) → ((m : ℕ) → m < n → Apart (upward m (reverse cs))) → (o : Option Class) → class_numbered cs n ≡ o → Apart (upward n (reverse cs))
  apart_at n below None found = subst Apart (sym (line_ends cs checks n found)) tt
  apart_at n below (Some c) found =
      let at = place_of cs checks n c found in
      let p = at.0 in
      let behind = at_place cs checks p c at.2 in
      let within : p < length cs = slice_get_within cs p c at.2 in
      let low : unwrap_or c.parent 0 ≤ p = omega (arith, behind.parent, before cs checks p c at.2) in
      subst Apart (sym (line_goes cs checks n c found)) (
        are_new (take p cs) c (upward (unwrap_or c.parent 0) (reverse cs)) (line_below cs checks (unwrap_or c.parent 0) p low (omega arith)) (names_of c.triggers) behind.triggers.fresh,
        below (unwrap_or c.parent 0) (omega (arith, low, at.1)),
      )

  apart_within : (k n : ℕ) → n < k → Apart (upward n (reverse cs))
  apart_within zero n less = absurd (omega arith)
  apart_within (suc k) n less = apart_at n (λ m lower. apart_within k m (omega arith)) (class_numbered cs n) refl

  pub apart_line : (n : ℕ) → Apart (upward n (reverse cs))
  apart_line n = apart_within (suc n) n (omega arith)

module _ (name : List ℕ) where
  abbrev is_it : TriggerDecl → Bool
  is_it t = bytes_eq t.name name

  abbrev is_placed : Trigger → Bool
  is_placed t = is_it t.decl

  own_found : (class from : ℕ) (ts : List TriggerDecl) → option_map (λ (t : Trigger). t.decl) (find is_placed (map (trigger_of class) (enumerate_from from ts))) ≡ find is_it ts
  own_found class from [] = refl
  own_found class from (t ∷ ts) = by_test (is_it t) (own_found class (from + 1) ts) where
    by_test : (b : Bool) → option_map (λ (u : Trigger). u.decl) (find is_placed (map (trigger_of class) (enumerate_from (from + 1) ts))) ≡ find is_it ts
        → option_map (λ (u : Trigger). u.decl) (cond b (Some (trigger_of class (from, t))) (find is_placed (map (trigger_of class) (enumerate_from (from + 1) ts)))) ≡ cond b (Some t) (find is_it ts)
    by_test true rest = refl
    by_test false rest = rest

  none_above : (line : List Class) (ts : List TriggerDecl) (t : TriggerDecl) → AreNew line (names_of ts) → find is_it ts ≡ Some t → trigger_named line name ≡ None
  none_above line [] t new found = absurd (cc)
  none_above line (u ∷ ts) t new found = by_test (is_it u) refl found (none_above line ts t new.1) where
    by_test : (b : Bool) → is_it u ≡ b → cond b (Some u) (find is_it ts) ≡ Some t → (find is_it ts ≡ Some t → trigger_named line name ≡ None) → trigger_named line name ≡ None
    by_test true is e rest = let same : u.name ≡ name = (bytes_eq-Decides u.name name).0 is in ap (trigger_named line) (sym same) ∙ new.0
    by_test false is e rest = rest e

  either : {X Y : Type 0} (f : X → Y) (o p : Option X) → option_map f (option_or o p) ≡ option_or (option_map f o) (option_map f p)
  either f None p = refl
  either f (Some x) p = refl

  turned : {X : Type 0} (o p : Option X) → ((x : X) → p ≡ Some x → o ≡ None) → option_or o p ≡ option_or p o
  turned None None one = refl
  turned None (Some x) one = refl
  turned (Some y) None one = refl
  turned (Some y) (Some x) one = let none = one x refl in absurd (cc)

  from_above : (line : List Class) → Apart line
      → option_map (λ (t : Trigger). t.decl) (find is_placed (flat_map own_triggers (reverse line))) ≡ trigger_named line name
  from_above [] apart = refl
  from_above (c ∷ line) apart =
      let above = find is_placed (flat_map own_triggers (reverse line)) in
      let own = find is_placed (own_triggers c) in
      ap (λ (l : List Class). option_map (λ (t : Trigger). t.decl) (find is_placed (flat_map own_triggers l))) (reverse-append (c ∷ []) line)
      ∙ ap (λ (l : List Trigger). option_map (λ (t : Trigger). t.decl) (find is_placed l))
      (flat_map-append own_triggers (reverse line) (c ∷ []) ∙ ap (λ (l : List Trigger). flat_map own_triggers (reverse line) ++ l) (append-nil (own_triggers c)))
      ∙ ap (option_map (λ (t : Trigger). t.decl)) (find-append is_placed (flat_map own_triggers (reverse line)) (own_triggers c))
      ∙ either (λ (t : Trigger). t.decl) above own
      ∙ ap (λ o. option_or o (option_map (λ (t : Trigger). t.decl) own)) (from_above line apart.1)
      ∙ ap (option_or (trigger_named line name)) (own_found c.number 0 c.triggers)
      ∙ turned (trigger_named line name) (find is_it c.triggers) (λ t found. none_above line c.triggers t apart.0 found)
      ∙ sym (find-append is_it c.triggers (flat_map (λ (d : Class). d.triggers) line))

-- the machine's trigger of a name is the one that the checks find
pub trigger_agrees : (ds : List Declared) → AreChecked (checked ds) → (number : ℕ) (c : Class) → class_numbered (checked ds) number ≡ Some c → (name : List ℕ)
    → option_map (λ (t : Trigger). t.decl) (machine.trigger_named ds number name) ≡ trigger_named (line_of (checked ds) c) name
trigger_agrees ds checks number c found name =
    ap (λ (ts : List Trigger). option_map (λ (t : Trigger). t.decl) (find (λ (t : Trigger). bytes_eq t.decl.name name) ts)) (sym (triggers_by (checked ds) ds refl number))
    ∙ from_above name (upward number (reverse (checked ds))) (apart_line (checked ds) checks number)
    ∙ ap (λ (l : List Class). trigger_named l name) (line_goes (checked ds) checks number c found)
