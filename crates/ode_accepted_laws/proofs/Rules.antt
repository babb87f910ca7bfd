-- A language with the static rules has sound rules.
use Rattle.std.proofs.Common.{◌≡◌, ◌<◌, ◌+◌, ◌^◌, ℕ, List, [], ◌∷◌, ◌++◌, length, Ok, ap, sym, ◌∙◌, subst, arith}
use Rattle.std.specs.Prelude.{is_none, nat_lt}
use Rattle.std.proofs.lemmas.Bool.{ltb-true}
use Rattle.ode_value.specs.declared.change.Added.{Added}
use Rattle.ode_value.specs.declared.class.Class.{Class}
use Rattle.ode_value.specs.declared.reason.CheckError.TheVariants.{Duplicate, TooMany}
use Rattle.ode_value.specs.declared.statement.ClassDecl.{ClassDecl}
use Rattle.ode_value.specs.Changing.{added_to}
use Rattle.ode_value.specs.Language.{Language}
use Rattle.ode_value.specs.Worlds.{Declared}
use Rattle.ode_types.specs.Checked.{AreCheckedBehind}
use Rattle.ode_types.specs.Checks.{◌>>=◌, needs}
use Rattle.ode_types.specs.Declaring.{begins, numbered, parent_in, without_members}
use Rattle.ode_types.specs.Families.{class_named}
use Rattle.ode_types.specs.Limits.{classes_limit}
use Rattle.ode_types.specs.Static.{check_grown}
use Rattle.ode_types.proofs.CheckedClasses.{bind-ok, came_of, checked-next, needs-ok}
use Rattle.ode_types.proofs.KeptStatements.{typed_statement}
use Rattle.ode_sound_laws.specs.Sound.{checked_classes}
use Rattle.ode_accepted_laws.specs.Languages.{AreAccepted, HasSoundRules, HasStaticRules}
use Rattle.ode_accepted_laws.proofs.Accepted.{accepted_sound}
use Rattle.ode_accepted_laws.proofs.FieldLaws.{checked_born}
use Rattle.ode_accepted_laws.proofs.Listing.{kinds_few}

-- a number is left for a class that is checked
begins_room : (known : List Class) (d : ClassDecl) (start : Class) → begins known d ≡ Ok start → length known < classes_limit
unfolding begins
begins_room known d start h =
    let first = bind-ok (needs (Duplicate d.name) (is_none (class_named known d.name))) (λ _. parent_in known d.parent >>= (λ parent. numbered known d.name >>= (λ number. Ok (without_members number d.name parent)))) start h in
    let second = bind-ok (parent_in known d.parent) (λ parent. numbered known d.name >>= (λ number. Ok (without_members number d.name parent))) start first.2 in
    let third = bind-ok (numbered known d.name) (λ number. Ok (without_members number d.name second.0)) start second.2 in
    let left = bind-ok (needs (TooMany d.name) (nat_lt (length known) classes_limit)) (λ _. Ok (length known + 1)) third.0 third.1 in
    ltb-true (length known) classes_limit (needs-ok (TooMany d.name) (nat_lt (length known) classes_limit) left.0 left.1)

room : (known : List Class) (added : List Added) (d : ClassDecl) (c : Class) → check_grown known added d ≡ Ok c → length known < classes_limit
room known added d c h = let came = came_of known added d c h in begins_room known d came.start came.begun

bits : (n : ℕ) → n < classes_limit → n + 1 < 2 ^ 32
unfolding classes_limit
bits n less = omega (arith, less)

module _ (l : Language) (rules : HasStaticRules l) where
  checks : (cs : List Class) (added : List Added) (d : ClassDecl) (c : Class) → l.class_of cs added d ≡ Ok c → check_grown cs added d ≡ Ok c
  checks cs added d c h = ap (λ f. f cs added d) (sym rules.class_of) ∙ h

  all_checked : (added : List Added) (earlier : List Class) (cs : List Declared) → AreAccepted l added earlier cs → AreCheckedBehind earlier (checked_classes cs)
  all_checked added earlier [] all = tt
  all_checked added earlier (c ∷ cs) all =
      let own = added_to c.class.number added in
      (record { tree = c.tree; added = own; checks = checks earlier own c.tree c.class all.0 }, all_checked added (earlier ++ c.class ∷ []) cs all.1)

  number_is : (cs : List Class) (added : List Added) (d : ClassDecl) (c : Class) → l.class_of cs added d ≡ Ok c → (c.number ≡ length cs + 1) × (c.number < 2 ^ 32)
  number_is cs added d c h =
      let is : c.number ≡ length cs + 1 = (checked-next cs c (record { tree = d; added = added; checks = checks cs added d c h })).number in
      (is, subst (λ n. n < 2 ^ 32) (sym is) (bits (length cs) (room cs added d c (checks cs added d c h))))

  pub rules_sound : HasSoundRules l
  rules_sound = record {
    checked = λ cs literals s t h. typed_statement cs literals s t (ap (λ f. f cs literals s) (sym rules.checked) ∙ h);
    accepted = λ added cs all. accepted_sound cs (all_checked added [] cs all);
    kinds = λ added cs all. kinds_few l rules added [] cs tt all;
    numbered = number_is;
    fields = λ stamp cs added d c all were h. checked_born stamp cs added d c all were (checks cs added d c h);
  }
