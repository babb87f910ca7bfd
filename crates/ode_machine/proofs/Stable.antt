-- One world alone is stable.
use Rattle.std.proofs.Common.{◌≡◌, ℕ, List, [], ◌∷◌, refl, ap, sym, ◌∙◌, Bool, true, false, subst}
use Rattle.std.proofs.lemmas.Bool.{eqb-true}
use Rattle.std.specs.Option.{MatchOption, option_and_then}
use Rattle.std.specs.Prelude.{Option, Some, None, ◌==◌, cond}
use Rattle.ode_value.specs.declared.value.Ref.{Ref}
use Rattle.ode_value.specs.Denoting.{denotes, object_of}
use Rattle.ode_value.specs.Versions.{Version, version_numbered, version_of}
use Rattle.ode_value.specs.Worlds.{Bones, Object}
use Rattle.ode_machine.specs.Stability.{IsHeld, IsStable, IsStableFor, SameVersion}

first_or_later : (n : ℕ) (w v : Version) (later : Option Version) → (later ≡ Some v → v.number ≡ n) → (b : Bool) → (w.number == n) ≡ b
    → cond b (Some w) later ≡ Some v → v.number ≡ n
first_or_later n w v later in_later true is e = let same : w ≡ v = cc in sym (ap (λ (u : Version). u.number) same) ∙ eqb-true w.number n is
first_or_later n w v later in_later false is e = in_later e

numbered : (n : ℕ) (vs : List Version) (v : Version) → version_numbered n vs ≡ Some v → v.number ≡ n
numbered n [] v e = absurd (cc)
numbered n (w ∷ vs) v e = first_or_later n w v (version_numbered n vs) (numbered n vs v) (w.number == n) refl e

named : (n : Option ℕ) (o : Option Object) (v : Version) → option_and_then (λ (p : Object). version_of n p.versions) o ≡ Some v → SameVersion n v
named None o v e = tt
named (Some n) None v e = absurd (cc)
named (Some n) (Some o) v e = numbered n o.versions v e

held : (w : Bones) (r : Ref) (v : Version) → denotes w r ≡ Some v → IsHeld r (w ∷ [])
held w r v e = subst (λ (o : Option Version). MatchOption o (Unit {0}) (λ u. SameVersion r.version u × Unit {0})) (sym e) (named r.version (object_of w r) v e, tt)

alone : (w : Bones) (r : Ref) (o : Option Version) → denotes w r ≡ o → IsStableFor r (w ∷ [])
alone w r None e = subst (λ (o : Option Version). MatchOption o (Unit {0}) (λ u. IsHeld r (w ∷ []))) (sym e) tt
alone w r (Some v) e = subst (λ (o : Option Version). MatchOption o (Unit {0}) (λ u. IsHeld r (w ∷ []))) (sym e) (held w r v e)

pub one_world : (w : Bones) → IsStable w []
one_world w = record { references = λ r. alone w r (denotes w r) refl; numbers = tt }
