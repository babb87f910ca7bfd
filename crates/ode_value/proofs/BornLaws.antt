-- A version has all of its values in its record, where all fields were there at its stamp.
use Rattle.std.proofs.Common.{◌≡◌, ℕ, List, [], ◌∷◌, ◌∙◌, cond, true, refl, ap, arith}
use Rattle.std.specs.List.{AllByRecursion, AllZip}
use Rattle.std.proofs.lemmas.Bool.Decides.{nat_tests}
use Rattle.ode_value.specs.Fields.{IsBorn, born_values, is_born}
use Rattle.ode_value.specs.declared.class.Field.{Field}
use Rattle.ode_value.specs.declared.value.Value.{Value}

one_born : (stamp : ℕ) (f : Field) → IsBorn stamp f → is_born stamp f ≡ true
one_born stamp f is = grind (arith, nat_tests, is)

pub all_born : (R : Field → Value → Type 0) (stamp : ℕ) (fs : List Field) (vs : List Value) → AllByRecursion (IsBorn stamp) fs → AllZip R fs vs → born_values stamp fs vs ≡ vs
all_born R stamp [] [] all fit = refl
all_born R stamp [] (v ∷ vs) all fit = absurd fit
all_born R stamp (f ∷ fs) [] all fit = absurd fit
all_born R stamp (f ∷ fs) (v ∷ vs) all fit =
    ap (λ b. cond b (v ∷ born_values stamp fs vs) (born_values stamp fs vs)) (one_born stamp f all.0) ∙ ap (λ (ws : List Value). v ∷ ws) (all_born R stamp fs vs all.1 fit.1)
