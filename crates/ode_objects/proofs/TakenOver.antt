-- States that are taken over one after another.
use Rattle.std.proofs.Common.{◌≡◌, ◌<◌, ◌≤◌, ℕ, zero, suc, List, [], ◌∷◌, length, take, get_or, set, refl, ap, ◌∙◌, arith}
use Rattle.ode_objects.specs.Objects.{taken_by, taken_over}
use Rattle.ode_objects.specs.declared.object.Active.{Active}
use Rattle.ode_types.specs.declared.running.Running.{Running}

-- one more
pub take_more : (rs : List Running) (xs : List Active) (i : ℕ) (r : Running) (a : Active) → i < length rs → i < length xs → r ≡ get_or rs i r
    → a ≡ get_or (taken_over (take i rs) xs) i a → set (taken_over (take i rs) xs) i (taken_by r a) ≡ taken_over (take (suc i) rs) xs
take_more [] xs i r a few more is_r is_a = absurd (omega arith)
take_more (s ∷ rs) [] i r a few more is_r is_a = absurd (omega arith)
take_more (s ∷ rs) (b ∷ xs) zero r a few more is_r is_a = ap (λ (q : Running). taken_by q a ∷ xs) is_r ∙ ap (λ (q : Active). taken_by s q ∷ xs) is_a
take_more (s ∷ rs) (b ∷ xs) (suc i) r a few more is_r is_a = ap (λ (ys : List Active). taken_by s b ∷ ys) (take_more rs xs i r a (omega arith) (omega arith) is_r is_a)

-- there is none for one more
pub take_past : (rs : List Running) (xs : List Active) (i : ℕ) → length xs ≤ i → taken_over (take (suc i) rs) xs ≡ taken_over (take i rs) xs
take_past [] xs zero past = refl
take_past [] xs (suc i) past = refl
take_past (s ∷ rs) [] zero past = refl
take_past (s ∷ rs) [] (suc i) past = refl
take_past (s ∷ rs) (b ∷ xs) zero past = absurd (omega arith)
take_past (s ∷ rs) (b ∷ xs) (suc i) past = ap (λ (ys : List Active). taken_by s b ∷ ys) (take_past rs xs i (omega arith))

pub length-taken_over : (rs : List Running) (xs : List Active) → length (taken_over rs xs) ≡ length xs
length-taken_over [] xs = refl
length-taken_over (s ∷ rs) [] = refl
length-taken_over (s ∷ rs) (b ∷ xs) = omega (arith, length-taken_over rs xs)
