-- Parts of the bytes of records that are the same.
use Rattle.std.proofs.Common.{◌≡◌, ◌+◌, ℕ, List, [], ◌∷◌, ◌++◌, length, refl, sym, ap, ◌∙◌, arith, length-append}
use Rattle.std.specs.Int.{w16, w32, to_be_bytes}

head_of : {X : Type 0} → X → List X → X
head_of d [] = d
head_of d (x ∷ xs) = x

tail_of : {X : Type 0} → List X → List X
tail_of [] = []
tail_of (x ∷ xs) = xs

-- where the fronts are equally long
pub same_parts : {X : Type 0} (us vs cs ds : List X) → length us ≡ length vs → us ++ cs ≡ vs ++ ds → (us ≡ vs) × (cs ≡ ds)
unfolding head_of tail_of
same_parts [] [] cs ds long same = (refl, same)
same_parts {X} (a ∷ us) (b ∷ vs) cs ds long same =
    let rest = same_parts us vs cs ds (omega (arith, long)) (ap (λ (xs : List X). tail_of xs) same) in
    let first : a ≡ b = ap (head_of a) same in
    (ap (λ (x : X). x ∷ us) first ∙ ap (λ (xs : List X). b ∷ xs) rest.0, rest.1)
same_parts [] (b ∷ vs) cs ds long same = absurd (omega (arith, long))
same_parts (a ∷ us) [] cs ds long same = absurd (omega (arith, long))

two : (n : ℕ) → length (to_be_bytes w16 n) ≡ 2
two n = refl

four : (n : ℕ) → length (to_be_bytes w32 n) ≡ 4
four n = refl

-- two numbers of four bytes
pub second_same : (a b c d : ℕ) → to_be_bytes w32 a ++ to_be_bytes w32 b ≡ to_be_bytes w32 c ++ to_be_bytes w32 d → to_be_bytes w32 b ≡ to_be_bytes w32 d
second_same a b c d same = (same_parts (to_be_bytes w32 a) (to_be_bytes w32 c) (to_be_bytes w32 b) (to_be_bytes w32 d) (four a ∙ sym (four c)) same).1

-- a number of two bytes behind one of four and one of two
pub third_same : (a b c d e f : ℕ) (xs ys : List ℕ) → to_be_bytes w32 a ++ to_be_bytes w16 b ++ to_be_bytes w16 c ++ xs ≡ to_be_bytes w32 d ++ to_be_bytes w16 e ++ to_be_bytes w16 f ++ ys
    → to_be_bytes w16 c ≡ to_be_bytes w16 f
third_same a b c d e f xs ys same =
    let front : ℕ → ℕ → List ℕ = λ m n. to_be_bytes w32 m ++ to_be_bytes w16 n in
    let six : (m n : ℕ) → length (front m n) ≡ 6 = λ m n. length-append (to_be_bytes w32 m) (to_be_bytes w16 n) in
    let eight : (m n k : ℕ) → length (front m n ++ to_be_bytes w16 k) ≡ 8 = λ m n k. length-append (front m n) (to_be_bytes w16 k) ∙ ap (λ i. i + 2) (six m n) in
    let fronts = same_parts (front a b ++ to_be_bytes w16 c) (front d e ++ to_be_bytes w16 f) xs ys (eight a b c ∙ sym (eight d e f)) same in
    (same_parts (front a b) (front d e) (to_be_bytes w16 c) (to_be_bytes w16 f) (six a b ∙ sym (six d e)) fronts.0).1
