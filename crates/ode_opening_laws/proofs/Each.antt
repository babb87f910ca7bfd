-- What holds of each of some.
use Rattle.std.proofs.Common.{◌<◌, ◌≤◌, ◌+◌, ℕ, zero, suc, List, [], ◌∷◌, ◌++◌, map, arith}
use Rattle.std.specs.List.{AllByRecursion, flat_map, range_with_len}

module _ {X : Type 0} (P : X → Type 0) where
  pub all_append : (xs ys : List X) → AllByRecursion P xs → AllByRecursion P ys → AllByRecursion P (xs ++ ys)
  all_append [] ys one other = other
  all_append (x ∷ xs) ys one other = (one.0, all_append xs ys one.1 other)

  pub all_before : (xs ys : List X) → AllByRecursion P (xs ++ ys) → AllByRecursion P xs
  all_before [] ys all = tt
  all_before (x ∷ xs) ys all = (all.0, all_before xs ys all.1)

  pub all_behind : (xs ys : List X) → AllByRecursion P (xs ++ ys) → AllByRecursion P ys
  all_behind [] ys all = all
  all_behind (x ∷ xs) ys all = all_behind xs ys all.1

  pub all_map : {Y : Type 0} (Q : Y → Type 0) (f : Y → X) → ((y : Y) → Q y → P (f y)) → (ys : List Y) → AllByRecursion Q ys → AllByRecursion P (map f ys)
  all_map Q f each [] all = tt
  all_map Q f each (y ∷ ys) all = (each y all.0, all_map Q f each ys all.1)

  pub all_flat : {Y : Type 0} (Q : Y → Type 0) (f : Y → List X) → ((y : Y) → Q y → AllByRecursion P (f y)) → (ys : List Y) → AllByRecursion Q ys → AllByRecursion P (flat_map f ys)
  all_flat Q f each [] all = tt
  all_flat Q f each (y ∷ ys) all = all_append (f y) (flat_map f ys) (each y all.0) (all_flat Q f each ys all.1)

pub all_then : {X : Type 0} (P Q : X → Type 0) → ((x : X) → P x → Q x) → (xs : List X) → AllByRecursion P xs → AllByRecursion Q xs
all_then P Q next [] all = tt
all_then P Q next (x ∷ xs) all = (next x all.0, all_then P Q next xs all.1)

pub all_both : {X : Type 0} (P Q : X → Type 0) (xs : List X) → AllByRecursion P xs → AllByRecursion Q xs → AllByRecursion (λ x. P x × Q x) xs
all_both P Q [] one other = tt
all_both P Q (x ∷ xs) one other = ((one.0, other.0), all_both P Q xs one.1 other.1)

-- of any
abbrev pub Any : {X : Type 0} → X → Type 0
Any x = Unit {0}

pub all_any : {X : Type 0} (xs : List X) → AllByRecursion Any xs
all_any [] = tt
all_any (x ∷ xs) = (tt, all_any xs)

-- numbers of a range
pub all_below : (first count most : ℕ) → first + count ≤ most → AllByRecursion (λ i. i < most) (range_with_len first count)
all_below first zero most few = tt
all_below first (suc n) most few = (omega (arith, few), all_below (first + 1) n most (omega (arith, few)))
