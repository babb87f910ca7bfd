-- Where a test stops passing along keys that rise.
use Rattle.std.proofs.Common.{◌≡◌, ℕ, zero, suc, ◌<◌, ◌≤◌, List, [], ◌∷◌, take, drop, length, slice_index_or, Bool, true, false, cond, refl, sym, ap, ◌∙◌, arith}
use Rattle.std.specs.Prelude.{not, ◌&&◌, ◌==◌}
use Rattle.std.specs.List.{AllByRecursion, filter}
use Rattle.std.specs.List.Sorted.{IsPartitionPoint, IsPartitionedBy, IsStrictlySortedBy}
use Rattle.std.specs.Map.{keys_of}
use Rattle.std.specs.declared.cmp.Ordering.TheVariants.{Less}
use Rattle.std.proofs.lemmas.Bool.Decides.{nat_tests}
use Rattle.ode_keep.specs.Entries.{HasRisingKeys}
use Rattle.ode_value.specs.Keys.{key_cmp}
use Rattle.ode_value.specs.declared.key.Key.{Key}
use Rattle.ode_dump.specs.Order.{Lines, under}
use Rattle.ode_dump.specs.Searching.{is_before, is_up_to}

-- what passes of keys is what comes before the others
pub record Falls (test : Key → Bool) : Type 0 where
  pub falls : (k l : Key) → key_cmp k l ≡ Less → test l ≡ true → test k ≡ true

pub before_falls : (kind a : ℕ) → Falls (is_before kind a)
before_falls kind a = record { falls = λ k l less passes. grind (arith, nat_tests) }

pub up_to_falls : (kind a : ℕ) → Falls (is_up_to kind a)
up_to_falls kind a = record { falls = λ k l less passes. grind (arith, nat_tests) }

module _ {X : Type 0} (test : Key → Bool) (falls : Falls test) where
  first_passes : (k : Key) (xs : List (Key × X)) (j : ℕ) (d : Key × X) → AllByRecursion (λ l. key_cmp k l ≡ Less) (keys_of xs) → j < length xs
      → test (slice_index_or xs j d).0 ≡ true → test k ≡ true
  first_passes k [] j d above inside passes = absurd (omega arith)
  first_passes k (x ∷ xs) zero d above inside passes = falls.falls k x.0 above.0 passes
  first_passes k (x ∷ xs) (suc j) d above inside passes = first_passes k xs j d above.1 (omega arith) passes

  pub parted : (xs : List (Key × X)) → HasRisingKeys xs → IsPartitionedBy (λ x. test x.0) xs
  unfolding IsStrictlySortedBy
  parted [] rising i j d before inside passes = absurd (omega arith)
  parted (x ∷ xs) rising zero zero d before inside passes = passes
  parted (x ∷ xs) rising zero (suc j) d before inside passes = first_passes x.0 xs j d rising.0 (omega arith) passes
  parted (x ∷ xs) rising (suc i) zero d before inside passes = absurd (omega arith)
  parted (x ∷ xs) rising (suc i) (suc j) d before inside passes = parted xs rising.1 i j d (omega arith) (omega arith) passes

module _ {X : Type 0} (p : X → Bool) where
  abbrev Parts : List X → ℕ → Type 0
  Parts xs i = IsPartitionPoint (λ x. p x ≡ true) (λ x. p x ≡ false) xs i

  rest_parts : (x : X) (xs : List X) (i : ℕ) → Parts (x ∷ xs) (suc i) → Parts xs i
  rest_parts x xs i parts = (λ k d low high. parts.0 (suc k) d (omega arith) (omega arith), λ k d low high. parts.1 (suc k) d (omega arith) (omega arith))

  rest_fails : (x : X) (xs : List X) → Parts (x ∷ xs) 0 → Parts xs 0
  rest_fails x xs parts = (λ k d low high. absurd (omega arith), λ k d low high. parts.1 (suc k) d (omega arith) (omega arith))

  -- what passes stands in front
  pub taken : (xs : List X) (i : ℕ) → i ≤ length xs → Parts xs i → take i xs ≡ filter p xs
  taken [] zero inside parts = refl
  taken [] (suc i) inside parts = absurd (omega arith)
  taken (x ∷ xs) zero inside parts =
      let fails : p x ≡ false = parts.1 0 x (omega arith) (omega arith) in
      taken xs 0 (omega arith) (rest_fails x xs parts) ∙ sym (ap (λ b. cond b (x ∷ filter p xs) (filter p xs)) fails)
  taken (x ∷ xs) (suc i) inside parts =
      let passes : p x ≡ true = parts.0 0 x (omega arith) (omega arith) in
      ap (λ ys. x ∷ ys) (taken xs i (omega arith) (rest_parts x xs i parts)) ∙ sym (ap (λ b. cond b (x ∷ filter p xs) (filter p xs)) passes)

  -- and what fails behind
  pub dropped : (xs : List X) (i : ℕ) → i ≤ length xs → Parts xs i → drop i xs ≡ filter (λ x. not (p x)) xs
  dropped [] zero inside parts = refl
  dropped [] (suc i) inside parts = absurd (omega arith)
  dropped (x ∷ xs) zero inside parts =
      let fails : p x ≡ false = parts.1 0 x (omega arith) (omega arith) in
      ap (λ ys. x ∷ ys) (dropped xs 0 (omega arith) (rest_fails x xs parts))
      ∙ sym (ap (λ b. cond (not b) (x ∷ filter (λ x. not (p x)) xs) (filter (λ x. not (p x)) xs)) fails)
  dropped (x ∷ xs) (suc i) inside parts =
      let passes : p x ≡ true = parts.0 0 x (omega arith) (omega arith) in
      dropped xs i (omega arith) (rest_parts x xs i parts)
      ∙ sym (ap (λ b. cond (not b) (x ∷ filter (λ x. not (p x)) xs) (filter (λ x. not (p x)) xs)) passes)

-- ---- both tests are those of one kind and first number

at_both : (kind a : ℕ) (k : Key) → is_up_to kind a k && not (is_before kind a k) ≡ (k.kind == kind) && (k.a == a)
at_both kind a k = grind (arith, nat_tests)

module _ {X : Type 0} (p q r : X → Bool) (both : (x : X) → p x && q x ≡ r x) where
  filtered_at : (x : X) (xs : List X) (b c : Bool) → filter q (filter p xs) ≡ filter r xs → p x ≡ b → b && q x ≡ c
      → filter q (cond b (x ∷ filter p xs) (filter p xs)) ≡ cond c (x ∷ filter r xs) (filter r xs)
  filtered_at x xs true c more is test =
      ap (λ t. cond t (x ∷ filter q (filter p xs)) (filter q (filter p xs))) test ∙ ap (λ ys. cond c (x ∷ ys) ys) more
  filtered_at x xs false c more is test = more ∙ ap (λ t. cond t (x ∷ filter r xs) (filter r xs)) test

  pub filtered : (xs : List X) → filter q (filter p xs) ≡ filter r xs
  filtered [] = refl
  filtered (x ∷ xs) = filtered_at x xs (p x) (r x) (filtered xs) refl (both x)

pub both_under : (kind a : ℕ) (lines : Lines) → filter (λ l. not (is_before kind a l.0)) (filter (λ l. is_up_to kind a l.0) lines) ≡ under kind a lines
both_under kind a lines = filtered (λ l. is_up_to kind a l.0) (λ l. not (is_before kind a l.0)) (λ l. (l.0.kind == kind) && (l.0.a == a)) (λ l. at_both kind a l.0) lines
