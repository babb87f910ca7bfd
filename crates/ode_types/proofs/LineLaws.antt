-- Lines of ancestors among numbered classes.
use Rattle.std.proofs.Common.{◌≡◌, ℕ, zero, suc, ◌+◌, List, [], ◌∷◌, ◌++◌, length, map, reverse, Bool, true, false, cond, Some, None, Option, refl, ap, sym, ◌∙◌, ◌<◌, ◌≤◌, arith, take}
use Rattle.std.proofs.lemmas.Bool.Decides.{nat_tests}
use Rattle.std.proofs.lemmas.List.{append-nil, reverse-append}
use Rattle.std.proofs.lemmas.List.Folds.{find-append}
use Rattle.std.specs.Prelude.{◌==◌}
use Rattle.std.specs.List.{slice_get, range_with_len, find}
use Rattle.std.specs.Option.{option_map_or, option_or, unwrap_or}
use Rattle.ode_value.specs.declared.class.Class.{Class}
use Rattle.ode_types.specs.Families.{upward}
use Rattle.ode_types.specs.Indexed.{AreNumbered}
use Rattle.ode_types.specs.Lines.{headed}

-- one among some classes, and else the one behind them
pub found_behind : (p : Class → Bool) (xs ys : List Class) → find p (xs ++ ys) ≡ option_or (find p xs) (find p ys)
found_behind p xs ys = find-append p xs ys

-- declared classes alone
pub nothing_behind : (xs : List Class) → xs ++ [] ≡ xs
nothing_behind xs = append-nil xs

-- the number of the class at a place
number_at : (a : ℕ) (xs : List Class) → map (λ (c : Class). c.number) xs ≡ range_with_len a (length xs) → (k : ℕ) (c : Class) → slice_get xs k ≡ Some c → c.number ≡ a + k
number_at a [] h k c g = absurd (cc)
number_at a (x ∷ xs) h zero c g =
    let first : x.number ≡ a = cc in
    let same : x ≡ c = cc in
    ap (λ (d : Class). d.number) (sym same) ∙ first ∙ omega arith
number_at a (x ∷ xs) h (suc k) c g =
    let rest : map (λ (d : Class). d.number) xs ≡ range_with_len (a + 1) (length xs) = cc in
    number_at (a + 1) xs rest k c g ∙ omega arith

-- one class more
take-there : (xs : List Class) (k : ℕ) (c : Class) → slice_get xs k ≡ Some c → take (suc k) xs ≡ take k xs ++ c ∷ []
take-there [] k c g = absurd (cc)
take-there (x ∷ xs) zero c g = let same : x ≡ c = cc in ap (λ d. d ∷ []) same
take-there (x ∷ xs) (suc k) c g = ap (λ ds. x ∷ ds) (take-there xs k c g)

take-none : (xs : List Class) (k : ℕ) → slice_get xs k ≡ None → take (suc k) xs ≡ take k xs
take-none [] zero g = refl
take-none [] (suc k) g = refl
take-none (x ∷ xs) zero g = absurd (cc)
take-none (x ∷ xs) (suc k) g = ap (λ ds. x ∷ ds) (take-none xs k g)

same_number : (m n : ℕ) → m ≡ n → (m == n) ≡ true
same_number m n h = grind (arith, nat_tests)

other_number : (m n : ℕ) → (m ≡ n → ⊥) → (m == n) ≡ false
other_number m n h = grind (arith, nat_tests)

-- the line from the last of some classes, where it has the number, and else from one before it
upward-last : (n : ℕ) (cs : List Class) (c : Class) → upward n (reverse (cs ++ c ∷ [])) ≡ cond (c.number == n) (c ∷ upward (unwrap_or c.parent 0) (reverse cs)) (upward n (reverse cs))
upward-last n cs c = ap (upward n) (reverse-append cs (c ∷ []))

-- a test of numbers, either way
by_test : {A : Type 0} (m n : ℕ) → ((m == n) ≡ true → m ≡ n → A) → ((m == n) ≡ false → (m ≡ n → ⊥) → A) → A
by_test {A} m n here past = by (m == n) refl where
  by : (b : Bool) → (m == n) ≡ b → A
  by true h = here h (grind (arith, nat_tests))
  by false h = past h (λ e. absurd (cc (h, same_number m n e)))

module _ (cs : List Class) (numbered : AreNumbered cs) where
  -- one class more to look among
  more-none : (k n : ℕ) → slice_get cs k ≡ None → upward n (reverse (take (suc k) cs)) ≡ upward n (reverse (take k cs))
  more-none k n g = ap (λ ds. upward n (reverse ds)) (take-none cs k g)

  more-there : (k n : ℕ) (c : Class) → slice_get cs k ≡ Some c → (c.number == n) ≡ true → upward n (reverse (take (suc k) cs)) ≡ c ∷ upward (unwrap_or c.parent 0) (reverse (take k cs))
  more-there k n c g is = ap (λ ds. upward n (reverse ds)) (take-there cs k c g) ∙ upward-last n (take k cs) c ∙ rw is refl

  more-other : (k n : ℕ) (c : Class) → slice_get cs k ≡ Some c → (c.number ≡ n → ⊥) → upward n (reverse (take (suc k) cs)) ≡ upward n (reverse (take k cs))
  more-other k n c g other = ap (λ ds. upward n (reverse ds)) (take-there cs k c g) ∙ upward-last n (take k cs) c ∙ rw (other_number c.number n other) refl

  number_there : (k : ℕ) (c : Class) → slice_get cs k ≡ Some c → c.number ≡ 1 + k
  number_there k c g = number_at 1 cs numbered k c g

  -- a number that the class at this place doesn't have
  more-past : (k n : ℕ) → (n ≡ 1 + k → ⊥) → upward n (reverse (take (suc k) cs)) ≡ upward n (reverse (take k cs))
  more-past k n other = by_place (slice_get cs k) refl where
    by_place : (g : Option Class) → slice_get cs k ≡ g → upward n (reverse (take (suc k) cs)) ≡ upward n (reverse (take k cs))
    by_place None g = more-none k n g
    by_place (Some c) g = more-other k n c g (λ h. other (sym h ∙ number_there k c g))

  -- no class has number 0, and the first ones have no number above theirs
  pub upward-zero : (k : ℕ) → upward 0 (reverse (take k cs)) ≡ []
  upward-zero zero = refl
  upward-zero (suc k) = more-past k 0 (λ h. absurd (omega arith)) ∙ upward-zero k

  pub upward-above : (k p : ℕ) → k ≤ p → upward (suc p) (reverse (take k cs)) ≡ []
  upward-above zero p low = refl
  upward-above (suc k) p low = more-past k (suc p) (λ h. absurd (omega arith)) ∙ upward-above k p (omega arith)

  -- the line from the class at a place, and from none
  at_place : (k p : ℕ) (g : Option Class) → slice_get cs p ≡ g → k ≡ p → upward (suc p) (reverse (take (suc k) cs)) ≡ headed g (upward (option_map_or (λ (d : Class). unwrap_or d.parent 0) g 0) (reverse (take p cs)))
  at_place k p None g is = ap (λ m. upward (suc p) (reverse (take (suc m) cs))) is ∙ more-none p (suc p) g ∙ upward-above p p (omega arith)
  at_place k p (Some c) g is =
      ap (λ m. upward (suc p) (reverse (take (suc m) cs))) is
      ∙ more-there p (suc p) c g (same_number c.number (suc p) (number_there p c g ∙ omega arith))

  pub upward-from : (k p : ℕ) (g : Option Class) → slice_get cs p ≡ g → p < k → upward (suc p) (reverse (take k cs)) ≡ headed g (upward (option_map_or (λ (d : Class). unwrap_or d.parent 0) g 0) (reverse (take p cs)))
  upward-from zero p g at low = absurd (omega arith)
  upward-from (suc k) p g at low =
      by_test k p (λ _ is. at_place k p g at is)
      (λ _ other. more-past k (suc p) (λ h. other (omega arith)) ∙ upward-from k p g at (omega (arith, other)))
