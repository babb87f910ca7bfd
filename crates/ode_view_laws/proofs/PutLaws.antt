-- Members that are put in their places: what is found then, that the numbers still rise, and that no other list is like that.
use Rattle.std.proofs.Common.{◌≡◌, ℕ, ◌+◌, ◌<◌, ◌≤◌, Bool, true, false, cond, List, [], ◌∷◌, map, ◌==◌, Option, Some, None, refl, sym, ap, ◌∙◌, subst, arith}
use Rattle.std.specs.Prelude.{nat_lt}
use Rattle.std.specs.List.{find}
use Rattle.std.proofs.lemmas.Bool.{eqb-true, eq-eqb}
use Rattle.std.proofs.lemmas.Bool.Decides.{nat_tests}
use Rattle.ode_value.specs.GoodWorlds.{RiseFrom}
use Rattle.ode_view_laws.specs.Putting.{put}

below : (a b : ℕ) → nat_lt a b ≡ true → a < b
below a b is = grind (arith, nat_tests)

not_below : (a b : ℕ) → nat_lt a b ≡ false → (a == b) ≡ false → b + 1 ≤ a
not_below a b is other = grind (arith, nat_tests)

apart : (a b n : ℕ) → a < b → (a == n) ≡ true → (b == n) ≡ true → ⊥
apart a b n less p q = let e : a ≡ n = eqb-true a n p in let f : b ≡ n = eqb-true b n q in absurd (omega (arith, less, e, f))

-- two tests of which at most one holds go in either order
either_way : {A : Type 0} (a b : Bool) → (a ≡ true → b ≡ true → ⊥) → (x y z : A) → cond a x (cond b y z) ≡ cond b y (cond a x z)
either_way true true h x y z = absurd (h refl refl)
either_way true false h x y z = refl
either_way false b h x y z = refl

module _ {X : Type 0} (number : X → ℕ) where
  abbrev pub at : ℕ → X → Bool
  at n x = number x == n

  -- a member is found by its number, and the others are found as before
  pub find_put : (x : X) (n : ℕ) (xs : List X) → find (at n) (put number x xs) ≡ cond (number x == n) (Some x) (find (at n) xs)
  find_put x n [] = refl
  find_put x n (y ∷ ys) = by_tests (nat_lt (number y) (number x)) (number y == number x) refl refl (find_put x n ys) where
    same_found : (a b : Bool) → a ≡ b → cond b (Some x) (find (at n) ys) ≡ cond b (Some x) (cond a (Some y) (find (at n) ys))
    same_found true true e = refl
    same_found false false e = refl
    same_found true false e = absurd (cc)
    same_found false true e = absurd (cc)

    by_tests : (a b : Bool) → nat_lt (number y) (number x) ≡ a → (number y == number x) ≡ b → find (at n) (put number x ys) ≡ cond (number x == n) (Some x) (find (at n) ys)
        → find (at n) (cond a (y ∷ put number x ys) (cond b (x ∷ ys) (x ∷ y ∷ ys))) ≡ cond (number x == n) (Some x) (cond (number y == n) (Some y) (find (at n) ys))
    by_tests true b e f rest =
        ap (λ (o : Option X). cond (number y == n) (Some y) o) rest
        ∙ either_way (number y == n) (number x == n) (apart (number y) (number x) n (below (number y) (number x) e)) (Some y) (Some x) (find (at n) ys)
    by_tests false true e f rest = same_found (number y == n) (number x == n) (ap (λ m. m == n) (eqb-true (number y) (number x) f))
    by_tests false false e f rest = refl

  -- the numbers still rise
  pub rise_put : (x : X) (low : ℕ) (xs : List X) → low ≤ number x → RiseFrom low (map number xs) → RiseFrom low (map number (put number x xs))
  rise_put x low [] least rise = (least, tt)
  rise_put x low (y ∷ ys) least rise = by_tests (nat_lt (number y) (number x)) (number y == number x) refl refl (λ less. rise_put x (number y + 1) ys less rise.1) where
    by_tests : (a b : Bool) → nat_lt (number y) (number x) ≡ a → (number y == number x) ≡ b
        → (number y + 1 ≤ number x → RiseFrom (number y + 1) (map number (put number x ys)))
        → RiseFrom low (map number (cond a (y ∷ put number x ys) (cond b (x ∷ ys) (x ∷ y ∷ ys))))
    by_tests true b e f rest =
        let less : number y < number x = below (number y) (number x) e in
        (rise.0, rest (omega (arith, less)))
    by_tests false true e f rest = (least, subst (λ m. RiseFrom (m + 1) (map number ys)) (eqb-true (number y) (number x) f) rise.1)
    by_tests false false e f rest = (least, (not_below (number y) (number x) e f, rise.1))

  -- no member has a number below all
  none_below : (n low : ℕ) → n < low → (xs : List X) → RiseFrom low (map number xs) → find (at n) xs ≡ None
  none_below n low less [] rise = refl
  none_below n low less (x ∷ xs) rise =
      let here : low ≤ number x = rise.0 in
      let other : (number x == n) ≡ false = grind (arith, nat_tests) in
      let more : n < number x + 1 = omega (arith, less, here) in
      ap (λ b. cond b (Some x) (find (at n) xs)) other ∙ none_below n (number x + 1) more xs rise.1

  itself : (x : X) (xs : List X) → find (at (number x)) (x ∷ xs) ≡ Some x
  itself x xs = ap (λ b. cond b (Some x) (find (at (number x)) xs)) (eq-eqb (number x) (number x) refl)

  -- lists with rising numbers in which the same is found are one
  pub one_rising : (low bottom : ℕ) (xs ys : List X) → RiseFrom low (map number xs) → RiseFrom bottom (map number ys) → ((n : ℕ) → find (at n) xs ≡ find (at n) ys) → xs ≡ ys
  one_rising low bottom [] [] rise up same = refl
  one_rising low bottom [] (y ∷ ys) rise up same = let e : None ≡ Some y = same (number y) ∙ itself y ys in absurd (cc e)
  one_rising low bottom (x ∷ xs) [] rise up same = let e : Some x ≡ None = sym (itself x xs) ∙ same (number x) in absurd (cc e)
  one_rising low bottom (x ∷ xs) (y ∷ ys) rise up same =
      by_tests (nat_lt (number x) (number y)) (number x == number y) refl refl (one_rising (number x + 1) (number y + 1) xs ys rise.1 up.1) where
        gone : number x < number y → ⊥
        gone less =
            let none : find (at (number x)) (y ∷ ys) ≡ None = none_below (number x) (number y) less (y ∷ ys) (omega arith, up.1) in
            let e : Some x ≡ None = sym (itself x xs) ∙ same (number x) ∙ none in
            absurd (cc e)

        gone_back : number y < number x → ⊥
        gone_back less =
            let none : find (at (number y)) (x ∷ xs) ≡ None = none_below (number y) (number x) less (x ∷ xs) (omega arith, rise.1) in
            let e : Some y ≡ None = sym (itself y ys) ∙ sym (same (number y)) ∙ none in
            absurd (cc e)

        heads : number x ≡ number y → x ≡ y
        heads e =
            let here : find (at (number x)) (y ∷ ys) ≡ Some y = ap (λ b. cond b (Some y) (find (at (number x)) ys)) (eq-eqb (number y) (number x) (sym e)) in
            let found : Some x ≡ Some y = sym (itself x xs) ∙ same (number x) ∙ here in
            cc found

        tails : number x ≡ number y → (n : ℕ) → find (at n) xs ≡ find (at n) ys
        tails e n = by_number (number x == n) (number y == n) refl refl (same n) where
          by_number : (a b : Bool) → (number x == n) ≡ a → (number y == n) ≡ b → cond a (Some x) (find (at n) xs) ≡ cond b (Some y) (find (at n) ys) → find (at n) xs ≡ find (at n) ys
          by_number false false p q found = found
          by_number true true p q found =
              let at_x : number x ≡ n = eqb-true (number x) n p in
              let at_y : number y ≡ n = eqb-true (number y) n q in
              none_below n (number x + 1) (omega (arith, at_x)) xs rise.1 ∙ sym (none_below n (number y + 1) (omega (arith, at_y)) ys up.1)
          by_number true false p q found = absurd (grind (arith, nat_tests))
          by_number false true p q found = absurd (grind (arith, nat_tests))

        by_tests : (a b : Bool) → nat_lt (number x) (number y) ≡ a → (number x == number y) ≡ b → (((n : ℕ) → find (at n) xs ≡ find (at n) ys) → xs ≡ ys) → x ∷ xs ≡ y ∷ ys
        by_tests true b p q rest = absurd (gone (below (number x) (number y) p))
        by_tests false true p q rest =
            let e : number x ≡ number y = eqb-true (number x) (number y) q in
            let h = heads e in
            let t = rest (tails e) in
            λ i. h i ∷ t i
        by_tests false false p q rest =
            let less : number y + 1 ≤ number x = not_below (number x) (number y) p q in
            absurd (gone_back (omega (arith, less)))
