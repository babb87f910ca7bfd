-- Births of records, and the first of them that is missing.
use Rattle.std.proofs.Common.{◌≡◌, ℕ, zero, suc, ◌+◌, ◌-◌, ◌<◌, List, [], ◌∷◌, ◌++◌, length, take, Bool, true, false, cond, Option, Some, None, refl, sym, ap, ◌∙◌, arith}
use Rattle.std.specs.Prelude.{◌==◌, ◌||◌, not}
use Rattle.std.specs.BTreeMap.{BTreeMap, get, is_at}
use Rattle.std.specs.List.{find, list_any, position_from, range_with_len, slice_get}
use Rattle.std.specs.Option.{is_some}
use Rattle.std.specs.Ordering.{nat_cmp}
use Rattle.std.proofs.lemmas.Bool.{eqb-true}
use Rattle.std.proofs.lemmas.Bool.Decides.{nat_tests}
use Rattle.ode_codec.specs.declared.record.Record.{Record}
use Rattle.ode_value.specs.declared.key.Key.{Key}
use Rattle.ode_passes.specs.Records.{Found}
use Rattle.ode_opening.specs.Births.{AreBirthsOf, first_missing, has_birth, is_born, is_number, noted}

-- ---- the first place where something passes

module _ {X : Type 0} (t : X → Bool) where
  place_more : (i : ℕ) (xs : List X) (x : X) → position_from t i (xs ++ x ∷ []) ≡ noted (position_from t i xs) (i + length xs) (t x)
  place_more i [] x = let none : i ≡ i + 0 = omega arith in ap (λ (n : ℕ). cond (t x) (Some n) None) none
  place_more i (y ∷ ys) x = by (t y) (place_more (i + 1) ys x)
    where
      by : (b : Bool) → position_from t (i + 1) (ys ++ x ∷ []) ≡ noted (position_from t (i + 1) ys) (i + 1 + length ys) (t x)
          → cond b (Some i) (position_from t (i + 1) (ys ++ x ∷ [])) ≡ noted (cond b (Some i) (position_from t (i + 1) ys)) (i + suc (length ys)) (t x)
      by true more = refl
      by false more =
          let next : i + 1 + length ys ≡ i + suc (length ys) = omega arith in
          more ∙ ap (λ (n : ℕ). noted (position_from t (i + 1) ys) n (t x)) next

  any_place : (i : ℕ) (xs : List X) → list_any t xs ≡ is_some (position_from t i xs)
  any_place i [] = refl
  any_place i (x ∷ xs) = by (t x) (any_place (i + 1) xs)
    where
      by : (b : Bool) → list_any t xs ≡ is_some (position_from t (i + 1) xs) → (b || list_any t xs) ≡ is_some (cond b (Some i) (position_from t (i + 1) xs))
      by true more = refl
      by false more = more

  -- what passes is the first to do so where none before it does
  first_at : (i : ℕ) (xs : List X) (place : ℕ) (x : X) → slice_get xs place ≡ Some x → t x ≡ true
      → is_number (i + place) (position_from t i xs) ≡ not (list_any t (take place xs))
  first_at i [] place x there passes = absurd cc
  first_at i (y ∷ ys) zero x there passes =
      let same : y ≡ x = cc in
      let here : (i == i + 0) ≡ true = grind (arith, nat_tests) in
      ap (λ (b : Bool). is_number (i + 0) (cond b (Some i) (position_from t (i + 1) ys))) (ap t same ∙ passes) ∙ here
  first_at i (y ∷ ys) (suc place) x there passes = by (t y) (first_at (i + 1) ys place x there passes)
    where
      by : (b : Bool) → is_number (i + 1 + place) (position_from t (i + 1) ys) ≡ not (list_any t (take place ys))
          → is_number (i + suc place) (cond b (Some i) (position_from t (i + 1) ys)) ≡ not (b || list_any t (take place ys))
      by true more = let other : (i == i + suc place) ≡ false = grind (arith, nat_tests) in other
      by false more =
          let next : i + suc place ≡ i + 1 + place = omega arith in
          ap (λ (n : ℕ). is_number n (position_from t (i + 1) ys)) next ∙ more

-- ---- the births of records

pub births_more : (before : Found) (f : Key × Record) (place : ℕ) (old new : BTreeMap ℕ ℕ) → place ≡ length before → AreBirthsOf before old
    → ((birth : ℕ) → get nat_cmp new birth ≡ noted (get nat_cmp old birth) place (has_birth birth f.1)) → AreBirthsOf (before ++ f ∷ []) new
births_more before f place old new long so_far step = λ birth.
    let same : place ≡ 0 + length before = omega (arith, long) in
    step birth
    ∙ ap (λ (n : ℕ). noted (get nat_cmp old birth) n (has_birth birth f.1)) same
    ∙ ap (λ (o : Option ℕ). noted o (0 + length before) (has_birth birth f.1)) (so_far birth)
    ∙ sym (place_more (is_born birth) 0 before f)

-- a record without a birth brings none
pub noted_none : (o : Option ℕ) (place : ℕ) → o ≡ noted o place false
noted_none (Some p) place = refl
noted_none None place = refl

-- nor does one whose birth was there
noted_there : (o : Option ℕ) (place : ℕ) (has : Bool) → is_some o ≡ true → o ≡ noted o place has
noted_there (Some p) place has some = refl
noted_there None place has some = absurd cc

module _ (old : BTreeMap ℕ ℕ) (number place : ℕ) where
  pub noted_again : is_some (get nat_cmp old number) ≡ true → (birth : ℕ) → get nat_cmp old birth ≡ noted (get nat_cmp old birth) place (number == birth)
  noted_again there birth = by (number == birth) refl
    where
      by : (b : Bool) → (number == birth) ≡ b → get nat_cmp old birth ≡ noted (get nat_cmp old birth) place b
      by true is = noted_there (get nat_cmp old birth) place true (ap (λ (n : ℕ). is_some (get nat_cmp old n)) (sym (eqb-true number birth is)) ∙ there)
      by false is = noted_none (get nat_cmp old birth) place

  same_test : (birth : ℕ) → is_at (nat_cmp number) birth ≡ (number == birth)
  same_test birth = grind (arith, nat_tests)

  pub noted_new : is_some (get nat_cmp old number) ≡ false → (birth : ℕ) → cond (is_at (nat_cmp number) birth) (Some place) (get nat_cmp old birth) ≡ noted (get nat_cmp old birth) place (number == birth)
  noted_new gone birth = ap (λ (b : Bool). cond b (Some place) (get nat_cmp old birth)) (same_test birth) ∙ by (number == birth) refl
    where
      fresh : (o : Option ℕ) → is_some o ≡ false → Some place ≡ noted o place true
      fresh (Some p) none = absurd cc
      fresh None none = refl

      by : (b : Bool) → (number == birth) ≡ b → cond b (Some place) (get nat_cmp old birth) ≡ noted (get nat_cmp old birth) place b
      by true is = fresh (get nat_cmp old birth) (ap (λ (n : ℕ). is_some (get nat_cmp old n)) (sym (eqb-true number birth is)) ∙ gone)
      by false is = noted_none (get nat_cmp old birth) place

-- ---- the first birth that is missing

abbrev pub is_missing : BTreeMap ℕ ℕ → ℕ → Bool
is_missing births birth = not (is_some (get nat_cmp births birth))

find_same : {X : Type 0} (p q : X → Bool) → ((x : X) → p x ≡ q x) → (xs : List X) → find p xs ≡ find q xs
find_same p q same [] = refl
find_same p q same (x ∷ xs) = ap (λ (b : Bool). cond b (Some x) (find p xs)) (same x) ∙ ap (λ (o : Option _). cond (q x) (Some x) o) (find_same p q same xs)

pub missing_is : (records : Found) (births : BTreeMap ℕ ℕ) (count : ℕ) → AreBirthsOf records births → find (is_missing births) (range_with_len 1 count) ≡ first_missing records count
missing_is records births count are =
    find_same (is_missing births) (λ birth. not (list_any (is_born birth) records))
    (λ birth. ap (λ (o : Option ℕ). not (is_some o)) (are birth) ∙ ap not (sym (any_place (is_born birth) 0 records))) (range_with_len 1 count)

-- one birth more
module _ (births : BTreeMap ℕ ℕ) (birth count : ℕ) (below : birth < count) where
  abbrev rest : Option ℕ
  rest = find (is_missing births) (range_with_len (birth + 1) (count - birth))

  opened : rest ≡ cond (is_missing births (birth + 1)) (Some (birth + 1)) (find (is_missing births) (range_with_len (birth + 1 + 1) (count - (birth + 1))))
  opened = let next : count - birth ≡ suc (count - (birth + 1)) = omega (arith, below) in ap (λ (n : ℕ). find (is_missing births) (range_with_len (birth + 1) n)) next

  pub missing_on : is_some (get nat_cmp births (birth + 1)) ≡ true → rest ≡ find (is_missing births) (range_with_len (birth + 1 + 1) (count - (birth + 1)))
  missing_on there =
      opened ∙ ap (λ (b : Bool). cond (not b) (Some (birth + 1)) (find (is_missing births) (range_with_len (birth + 1 + 1) (count - (birth + 1))))) there

  pub missing_here : is_some (get nat_cmp births (birth + 1)) ≡ false → rest ≡ Some (birth + 1)
  missing_here gone =
      opened ∙ ap (λ (b : Bool). cond (not b) (Some (birth + 1)) (find (is_missing births) (range_with_len (birth + 1 + 1) (count - (birth + 1))))) gone

pub missing_ends : (births : BTreeMap ℕ ℕ) (birth count : ℕ) → birth ≡ count → find (is_missing births) (range_with_len (birth + 1) (count - birth)) ≡ None
missing_ends births birth count same = let none : count - birth ≡ 0 = omega (arith, same) in ap (λ (n : ℕ). find (is_missing births) (range_with_len (birth + 1) n)) none

-- ---- a birth that stands first at its place

pub born_first : (records : Found) (births : BTreeMap ℕ ℕ) (place birth : ℕ) (f : Key × Record) → AreBirthsOf records births → slice_get records place ≡ Some f
    → has_birth birth f.1 ≡ true → is_number place (get nat_cmp births birth) ≡ not (list_any (is_born birth) (take place records))
born_first records births place birth f are there has =
    let same : place ≡ 0 + place = omega arith in
    ap (is_number place) (are birth) ∙ ap (λ (n : ℕ). is_number n (position_from (is_born birth) 0 records)) same
    ∙ first_at (is_born birth) 0 records place f there has

pub itself : (n : ℕ) → (n == n) ≡ true
itself n = grind (arith, nat_tests)
