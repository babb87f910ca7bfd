-- What the first word of a length is, and when there is none.
use Rattle.std.proofs.Common.{◌≡◌, ℕ, zero, suc, ◌+◌, ◌<◌, ◌≤◌, Bool, true, false, cond, List, [], ◌∷◌, length, refl, sym, ap, ◌∙◌, subst, arith, inl, inr, ◌⊎◌, Option, Some, None}
use Rattle.std.specs.Prelude.{All, ◌&&◌, ◌==◌, is_some, nat_lt, option_map}
use Rattle.std.proofs.lemmas.Bool.{and_parts, cases_Bool, cases_lt, eqb-true, false≢true, ltb-true, or_cases}
use Rattle.std.proofs.lemmas.List.Elements.{All-cons, All-head, All-nil, All-tail}
use Rattle.ode_walk.specs.Relation.{is_lower}
use Rattle.ode_same.specs.Comparing.{first_found, first_word}
use Rattle.ode_same.proofs.ComparingLaws.{found_behind, word_empty, word_more}

none-some : {A : Type 0} (x : A) → None ≡ Some x → ⊥
none-some x h = cc

some-same : {A : Type 0} (x y : A) → Some x ≡ Some y → x ≡ y
some-same x y h = cc

-- ---- the first number at which something is found

module _ {A : Type 0} (find : ℕ → Option A) where
  pub record IsFound (from more : ℕ) (x : A) : Type 0 where
    pub at : ℕ
    pub low : from ≤ at
    pub high : at < from + more
    pub is : find at ≡ Some x
    pub none : (j : ℕ) → from ≤ j → j < at → find j ≡ None

  found-end : (from : ℕ) → first_found find from zero ≡ None
  unfolding first_found
  found-end from = refl

  found-next : (from more : ℕ) (o : Option A) → find from ≡ o → first_found find from (suc more) ≡ cond (is_some o) o (first_found find (from + 1) more)
  unfolding first_found
  found-next from more o is = ap (λ o. cond (is_some o) o (first_found find (from + 1) more)) is

  here : (from more : ℕ) (x : A) → find from ≡ Some x → IsFound from (suc more) x
  here from more x is = record { at = from; low = omega arith; high = omega arith; is = is; none = λ j low less. absurd (omega arith) }

  later : (from more : ℕ) (x : A) → find from ≡ None → IsFound (from + 1) more x → IsFound from (suc more) x
  later from more x nothing r = record {
    at = r.at;
    low = omega (arith, r.low);
    high = omega (arith, r.high);
    is = r.is;
    none = λ j low less. by j low less (cases_lt from j);
  } where
    by : (j : ℕ) → from ≤ j → j < r.at → (from < j) ⊎ (j ≤ from) → find j ≡ None
    by j low less (inl after) = r.none j (omega arith) less
    by j low less (inr above) = let same : j ≡ from = omega arith in ap find same ∙ nothing

  pub found : (from more : ℕ) (x : A) → first_found find from more ≡ Some x → IsFound from more x
  found from zero x h = absurd (none-some x (sym (found-end from) ∙ h))
  found from (suc more) x h = by (find from) refl (found (from + 1) more x) where
    by : (o : Option A) → find from ≡ o → (first_found find (from + 1) more ≡ Some x → IsFound (from + 1) more x) → IsFound from (suc more) x
    by (Some y) is rest = here from more x (is ∙ sym (found-next from more (Some y) is) ∙ h)
    by None is rest = later from more x is (rest (sym (found-next from more None is) ∙ h))

  pub found-none : (from more : ℕ) → first_found find from more ≡ None → (k : ℕ) → from ≤ k → k < from + more → find k ≡ None
  found-none from zero h k low high = absurd (omega arith)
  found-none from (suc more) h k low high = by (find from) refl (cases_lt from k) (found-none (from + 1) more) where
    by : (o : Option A) → find from ≡ o → (from < k) ⊎ (k ≤ from)
        → (first_found find (from + 1) more ≡ None → (k : ℕ) → from + 1 ≤ k → k < from + 1 + more → find k ≡ None) → find k ≡ None
    by (Some y) is place rest = absurd (none-some y (sym h ∙ found-next from more (Some y) is))
    by None is (inl after) rest = rest (sym (found-next from more None is) ∙ h) k (omega arith) (omega arith)
    by None is (inr above) rest = let same : k ≡ from = omega arith in ap find same ∙ is

-- ---- the first word of a length

map-none : {A B : Type 0} (f : A → B) (o : Option A) → option_map f o ≡ None → o ≡ None
map-none f None h = refl
map-none f (Some x) h = absurd (none-some (f x) (sym h))

-- no word of a length passes the test, where none is found
pub no-words : (count : ℕ) (test : List ℕ → Bool) (n : ℕ) → first_word count test n ≡ None → (word : List ℕ) → length word ≡ n → All (λ s. s < count) word → test word ≡ false
no-words count test zero h [] long all = by (cases_Bool (test [])) where
  by : (test [] ≡ true) ⊎ (test [] ≡ false) → test [] ≡ false
  by (inl is) = absurd (none-some [] (sym h ∙ word_empty count test true is))
  by (inr is) = is
no-words count test zero h (x ∷ word) long all = absurd (omega arith)
no-words count test (suc more) h [] long all = absurd (omega arith)
no-words count test (suc more) h (x ∷ word) long all =
    let small : x < count = All-head (λ s. s < count) x word all in
    let nothing = found-none (found_behind count test more) 0 count (sym (word_more count test more) ∙ h) x (omega arith) (omega arith) in
    no-words count (λ rest. test (x ∷ rest)) more (map-none (λ rest. x ∷ rest) (first_word count (λ rest. test (x ∷ rest)) more) nothing) word (omega arith) (All-tail (λ s. s < count) x word all)

-- the one that is found passes it, and no lower one does
pub record IsFirstWord (count : ℕ) (test : List ℕ → Bool) (n : ℕ) (word : List ℕ) : Type 0 where
  pub long : length word ≡ n
  pub each : All (λ s. s < count) word
  pub passes : test word ≡ true
  pub lower : (other : List ℕ) → length other ≡ n → All (λ s. s < count) other → is_lower other word ≡ true → test other ≡ false

record IsMapped {A B : Type 0} (f : A → B) (o : Option A) (y : B) : Type 0 where
  pub x : A
  pub is : o ≡ Some x
  pub same : f x ≡ y

mapped : {A B : Type 0} (f : A → B) (o : Option A) (y : B) → option_map f o ≡ Some y → IsMapped f o y
mapped f None y h = absurd (none-some y h)
mapped f (Some x) y h = record { x = x; is = refl; same = some-same (f x) y h }

first-behind : (count : ℕ) (test : List ℕ → Bool) (more s : ℕ) (rest : List ℕ) → s < count → ((j : ℕ) → j < s → found_behind count test more j ≡ None)
    → IsFirstWord count (λ word. test (s ∷ word)) more rest → IsFirstWord count test (suc more) (s ∷ rest)
first-behind count test more s rest small none p = record {
  long = omega (arith, p.long);
  each = All-cons (λ x. x < count) s rest small p.each;
  passes = p.passes;
  lower = λ other long all low. by other long all low;
} where
  at : (y : ℕ) (other : List ℕ) → length other ≡ more → All (λ x. x < count) (y ∷ other) → (nat_lt y s ≡ true) ⊎ ((y == s && is_lower other rest) ≡ true) → test (y ∷ other) ≡ false
  at y other long all (inl less) =
      no-words count (λ word. test (y ∷ word)) more (map-none (λ word. y ∷ word) (first_word count (λ word. test (y ∷ word)) more) (none y (ltb-true y s less))) other long (All-tail (λ x. x < count) y other all)
  at y other long all (inr both) =
      let parts = and_parts (y == s) (is_lower other rest) both in
      ap (λ z. test (z ∷ other)) (eqb-true y s parts.0) ∙ p.lower other long (All-tail (λ x. x < count) y other all) parts.1

  by : (other : List ℕ) → length other ≡ suc more → All (λ x. x < count) other → is_lower other (s ∷ rest) ≡ true → test other ≡ false
  by [] long all low = absurd (omega arith)
  by (y ∷ other) long all low = at y other (omega arith) all (or_cases (nat_lt y s) (y == s && is_lower other rest) low)

pub first-word : (count : ℕ) (test : List ℕ → Bool) (n : ℕ) (word : List ℕ) → first_word count test n ≡ Some word → IsFirstWord count test n word
first-word count test zero word h = by (cases_Bool (test [])) where
  empty : test [] ≡ true → IsFirstWord count test zero []
  empty is = record {
    long = refl;
    each = All-nil (λ s. s < count);
    passes = is;
    lower = λ other long all low. none other long low;
  } where
    none : (other : List ℕ) → length other ≡ zero → is_lower other [] ≡ true → test other ≡ false
    none [] long low = absurd (false≢true low)
    none (y ∷ other) long low = absurd (omega arith)

  by : (test [] ≡ true) ⊎ (test [] ≡ false) → IsFirstWord count test zero word
  by (inl is) = subst (IsFirstWord count test zero) (some-same [] word (sym (word_empty count test true is) ∙ h)) (empty is)
  by (inr is) = absurd (none-some word (sym (word_empty count test false is) ∙ h))
first-word count test (suc more) word h =
    let r = found (found_behind count test more) 0 count word (sym (word_more count test more) ∙ h) in
    let m = mapped (λ rest. r.at ∷ rest) (first_word count (λ rest. test (r.at ∷ rest)) more) word r.is in
    subst (IsFirstWord count test (suc more)) m.same
    (first-behind count test more r.at m.x (omega (arith, r.high)) (λ j less. r.none j (omega arith) less) (first-word count (λ rest. test (r.at ∷ rest)) more m.x m.is))
