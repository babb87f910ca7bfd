-- Sums over things with numbers, number by number.
use Rattle.std.proofs.Common.{◌≡◌, ◌+◌, ◌<◌, ◌≤◌, ◌==◌, ℕ, zero, suc, List, [], ◌∷◌, Bool, true, false, cond, find, map, sum_by, Some, refl, sym, ap, subst, ◌∙◌, arith}
use Rattle.std.proofs.lemmas.Bool.{eqb-true}
use Rattle.std.proofs.lemmas.Bool.Decides.{nat_tests}
use Rattle.std.proofs.lemmas.List.Sums.{sum_by-cons}
use Rattle.std.specs.List.{AllByRecursion}
use Rattle.std.specs.Option.{option_map_or}
use Rattle.ode_value.specs.Denoting.{object_numbered}
use Rattle.ode_value.specs.GoodWorlds.{RiseFrom}
use Rattle.ode_value.specs.Worlds.{Object}

-- the sum over all numbers below one
abbrev pub total : ℕ → (ℕ → ℕ) → ℕ
total zero f = 0
total (suc n) f = total n f + f n

pub total_same : (n : ℕ) (f g : ℕ → ℕ) → ((i : ℕ) → i < n → f i ≡ g i) → total n f ≡ total n g
total_same zero f g same = refl
total_same (suc n) f g same =
    let rest : total n f ≡ total n g = total_same n f g (λ i less. same i (omega arith)) in
    let last : f n ≡ g n = same n (omega arith) in
    omega arith

pub total_most : (n : ℕ) (f g : ℕ → ℕ) → ((i : ℕ) → f i ≤ g i) → total n f ≤ total n g
total_most zero f g most = omega arith
total_most (suc n) f g most =
    let rest : total n f ≤ total n g = total_most n f g most in
    let last : f n ≤ g n = most n in
    omega arith

pub total_sum : (n : ℕ) (f g : ℕ → ℕ) → total n (λ i. f i + g i) ≡ total n f + total n g
total_sum zero f g = refl
total_sum (suc n) f g = let rest : total n (λ i. f i + g i) ≡ total n f + total n g = total_sum n f g in omega arith

total_none : (n : ℕ) → total n (λ i. 0) ≡ 0
total_none zero = refl
total_none (suc n) = let rest : total n (λ i. 0) ≡ 0 = total_none n in omega arith

-- one more number
total_put : (n k a : ℕ) (f : ℕ → ℕ) → k < n → f k ≡ 0 → total n (λ i. cond (k == i) a (f i)) ≡ a + total n f
total_put zero k a f less none = absurd (omega (arith, less))
total_put (suc n) k a f less none = by_last (k == n) refl (λ below. total_put n k a f below none) where
  by_last : (b : Bool) → (k == n) ≡ b → (k < n → total n (λ i. cond (k == i) a (f i)) ≡ a + total n f) → total n (λ i. cond (k == i) a (f i)) + cond (k == n) a (f n) ≡ a + (total n f + f n)
  by_last true is rest =
      let same : k ≡ n = eqb-true k n is in
      let before : total n (λ i. cond (k == i) a (f i)) ≡ total n f = total_same n (λ i. cond (k == i) a (f i)) f (λ i below. ap (λ (b : Bool). cond b a (f i)) (apart i below same)) in
      let here : cond (k == n) a (f n) ≡ a = ap (λ (b : Bool). cond b a (f n)) is in
      let nothing : f n ≡ 0 = ap f (sym same) ∙ none in
      omega arith
    where
      apart : (i : ℕ) → i < n → k ≡ n → (k == i) ≡ false
      apart i below same = grind (arith, nat_tests)
  by_last false is rest =
      let below : k < n = grind (arith, nat_tests) in
      let before : total n (λ i. cond (k == i) a (f i)) ≡ a + total n f = rest below in
      let here : cond (k == n) a (f n) ≡ f n = ap (λ (b : Bool). cond b a (f n)) is in
      omega arith

module _ {X : Type 0} (key w : X → ℕ) where
  abbrev pub weight_at : List X → ℕ → ℕ
  weight_at xs i = option_map_or w (find (λ (x : X). key x == i) xs) 0

  none_behind : (n low : ℕ) (xs : List X) → n < low → RiseFrom low (map key xs) → weight_at xs n ≡ 0
  none_behind n low [] less rise = refl
  none_behind n low (x ∷ xs) less rise =
      let from : low ≤ key x = rise.0 in
      let off : (key x == n) ≡ false = grind (arith, nat_tests) in
      ap (λ (b : Bool). option_map_or w (cond b (Some x) (find (λ (x : X). key x == n) xs)) 0) off ∙ none_behind n (key x + 1) xs (omega arith) rise.1

  first_or : (x : X) (xs : List X) (i : ℕ) → weight_at (x ∷ xs) i ≡ cond (key x == i) (w x) (weight_at xs i)
  first_or x xs i = by_test (key x == i) where
    by_test : (b : Bool) → option_map_or w (cond b (Some x) (find (λ (x : X). key x == i) xs)) 0 ≡ cond b (w x) (weight_at xs i)
    by_test true = refl
    by_test false = refl

  -- things whose numbers rise and lie below one
  pub total_of : (n low : ℕ) (xs : List X) → RiseFrom low (map key xs) → AllByRecursion (λ (x : X). key x < n) xs → sum_by w xs ≡ total n (weight_at xs)
  total_of n low [] rise below = sym (total_none n)
  total_of n low (x ∷ xs) rise below =
      let less : key x < n = below.0 in
      sum_by-cons w x xs
      ∙ ap (λ (s : ℕ). w x + s) (total_of n (key x + 1) xs rise.1 below.1)
      ∙ sym (total_put n (key x) (w x) (weight_at xs) less (none_behind (key x) (key x + 1) xs (omega arith) rise.1))
      ∙ sym (total_same n (weight_at (x ∷ xs)) (λ i. cond (key x == i) (w x) (weight_at xs i)) (λ i less. first_or x xs i))

-- what holds of all objects holds of the one of a number
pub all_numbered : (P : Object → Type 0) (id : ℕ) (os : List Object) (o : Object) → AllByRecursion P os → object_numbered id os ≡ Some o → P o
all_numbered P id [] o each is = absurd (cc)
all_numbered P id (p ∷ os) o each is = by_test (p.id == id) is (all_numbered P id os o each.1) where
  by_test : (b : Bool) → cond b (Some p) (object_numbered id os) ≡ Some o → (object_numbered id os ≡ Some o → P o) → P o
  by_test true e more = let same : p ≡ o = cc in subst P same each.0
  by_test false e more = more e
