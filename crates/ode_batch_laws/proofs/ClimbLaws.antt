-- Records in rising order of their keys.
use Rattle.std.proofs.Common.{◌≡◌, ℕ, ◌+◌, ◌<◌, ◌≤◌, List, [], ◌∷◌, ◌++◌, map, arith}
use Rattle.std.proofs.lemmas.Bool.Decides.{nat_tests}
use Rattle.std.specs.List.{AllByRecursion, flat_map}
use Rattle.std.specs.List.Sorted.{IsStrictlySortedBy}
use Rattle.std.specs.Map.{keys_of}
use Rattle.std.specs.declared.cmp.Ordering.TheVariants.{Less}
use Rattle.ode_keep.specs.Entries.{Entries, HasRisingKeys}
use Rattle.ode_laws.proofs.Each.{all-append, all-then}
use Rattle.ode_value.specs.GoodWorlds.{RiseFrom}
use Rattle.ode_value.specs.Keys.{key_cmp}
use Rattle.ode_value.specs.Records.{Row}
use Rattle.ode_value.specs.declared.key.Key.{Key}

-- a record before each of these
abbrev pub Before : Row → List Row → Type 0
Before e es = AllByRecursion (λ (f : Row). key_cmp e.0 f.0 ≡ Less) es

-- each before all of these
abbrev pub AllBefore : List Row → List Row → Type 0
AllBefore xs ys = AllByRecursion (λ e. Before e ys) xs

-- each before the later ones
abbrev pub Climb : List Row → Type 0
Climb [] = Unit {0}
Climb (e ∷ es) = Before e es × Climb es

-- ---- as keys

key_before : (k : Key) (es : List Row) → AllByRecursion (λ (f : Row). key_cmp k f.0 ≡ Less) es → AllByRecursion (λ l. key_cmp k l ≡ Less) (keys_of es)
key_before k [] all = tt
key_before k (e ∷ es) all = (all.0, key_before k es all.1)

pub climb_rises : (es : Entries) → Climb es → HasRisingKeys es
unfolding IsStrictlySortedBy
climb_rises [] climb = tt
climb_rises (e ∷ es) climb = (key_before e.0 es climb.0, climb_rises es climb.1)

before_key : (k : Key) (es : List Row) → AllByRecursion (λ l. key_cmp k l ≡ Less) (keys_of es) → AllByRecursion (λ (f : Row). key_cmp k f.0 ≡ Less) es
before_key k [] all = tt
before_key k (e ∷ es) all = (all.0, before_key k es all.1)

pub rising_climbs : (es : Entries) → HasRisingKeys es → Climb es
unfolding IsStrictlySortedBy
rising_climbs [] rising = tt
rising_climbs (e ∷ es) rising = (before_key e.0 es rising.0, rising_climbs es rising.1)

-- ---- behind one another

pub climb_join : (xs ys : List Row) → Climb xs → Climb ys → AllBefore xs ys → Climb (xs ++ ys)
climb_join [] ys front rest across = rest
climb_join (e ∷ xs) ys front rest across = (all-append (λ (f : Row). key_cmp e.0 f.0 ≡ Less) xs ys front.0 across.0, climb_join xs ys front.1 rest across.1)

all_front : (P : Row → Type 0) (xs ys : List Row) → AllByRecursion P (xs ++ ys) → AllByRecursion P xs
all_front P [] ys all = tt
all_front P (e ∷ xs) ys all = (all.0, all_front P xs ys all.1)

pub climb_front : (xs ys : List Row) → Climb (xs ++ ys) → Climb xs
climb_front [] ys climb = tt
climb_front (e ∷ xs) ys climb = (all_front (λ (f : Row). key_cmp e.0 f.0 ≡ Less) xs ys climb.0, climb_front xs ys climb.1)

-- ---- by kinds

abbrev pub AreBelow : ℕ → List Row → Type 0
AreBelow k es = AllByRecursion (λ (e : Row). e.0.kind < k) es

abbrev pub AreFrom : ℕ → List Row → Type 0
AreFrom k es = AllByRecursion (λ (e : Row). k ≤ e.0.kind) es

less_kind : (k : ℕ) (a b : Key) → a.kind < k → k ≤ b.kind → key_cmp a b ≡ Less
less_kind k a b below from = grind (arith, nat_tests)

one_before : (k : ℕ) (e : Row) (ys : List Row) → e.0.kind < k → AreFrom k ys → Before e ys
one_before k e [] below from = tt
one_before k e (y ∷ ys) below from = (less_kind k e.0 y.0 below from.0, one_before k e ys below from.1)

pub all_before : (k : ℕ) (xs ys : List Row) → AreBelow k xs → AreFrom k ys → AllBefore xs ys
all_before k [] ys below from = tt
all_before k (e ∷ xs) ys below from = (one_before k e ys below.0 from, all_before k xs ys below.1 from)

pub all_map : {X : Type 0} (P : Row → Type 0) (row : X → Row) → ((x : X) → P (row x)) → (xs : List X) → AllByRecursion P (map row xs)
all_map P row each [] = tt
all_map P row each (x ∷ xs) = (each x, all_map P row each xs)

pub all_flat : {X : Type 0} (P : Row → Type 0) (f : X → List Row) → ((x : X) → AllByRecursion P (f x)) → (xs : List X) → AllByRecursion P (flat_map f xs)
all_flat P f each [] = tt
all_flat P f each (x ∷ xs) = all-append P (f x) (flat_map f xs) (each x) (all_flat P f each xs)

-- ---- by rising numbers

module _ {X : Type 0} (number : X → ℕ) where
  above : (n low : ℕ) (xs : List X) → n < low → RiseFrom low (map number xs) → AllByRecursion (λ x. n < number x) xs
  above n low [] less rise = tt
  above n low (x ∷ xs) less rise = let up : low ≤ number x = rise.0 in (omega arith, above n (number x + 1) xs (omega arith) rise.1)

  pub climb_map : (row : X → Row) → ((x y : X) → number x < number y → key_cmp (row x).0 (row y).0 ≡ Less) → (low : ℕ) (xs : List X) → RiseFrom low (map number xs) → Climb (map row xs)
  climb_map row less low [] rise = tt
  climb_map row less low (x ∷ xs) rise = (mapped xs (above (number x) (number x + 1) xs (omega arith) rise.1), climb_map row less (number x + 1) xs rise.1) where
    mapped : (ys : List X) → AllByRecursion (λ y. number x < number y) ys → Before (row x) (map row ys)
    mapped [] all = tt
    mapped (y ∷ ys) all = (less x y all.0, mapped ys all.1)

  pub climb_flat : (f : X → List Row) → ((x y : X) → number x < number y → AllBefore (f x) (f y)) → (low : ℕ) (xs : List X) → AllByRecursion (λ x. Climb (f x)) xs → RiseFrom low (map number xs) → Climb (flat_map f xs)
  climb_flat f less low [] inner rise = tt
  climb_flat f less low (x ∷ xs) inner rise =
      climb_join (f x) (flat_map f xs) inner.0 (climb_flat f less (number x + 1) xs inner.1 rise.1) (across (f x) (above (number x) (number x + 1) xs (omega arith) rise.1)) where
        many : (e : Row) (ys : List X) → AllByRecursion (λ y. Before e (f y)) ys → Before e (flat_map f ys)
        many e [] all = tt
        many e (y ∷ ys) all = all-append (λ (g : Row). key_cmp e.0 g.0 ≡ Less) (f y) (flat_map f ys) all.0 (many e ys all.1)

        each : (es : List Row) (ys : List X) → AllByRecursion (λ y. AllBefore es (f y)) ys → AllBefore es (flat_map f ys)
        each [] ys all = tt
        each (e ∷ es) ys all = (many e ys (all-then (λ y. AllBefore (e ∷ es) (f y)) (λ y. Before e (f y)) (λ y both. both.0) ys all), each es ys (all-then (λ y. AllBefore (e ∷ es) (f y)) (λ y. AllBefore es (f y)) (λ y both. both.1) ys all))

        across : (es : List Row) → AllByRecursion (λ y. number x < number y) xs → AllBefore (f x) (flat_map f xs)
        across es all = each (f x) xs (all-then (λ y. number x < number y) (λ y. AllBefore (f x) (f y)) (λ y up. less x y up) xs all)
