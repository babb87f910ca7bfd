-- What is known by numbers, in the order of these.
use Rattle.std.specs.Prelude.{◌≡◌, ℕ, zero, suc, ◌<◌, List, [], ◌∷◌, Bool, false, Option}
use Rattle.std.specs.BTreeMap.{insert_entry, is_at}
use Rattle.std.specs.Map.{lookup}
use Rattle.std.specs.Option.{is_some, unwrap_or}
use Rattle.std.specs.Ordering.{nat_cmp}
use Rattle.ode_value.specs.Records.{Row}

-- ---- places

-- a number stands at this place, behind lower ones
abbrev pub IsAt : {X : Type 0} → ℕ → List (ℕ × X) → ℕ → Type 0
IsAt id [] i = ⊥
IsAt id (x ∷ xs) zero = x.0 ≡ id
IsAt id (x ∷ xs) (suc i) = (x.0 < id) × IsAt id xs i

-- a number would stand at this place, behind lower ones and before a higher one
abbrev pub IsGap : {X : Type 0} → ℕ → List (ℕ × X) → ℕ → Type 0
IsGap id [] zero = Unit {0}
IsGap id [] (suc i) = ⊥
IsGap id (x ∷ xs) zero = id < x.0
IsGap id (x ∷ xs) (suc i) = (x.0 < id) × IsGap id xs i

-- ---- what is known

-- what stands at a number
abbrev pub at : {X : Type 0} → List (ℕ × X) → ℕ → Option X
at xs id = lookup (is_at (nat_cmp id)) xs

-- something does
abbrev pub has : {X : Type 0} → List (ℕ × X) → ℕ → Bool
has xs id = is_some (at xs id)

-- ---- activations

-- a number more of an activation, with whether it was there before
abbrev pub noted : List (ℕ × Bool) → ℕ → List (ℕ × Bool)
noted numbers number = insert_entry nat_cmp numbers number (has numbers number)

abbrev pub with_number : List (ℕ × Bool) → Row → List (ℕ × Bool)
with_number numbers e = noted numbers e.0.b

abbrev pub numbers_from : List (ℕ × Bool) → List Row → List (ℕ × Bool)
numbers_from numbers [] = numbers
numbers_from numbers (e ∷ es) = numbers_from (with_number numbers e) es

abbrev pub is_twice : List (ℕ × Bool) → ℕ → Bool
is_twice numbers number = unwrap_or (at numbers number) false

-- ---- objects that have versions

abbrev pub with_owner : List (ℕ × Unit {0}) → Row → List (ℕ × Unit {0})
with_owner owners e = insert_entry nat_cmp owners e.0.a tt

abbrev pub owners_from : List (ℕ × Unit {0}) → List Row → List (ℕ × Unit {0})
owners_from owners [] = owners
owners_from owners (e ∷ es) = owners_from (with_owner owners e) es
