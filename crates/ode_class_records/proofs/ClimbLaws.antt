-- Rows of one kind and first number whose second numbers rise, and rows of higher kinds behind them.
use Rattle.std.proofs.Common.{◌≡◌, ◌<◌, ◌≤◌, ℕ, zero, suc, ◌+◌, List, [], ◌∷◌, ◌++◌, map, ap, sym, ◌∙◌, arith}
use Rattle.std.specs.Cmp.{nat_cmp_is}
use Rattle.std.specs.List.{AllByRecursion, range_with_len}
use Rattle.std.specs.List.Sorted.{IsStrictlySortedBy}
use Rattle.std.specs.Map.{keys_of}
use Rattle.std.specs.Ordering.{nat_cmp, ordering_then}
use Rattle.std.specs.declared.cmp.Ordering.{Ordering}
use Rattle.std.specs.declared.cmp.Ordering.TheVariants.{Less, Equal}
use Rattle.ode_keep.specs.Entries.{HasRisingKeys}
use Rattle.ode_value.specs.Keys.{key_cmp}
use Rattle.ode_value.specs.Records.{Row}
use Rattle.ode_value.specs.declared.key.Key.{Key}
use Rattle.ode_class_records.specs.Puts.{puts}

-- the second numbers of these rows rise from one number on and stay below another
abbrev pub Climbs : ℕ → ℕ → ℕ → ℕ → List Row → Type 0
Climbs kind a low high [] = low ≤ high
Climbs kind a low high (r ∷ rs) = (r.0.kind ≡ kind) × (r.0.a ≡ a) × (low ≤ r.0.b) × Climbs kind a (r.0.b + 1) high rs

pub climbs_from : (kind a low next high : ℕ) (rs : List Row) → low ≤ next → Climbs kind a next high rs → Climbs kind a low high rs
climbs_from kind a low next high [] le c = omega (arith, le, c)
climbs_from kind a low next high (r ∷ rs) le c = (c.0, c.1, omega (arith, le, c.2), c.3)

pub climbs_behind : (kind a low middle high : ℕ) (rs ss : List Row) → Climbs kind a low middle rs → Climbs kind a middle high ss → Climbs kind a low high (rs ++ ss)
climbs_behind kind a low middle high [] ss c d = climbs_from kind a low middle high ss c d
climbs_behind kind a low middle high (r ∷ rs) ss c d = (c.0, c.1, c.2, climbs_behind kind a (r.0.b + 1) middle high rs ss c.3 d)

pub climbs_to : (kind a low high top : ℕ) (rs : List Row) → high ≤ top → Climbs kind a low high rs → Climbs kind a low top rs
climbs_to kind a low high top [] le c = omega (arith, le, c)
climbs_to kind a low high top (r ∷ rs) le c = (c.0, c.1, c.2, climbs_to kind a (r.0.b + 1) high top rs le c.3)

-- rows by a range of numbers
pub climbs_by : (kind a base : ℕ) (row : ℕ → Row) → ((n : ℕ) → (row n).0 ≡ record { kind = kind; a = a; b = base + n }) → (first count : ℕ)
    → Climbs kind a (base + first) (base + (first + count)) (map row (range_with_len first count))
climbs_by kind a base row is first zero = omega arith
climbs_by kind a base row is first (suc count) =
    let b : (row first).0.b ≡ base + first = ap (λ (k : Key). k.b) (is first) in (
      ap (λ (k : Key). k.kind) (is first),
      ap (λ (k : Key). k.a) (is first),
      omega (arith, b),
      climbs_from kind a ((row first).0.b + 1) (base + (first + 1)) (base + (first + suc count)) (map row (range_with_len (first + 1) count)) (omega (arith, b))
          (climbs_to kind a (base + (first + 1)) (base + (first + 1 + count)) (base + (first + suc count)) (map row (range_with_len (first + 1) count)) (omega arith)
          (climbs_by kind a base row is (first + 1) count)),
    )

-- ---- the order of keys

below_b : (k l : Key) → k.kind ≡ l.kind → k.a ≡ l.a → k.b < l.b → key_cmp k l ≡ Less
below_b k l kind a b =
    ap (λ (o : Ordering). ordering_then o (ordering_then (nat_cmp k.a l.a) (nat_cmp k.b l.b))) (sym (nat_cmp_is k.kind l.kind Equal kind))
    ∙ ap (λ (o : Ordering). ordering_then o (nat_cmp k.b l.b)) (sym (nat_cmp_is k.a l.a Equal a))
    ∙ sym (nat_cmp_is k.b l.b Less b)

pub below_kind : (k l : Key) → k.kind < l.kind → key_cmp k l ≡ Less
below_kind k l kind = ap (λ (o : Ordering). ordering_then o (ordering_then (nat_cmp k.a l.a) (nat_cmp k.b l.b))) (sym (nat_cmp_is k.kind l.kind Less kind))

-- a key that is below all of these
abbrev Above : Key → List Row → Type 0
Above k rs = AllByRecursion (λ l. key_cmp k l ≡ Less) (keys_of (puts rs))

all_climb : (k : Key) (kind a low high : ℕ) (rs : List Row) → k.kind ≡ kind → k.a ≡ a → k.b < low → Climbs kind a low high rs → Above k rs
all_climb k kind a low high [] same class less c = tt
all_climb k kind a low high (r ∷ rs) same class less c = (
  below_b k r.0 (same ∙ sym c.0) (class ∙ sym c.1) (omega (arith, less, c.2)),
  all_climb k kind a (r.0.b + 1) high rs same class (omega (arith, less, c.2)) c.3,
)

-- these are of higher kinds
abbrev pub HigherKinds : ℕ → List Row → Type 0
HigherKinds kind rs = AllByRecursion (λ (r : Row). kind < r.0.kind) rs

all_higher : (k : Key) (kind : ℕ) (rs : List Row) → k.kind ≡ kind → HigherKinds kind rs → Above k rs
all_higher k kind [] same h = tt
all_higher k kind (r ∷ rs) same h = (below_kind k r.0 (omega (arith, same, h.0)), all_higher k kind rs same h.1)

above_both : (k : Key) (rs ss : List Row) → Above k rs → Above k ss → Above k (rs ++ ss)
above_both k [] ss p q = q
above_both k (r ∷ rs) ss p q = (p.0, above_both k rs ss p.1 q)

pub rising_behind : (kind a low high : ℕ) (rs ss : List Row) → Climbs kind a low high rs → HigherKinds kind ss → HasRisingKeys (puts ss) → HasRisingKeys (puts (rs ++ ss))
unfolding IsStrictlySortedBy
rising_behind kind a low high [] ss c h rising = rising
rising_behind kind a low high (r ∷ rs) ss c h rising = (
  above_both r.0 rs ss (all_climb r.0 kind a (r.0.b + 1) high rs c.0 c.1 (omega arith) c.3) (all_higher r.0 kind ss c.0 h),
  rising_behind kind a (r.0.b + 1) high rs ss c.3 h rising,
)

pub higher_climb : (kind m a low high : ℕ) (rs : List Row) → kind < m → Climbs m a low high rs → HigherKinds kind rs
higher_climb kind m a low high [] less c = tt
higher_climb kind m a low high (r ∷ rs) less c = (omega (arith, less, c.0), higher_climb kind m a (r.0.b + 1) high rs less c.3)

pub higher_both : (kind : ℕ) (rs ss : List Row) → HigherKinds kind rs → HigherKinds kind ss → HigherKinds kind (rs ++ ss)
higher_both kind [] ss p q = q
higher_both kind (r ∷ rs) ss p q = (p.0, higher_both kind rs ss p.1 q)
