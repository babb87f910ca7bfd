-- Which clock events are due.
use Rattle.std.specs.Prelude.{◌≤◌, ℕ, ◌+◌, ◌-◌, ℤ, pos, ◌+ℤ◌, int_le, int_lt, ◌^◌, nat_lt, List, length, map, All, Bool, false, cond, ◌&&◌, ◌||◌, ◌==◌}
use Rattle.std.specs.Int.{int_gap, int_rem_euclid}
use Rattle.std.specs.List.{filter, flat_map, enumerate_from, range_with_len}
use Rattle.std.specs.Ordering.{int_eq}
use Rattle.ode_value.specs.declared.event.Kind.{Kind}
use Rattle.ode_value.specs.declared.event.Kind.TheVariants.{TimeEvery, TimeAt}
use Rattle.ode_value.specs.Worlds.{Position}
use Rattle.ode_timer.specs.declared.clock.TimeRow.{TimeRow}

-- a kind is due at a Unix second
abbrev pub is_due : ℤ → Kind → Bool
is_due t (TimeEvery n) = int_eq (int_rem_euclid t (pos n)) (pos 0)
is_due t (TimeAt second) = int_eq t second
is_due t _ = false

-- the seconds from one on up to another
abbrev pub seconds : ℤ → ℤ → List ℤ
seconds from to = map (λ n. from +ℤ pos n) (range_with_len 0 (cond (int_le from to) (int_gap from to + 1) 0))

-- the position of a place of an object at a second
abbrev pub position_at : ℤ → ℕ → ℕ → Position
position_at t object place = record { instant = t; object = object; place = place }

-- what is due of an object at a second, by place
abbrev pub due_in : ℤ → TimeRow → List Position
due_in t row = map (λ (k : ℕ × Kind). position_at t row.object k.0) (filter (λ (k : ℕ × Kind). is_due t k.1) (enumerate_from 0 row.kinds))

-- all that is due at a second, by object
abbrev pub due_at : List TimeRow → ℤ → List Position
due_at rows t = flat_map (due_in t) rows

-- a position lies above an old one: by instant, then by object, then by place
abbrev pub is_above : Position → Position → Bool
is_above old p =
    int_lt old.instant p.instant
    || (int_eq old.instant p.instant && (nat_lt old.object p.object || ((old.object == p.object) && nat_lt old.place p.place)))

-- the positions above an old one, up to and with an instant, in rising order
unfoldable pub due : List TimeRow → Position → ℤ → List Position
due rows old new = filter (is_above old) (flat_map (due_at rows) (seconds old.instant new))

-- behind everything of an instant
abbrev pub behind : ℤ → Position
behind t = record { instant = t; object = 2 ^ 64 - 1; place = 2 ^ 32 - 1 }

-- a kind that comes again and again does so after at least a second
abbrev pub Recurs : Kind → Type 0
Recurs (TimeEvery n) = 1 ≤ n
Recurs _ = Unit {0}

abbrev pub AllRecur : List TimeRow → Type 0
AllRecur rows = All (λ (row : TimeRow). All Recurs row.kinds) rows

-- the places of a row's kinds are those of positions
abbrev pub HasPlaces : TimeRow → Type 0
HasPlaces row = length row.kinds ≤ 2 ^ 32
