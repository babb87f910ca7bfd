-- How many clock events are due, counted by kinds and not by seconds.
use Rattle.std.specs.Prelude.{◌≡◌, ◌<◌, ◌<ℤ◌, ◌≤ℤ◌, ℕ, zero, suc, ◌+◌, ℤ, pos, ◌+ℤ◌, List, [], false, cond, ◌&&◌, Option, Some, None}
use Rattle.std.specs.Int.{int_gap}
use Rattle.std.specs.List.{enumerate_from, sum_by}
use Rattle.ode_value.specs.declared.event.Kind.{Kind}
use Rattle.ode_value.specs.Worlds.{Position}
use Rattle.ode_timer.specs.declared.clock.TimeRow.{TimeRow}
use Rattle.ode_timer.specs.Due.{due_at, due_in, is_above, is_due, position_at}

-- at how many of so many seconds behind one a kind is due
abbrev pub times_behind : ℤ → ℕ → Kind → ℕ
times_behind from zero kind = 0
times_behind from (suc n) kind = times_behind from n kind + cond (is_due (from +ℤ pos (suc n)) kind) 1 0

-- how often a kind at a place of an object is due: at the second of a position, if above it, and at so many seconds behind
abbrev pub kind_times : Position → ℕ → ℕ → ℕ × Kind → ℕ
kind_times old n object k = cond (is_due old.instant k.1 && is_above old (position_at old.instant object k.0)) 1 0 + times_behind old.instant n k.1

abbrev pub row_times : Position → ℕ → TimeRow → ℕ
row_times old n row = sum_by (kind_times old n row.object) (enumerate_from 0 row.kinds)

abbrev pub all_times : Position → ℕ → List TimeRow → ℕ
all_times old n rows = sum_by (row_times old n) rows

-- how far the seconds behind one go without an event: to the next one that has some, or past the last
abbrev pub idle_for : (after last : ℤ) → Option ℤ → ℕ
idle_for after last None = int_gap after last + 1
idle_for after last (Some next) = int_gap after next

-- a second lies behind one, and not behind another
abbrev pub IsBetween : (after last : ℤ) → ℤ → Type 0
IsBetween after last next = (after <ℤ next) × (next ≤ℤ last)

-- a kind isn't due at the seconds behind one, before the n-th
abbrev pub IsIdleKind : ℤ → ℕ → Kind → Type 0
IsIdleKind after n kind = (j : ℕ) → 0 < j → j < n → is_due (after +ℤ pos j) kind ≡ false

-- nothing is due of an object then
abbrev pub IsIdleRow : ℤ → ℕ → TimeRow → Type 0
IsIdleRow after n row = (j : ℕ) → 0 < j → j < n → due_in (after +ℤ pos j) row ≡ []

-- nothing at all is
abbrev pub AreIdle : ℤ → ℕ → List TimeRow → Type 0
AreIdle after n rows = (j : ℕ) → 0 < j → j < n → due_at rows (after +ℤ pos j) ≡ []
