-- Rows as changes.
use Rattle.std.specs.Prelude.{ℕ, List, [], ◌∷◌, map, Option, Some}
use Rattle.std.specs.BTreeMap.{insert_entry}
use Rattle.ode_keep.specs.Entries.{Changes}
use Rattle.ode_value.specs.Keys.{key_cmp}
use Rattle.ode_value.specs.Records.{Row}
use Rattle.ode_value.specs.declared.key.Key.{Key}

-- the change that puts a row
abbrev pub put_of : Row → Key × Option (List ℕ)
put_of r = (r.0, Some r.1)

-- changes that put these rows
abbrev pub puts : List Row → Changes
puts rows = map put_of rows

-- changes, with those that put these rows, the first of them first
abbrev pub with_rows : List Row → Changes → Changes
with_rows [] changes = changes
with_rows (r ∷ rs) changes = with_rows rs (insert_entry key_cmp changes r.0 (Some r.1))
