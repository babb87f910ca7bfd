-- Changes whose values a keeper takes.
use Rattle.std.specs.Prelude.{◌≤◌, length}
use Rattle.std.specs.List.{All}
use Rattle.std.specs.Map.{values_of}
use Rattle.std.specs.Option.{IfSome}
use Rattle.ode_keep.specs.Entries.{Changes}
use Rattle.ode_keep.specs.declared.limits.TheConstants.{MAX_VALUE}

-- no value is longer than a keeper takes
abbrev pub HasShortValues : Changes → Type 0
HasShortValues changes = All (λ value. IfSome value (λ bytes. length bytes ≤ MAX_VALUE)) (values_of changes)
