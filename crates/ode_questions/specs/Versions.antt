-- Whether a reference's version is among those of an object.
use Rattle.std.specs.Prelude.{ℕ, ◌==◌, List, Bool, length, not, Option, Some, None}
use Rattle.ode_versions.specs.Versions.{has_number}
use Rattle.ode_versions.specs.declared.list.Version.{Version}

-- the one that is named, or any
abbrev pub is_denoted : Option ℕ → List Version → Bool
is_denoted (Some number) versions = has_number number versions
is_denoted None versions = not (length versions == 0)
