-- What the machine tells of a new activation.
use Rattle.std.specs.Prelude.{ℕ, pos}
use Rattle.ode_value.specs.Acts.{Act, Deed, ◌>>◌, gives, prints}
use Rattle.ode_value.specs.Texts.{active_line}
use Rattle.ode_value.specs.declared.value.Value.{Value}
use Rattle.ode_value.specs.declared.value.Value.TheVariants as value

-- its line
abbrev pub tells_line : ℕ → Deed (Unit {0}) ℕ
tells_line n = prints (active_line n)

-- and its number
abbrev pub tells_active : ℕ → Act (Unit {0}) ℕ ℕ
tells_active n = prints (active_line n) >> gives n

-- which is a value of a statement
abbrev pub tells_value : ℕ → Act (Unit {0}) ℕ Value
tells_value n = prints (active_line n) >> gives (value.Int (pos n))
