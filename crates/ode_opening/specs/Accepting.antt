-- What a call that reads classes answers, by what they come to.
use Rattle.std.specs.Prelude.{◌≡◌, List, Result, Ok, Err}
use Rattle.ode_passes.specs.Rules.{Ruled}
use Rattle.ode_passes.specs.declared.error.OpenError.{OpenError}
use Rattle.ode_passes.specs.declared.error.OpenError.TheVariants.{Memory, DiskFault, BadFile}
use Rattle.ode_value.specs.declared.class.Class.{Class}
use Rattle.ode_compile.specs.declared.compiling.Compiled.{Compiled}
use Rattle.ode_opening.specs.declared.accepted.Accepted.{Accepted}

-- all classes that were meant, or the broken rule
abbrev pub Accepts : Ruled (List Class) → Result Accepted OpenError → Type 0
Accepts meant (Ok a) = meant ≡ Ok a.classes
Accepts meant (Err (BadFile cause)) = meant ≡ Err cause
Accepts meant (Err DiskFault) = Unit {0}
Accepts meant (Err Memory) = Unit {0}

-- the same of one class
abbrev pub Compiles : Ruled Class → Result Compiled OpenError → Type 0
Compiles meant (Ok made) = meant ≡ Ok made.class
Compiles meant (Err (BadFile cause)) = meant ≡ Err cause
Compiles meant (Err DiskFault) = Unit {0}
Compiles meant (Err Memory) = Unit {0}
