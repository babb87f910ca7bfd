-- How the transaction of a context ends.
use Rattle.std.specs.Prelude.{ℕ, Bool, true, false, Option, Some, None}
use Rattle.ode_laws.specs.Alike.{NumberTx}
pub use Rattle.ode_settled_laws.specs.Holding.{IsHeldBy, SettledOver}
use Rattle.ode_value.specs.Acts.{Aborted, Done, Outcome}
use Rattle.ode_value.specs.Firings.{both_lists, whole_list}
use Rattle.ode_value.specs.Language.{ListTx}
use Rattle.ode_value.specs.Objects.{Histories, Starts}
use Rattle.ode_value.specs.Pasts.{numbers}
use Rattle.ode_value.specs.Settling.{aborted, posted}
use Rattle.ode_value.specs.Tables.{Table}
use Rattle.ode_value.specs.declared.event.Kind.TheVariants.{TAbort, TCommit}
use Rattle.ode_value.specs.declared.reason.Reason.{Reason}

-- behind its last points: as it is, where it is kept, or with what it did taken back
abbrev pub last_points : (ℕ → ℕ → Table) → Bool → NumberTx → NumberTx
last_points tables true y = posted (numbers tables) (both_lists (numbers tables)) TCommit y
last_points tables false y = posted (numbers tables) (whole_list (numbers tables)) TAbort (aborted (numbers tables) y)

-- its work ended so
abbrev pub ended_by : Option Reason → ListTx → Outcome Histories Starts (Unit {0})
ended_by None x = Done tt x
ended_by (Some why) x = Aborted why x
