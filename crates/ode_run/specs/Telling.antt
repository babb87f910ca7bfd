-- How a call ends, where a line comes behind it.
use Rattle.std.specs.Prelude.{◌≡◌, ℕ, Result, Ok, Err}
use Rattle.ode_interpreter.specs.declared.stop.Stop.{Stop}
use Rattle.ode_interpreter.specs.declared.stop.Stop.TheVariants as stop
use Rattle.ode_laws.specs.Alike.{NumberTx}
use Rattle.ode_overlay.specs.declared.error.OverlayError.{OverlayError}
use Rattle.ode_overlay.specs.declared.error.OverlayError.TheVariants as error
use Rattle.ode_value.specs.Acts.{Act, Aborted, Outcome}

-- a call ended where the act goes on as the next one
abbrev pub EndsThen : {R S : Type 0} → (R → Act (Unit {0}) ℕ S) → Result R Stop → NumberTx → Outcome (Unit {0}) ℕ S → Type 0
EndsThen next (Ok v) y outcome = outcome ≡ next v y
EndsThen next (Err (stop.Abort why)) y outcome = outcome ≡ Aborted why y
EndsThen next (Err stop.Memory) y outcome = Unit {0}
EndsThen next (Err stop.DiskFault) y outcome = Unit {0}
EndsThen next (Err (stop.Damaged key)) y outcome = Unit {0}

-- how a call ends that asks nothing of the disk
abbrev pub calm_stop : OverlayError → OverlayError
calm_stop error.DiskFault = error.Memory
calm_stop error.Memory = error.Memory
calm_stop (error.Damaged key) = error.Damaged key
calm_stop (error.NoObject id) = error.NoObject id
calm_stop (error.NoVersion r) = error.NoVersion r
calm_stop (error.LastVersion id) = error.LastVersion id
calm_stop error.TooManyChanges = error.TooManyChanges
calm_stop error.TooLong = error.TooLong
calm_stop error.NoNumber = error.NoNumber

abbrev pub calm : {R : Type 0} → Result R OverlayError → Result R OverlayError
calm (Ok v) = Ok v
calm (Err why) = Err (calm_stop why)
