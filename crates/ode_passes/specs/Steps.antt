-- How a place goes on among records.
use Rattle.std.specs.Prelude.{◌≡◌, ℕ, List, [], Option, Some, None, Result, Ok, Err, drop}
use Rattle.ode_value.specs.declared.key.Key.{Key}
use Rattle.ode_passes.specs.Complete.{run}
use Rattle.ode_passes.specs.Records.{Found}
use Rattle.ode_passes.specs.Rules.{Ruled}
use Rattle.ode_passes.specs.declared.cause.Cause.{Cause}
use Rattle.ode_passes.specs.declared.completeness.Run.{Run}

-- what is left stands from a place on
abbrev pub Goes : Ruled Found → Found → Result ℕ Cause → Type 0
Goes meant records (Ok at) = meant ≡ Ok (drop at records)
Goes meant records (Err cause) = meant ≡ Err cause

-- the keys of a run that may be there
abbrev pub keys_in : Option Run → List Key
keys_in None = []
keys_in (Some r) = run r.kind r.a r.first r.count
