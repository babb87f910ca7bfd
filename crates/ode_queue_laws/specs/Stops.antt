-- Runs of scripts, one after the other, each until a stop.
use Rattle.std.specs.Prelude.{ℕ, List, [], ◌∷◌, ◌++◌, take}
use Rattle.ode_machine.specs.Runs.{trace, world_at}
use Rattle.ode_run_laws.specs.Settled.{settled_of}
use Rattle.ode_value.specs.Language.{ListWorld, Settlings, Language}

-- a run: its script, and how many transactions it settles before it is stopped; where it has no more than these, it isn't
pub record StoppedRun : Type 0 where
  pub script : List ℕ
  pub settles : ℕ

module _ (l : Language) where
  -- the settled transactions of runs from a world on, where each run begins in the world that the one before it left
  abbrev pub settled_by : ListWorld → List StoppedRun → Settlings
  settled_by w [] = []
  settled_by w (r ∷ runs) = take r.settles (settled_of (trace l w r.script)) ++ settled_by (world_at r.settles w (trace l w r.script)) runs
