use Rattle.std.proofs.Common.{◌≡◌, ℕ, List, drop, map}
use Rattle.ode_interpreter.specs.Seen.{trigger}
use Rattle.ode_known_laws.specs.Knowing.{declared_in}
use Rattle.ode_run.proofs.work.Work.activate_all.Given as goal
use Rattle.ode_run.specs.Activating.{IsOfClass, TakesAll}
use Rattle.ode_run.specs.Knowing.{IsRunning, Known, Lent, tx}
use Rattle.ode_run.specs.Serving.{IsServing}
use Rattle.ode_schema.specs.Parts.{trigger_of}
use Rattle.ode_value.specs.Acts.{each}
use Rattle.ode_value.specs.Pasts.{numbers}
use Rattle.ode_value.specs.Statements.{activates_initial}
use Rattle.ode_value.specs.Tables.{Table}
use Rattle.ode_value.specs.Worlds.{Declared}

abbrev pub invariant-loop-t : goal.invariant-loop-t
invariant-loop-t g l =
    record {
      kept : (all : List Declared) (k : Known g.row.H.Denot) (class : ℕ) → l.program.classes ≡ declared_in k.first → IsRunning g.H.Host.view g.K.Keep.holds g.K.Keep.live l.fn.self k
          → IsOfClass (tx all k l.fn.self) l.id class → TakesAll k.first.bones.classes class l.fn.triggers → IsRunning g.H.Host.view g.K.Keep.holds g.K.Keep.live l.self k;
      serves : (began : g.row.H.Denot) → IsServing g.H.Host.view g.K.Keep.live began l.fn.self → IsServing g.H.Host.view g.K.Keep.live began l.self;
      lent : (k : Known g.row.H.Denot) → Lent k l.fn.self → Lent k l.self;
      there : (all : List Declared) (k : Known g.row.H.Denot) (class : ℕ) → l.program.classes ≡ declared_in k.first → IsRunning g.H.Host.view g.K.Keep.holds g.K.Keep.live l.fn.self k
          → IsOfClass (tx all k l.fn.self) l.id class → TakesAll k.first.bones.classes class l.fn.triggers → IsOfClass (tx all k l.self) l.id class;
      left : (k : Known g.row.H.Denot) (class : ℕ) → TakesAll k.first.bones.classes class l.fn.triggers → TakesAll k.first.bones.classes class (drop l.t-index l.triggers);
      rest : (all : List Declared) (k : Known g.row.H.Denot) (tables : ℕ → ℕ → Table) (class : ℕ) → l.program.classes ≡ declared_in k.first → IsRunning g.H.Host.view g.K.Keep.holds g.K.Keep.live l.fn.self k
          → IsOfClass (tx all k l.fn.self) l.id class → TakesAll k.first.bones.classes class l.fn.triggers
          → each (activates_initial (numbers tables) l.id) (map (trigger (trigger_of l.program.classes)) (drop l.t-index l.triggers)) (tx all k l.self)
          ≡ each (activates_initial (numbers tables) l.id) (map (trigger (trigger_of l.program.classes)) l.fn.triggers) (tx all k l.fn.self);
    }
