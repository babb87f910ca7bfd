use Rattle.std.proofs.Common.{◌≡◌, List, drop}
use Rattle.ode_known_laws.specs.Knowing.{declared_in}
use Rattle.ode_run.proofs.work.Work.look_all.Given as goal
use Rattle.ode_run.specs.Knowing.{IsRunning, Known, Lent, tx}
use Rattle.ode_run.specs.Serving.{IsServing}
use Rattle.ode_value.specs.Acts.{looks}
use Rattle.ode_value.specs.Worlds.{Declared}

abbrev pub invariant-loop-id : goal.invariant-loop-id
invariant-loop-id g l =
    record {
      kept : (k : Known g.row.H.Denot) → l.classes ≡ declared_in k.first → IsRunning g.H.Host.view g.K.Keep.holds g.K.Keep.live l.fn.self k → IsRunning g.H.Host.view g.K.Keep.holds g.K.Keep.live l.self k;
      serves : (began : g.row.H.Denot) → IsServing g.H.Host.view g.K.Keep.live began l.fn.self → IsServing g.H.Host.view g.K.Keep.live began l.self;
      lent : (k : Known g.row.H.Denot) → Lent k l.fn.self → Lent k l.self;
      rest : (all : List Declared) (k : Known g.row.H.Denot) → l.classes ≡ declared_in k.first → IsRunning g.H.Host.view g.K.Keep.holds g.K.Keep.live l.fn.self k
          → looks (drop l.id-index l.ids) (tx all k l.self) ≡ looks l.fn.ids (tx all k l.fn.self);
    }
