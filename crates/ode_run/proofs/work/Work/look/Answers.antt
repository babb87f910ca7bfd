use Rattle.std.specs.Prelude.{[], ◌∷◌}
use Rattle.ode_run.proofs.LookLaws.{looked, looked_holds}
use Rattle.ode_run.proofs.work.Work.look.Goals as goal
use Rattle.ode_run.specs.Knowing.{beside}

pub returns-clause-acts : goal.returns-clause-acts
returns-clause-acts g c = λ all k same holds.
    let b = beside k.first c.args.self.now.deferred.now c.args.self.now.text.now c.args.self.now.budget.now in
    looked all k.first b c.args.self.now.overlay.now c.look.new.self (c.args.id ∷ []) c.in_ok-look.ensures.ok

pub returns-clause-kept : goal.returns-clause-kept
returns-clause-kept g c = λ k same holds.
    looked_holds g.H.Host.view (g.K.Keep.holds c.args.self.now.heap.now (g.H.Host.view c.args.self.now.host.now)) (g.K.Keep.live c.args.self.now.heap.now) c.args.self.now.host.now
    c.args.self.now.overlay.now c.look.new.self c.args.self.now.budget.now c.args.self.now.bytes k (c.args.id ∷ []) c.in_ok-look.ensures.ok holds
