use Rattle.ode_run.proofs.ContextLaws.{leaves_over}
use Rattle.ode_run.proofs.ServeLaws.{serves_over}
use Rattle.ode_run.proofs.SettleLaws.{points_over}
use Rattle.ode_run.proofs.settling.commit_over.Goals as goal
use Rattle.ode_run.specs.Contexts.{tables_in}
use Rattle.ode_value.specs.Firings.{both_lists}
use Rattle.ode_value.specs.Pasts.{numbers}
use Rattle.ode_value.specs.Settling.{posted}
use Rattle.ode_value.specs.declared.event.Kind.TheVariants.{TCommit}

pub returns-clause-acts : goal.returns-clause-acts
returns-clause-acts g c = λ entries first classes state.
    points_over g.H.Host.view g.K.Keep.holds g.K.Keep.live _ c.post_committed.new.tx c.args.program.now _ _ _ _ _ _ (record { heap = c.heap-1.given.1; overlay = c.overlay-1.given.1; deferred = c.deferred-1.given.1; text = c.text-1.given.1; budget = c.budget-1.given.1; host = c.host-1.given.1 })
    c.post_committed.result (posted (numbers (tables_in c.args.program.now)) (both_lists (numbers (tables_in c.args.program.now))) TCommit) (λ k declares knows. c.post_committed.ensures.acts k.first.bones.classes k declares knows) c.post_committed.ensures.kept entries first classes state

pub returns-clause-leaves : goal.returns-clause-leaves
returns-clause-leaves g c = λ entries first classes state.
    leaves_over g.H.Host.view g.K.Keep.holds g.K.Keep.live _ c.post_committed.new.tx c.args.program.now _ _ _ _ _ _ (record { heap = c.heap-1.given.1; overlay = c.overlay-1.given.1; deferred = c.deferred-1.given.1; text = c.text-1.given.1; budget = c.budget-1.given.1; host = c.host-1.given.1 })
    c.post_committed.result c.post_committed.ensures.kept entries first classes state

pub returns-clause-faults : goal.returns-clause-faults
returns-clause-faults g c = λ usable.
    serves_over g.H.Host.view g.K.Keep.live _ c.post_committed.new.tx _ _ _ _ _ _ (record { heap = c.heap-1.given.1; overlay = c.overlay-1.given.1; deferred = c.deferred-1.given.1; text = c.text-1.given.1; budget = c.budget-1.given.1; host = c.host-1.given.1 })
    c.post_committed.result c.post_committed.ensures.faults usable
