use Rattle.ode_run.proofs.ContextLaws.{acts_over, leaves_over}
use Rattle.ode_run.proofs.ServeLaws.{serves_over}
use Rattle.ode_run.proofs.running.touch_over.Goals as goal
use Rattle.ode_run.specs.Contexts.{tables_in}
use Rattle.ode_value.specs.Pasts.{numbers}
use Rattle.ode_value.specs.Executing.{first_actions}
use Rattle.ode_value.specs.Posting.{touches}

pub returns-clause-acts : goal.returns-clause-acts
returns-clause-acts g c = λ entries first classes state.
    acts_over g.H.Host.view g.K.Keep.holds g.K.Keep.live _ c.touch.new.tx c.args.program.now _ _ _ _ _ _ (record { heap = c.heap-1.given.1; overlay = c.overlay-1.given.1; deferred = c.deferred-1.given.1; text = c.text-1.given.1; budget = c.budget-1.given.1; host = c.host-1.given.1 })
    c.touch.result (touches (numbers (tables_in c.args.program.now)) (first_actions (numbers (tables_in c.args.program.now))) c.args.id) (λ k declares knows. c.touch.ensures.acts k.first.bones.classes k declares knows) c.touch.ensures.kept entries first classes state

pub returns-clause-leaves : goal.returns-clause-leaves
returns-clause-leaves g c = λ entries first classes state.
    leaves_over g.H.Host.view g.K.Keep.holds g.K.Keep.live _ c.touch.new.tx c.args.program.now _ _ _ _ _ _ (record { heap = c.heap-1.given.1; overlay = c.overlay-1.given.1; deferred = c.deferred-1.given.1; text = c.text-1.given.1; budget = c.budget-1.given.1; host = c.host-1.given.1 })
    c.touch.result c.touch.ensures.kept entries first classes state

pub returns-clause-faults : goal.returns-clause-faults
returns-clause-faults g c = λ usable.
    serves_over g.H.Host.view g.K.Keep.live _ c.touch.new.tx _ _ _ _ _ _ (record { heap = c.heap-1.given.1; overlay = c.overlay-1.given.1; deferred = c.deferred-1.given.1; text = c.text-1.given.1; budget = c.budget-1.given.1; host = c.host-1.given.1 })
    c.touch.result c.touch.ensures.faults usable
