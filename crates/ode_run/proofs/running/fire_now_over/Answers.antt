use Rattle.ode_run.proofs.ContextLaws.{acts_over, leaves_over}
use Rattle.ode_run.proofs.ServeLaws.{serves_over}
use Rattle.ode_run.proofs.running.fire_now_over.Goals as goal
use Rattle.ode_run.specs.Contexts.{tables_in}
use Rattle.ode_value.specs.Pasts.{numbers}
use Rattle.ode_interpreter.specs.Seen.{firing}
use Rattle.ode_schema.specs.Parts.{trigger_of}
use Rattle.ode_value.specs.Executing.{first_actions}
use Rattle.ode_value.specs.Posting.{runs}

pub returns-clause-acts : goal.returns-clause-acts
returns-clause-acts g c = λ entries first classes state.
    acts_over g.H.Host.view g.K.Keep.holds g.K.Keep.live _ c.fire_now.new.tx c.args.program.now _ _ _ _ _ _ (record { heap = c.heap-1.given.1; overlay = c.overlay-1.given.1; deferred = c.deferred-1.given.1; text = c.text-1.given.1; budget = c.budget-1.given.1; host = c.host-1.given.1 })
    c.fire_now.result (runs (first_actions (numbers (tables_in c.args.program.now))) (firing (trigger_of c.args.program.now.classes) c.args.f.now)) (λ k declares knows. c.fire_now.ensures.acts k.first.bones.classes k declares knows) c.fire_now.ensures.kept entries first classes state

pub returns-clause-leaves : goal.returns-clause-leaves
returns-clause-leaves g c = λ entries first classes state.
    leaves_over g.H.Host.view g.K.Keep.holds g.K.Keep.live _ c.fire_now.new.tx c.args.program.now _ _ _ _ _ _ (record { heap = c.heap-1.given.1; overlay = c.overlay-1.given.1; deferred = c.deferred-1.given.1; text = c.text-1.given.1; budget = c.budget-1.given.1; host = c.host-1.given.1 })
    c.fire_now.result c.fire_now.ensures.kept entries first classes state

pub returns-clause-faults : goal.returns-clause-faults
returns-clause-faults g c = λ usable.
    serves_over g.H.Host.view g.K.Keep.live _ c.fire_now.new.tx _ _ _ _ _ _ (record { heap = c.heap-1.given.1; overlay = c.overlay-1.given.1; deferred = c.deferred-1.given.1; text = c.text-1.given.1; budget = c.budget-1.given.1; host = c.host-1.given.1 })
    c.fire_now.result c.fire_now.ensures.faults usable
