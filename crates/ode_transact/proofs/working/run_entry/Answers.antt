use Rattle.std.proofs.Common.{rules}
use Rattle.ode_run.specs.Contexts.{ContextRuns}
use Rattle.ode_transact.proofs.GoesLaws.{goes_then, stops}
use Rattle.ode_transact.proofs.UsableLaws.{stops_usable, then_usable}
use Rattle.ode_transact.proofs.working.run_entry.Goals as goal
use Rattle.ode_transact.specs.Going.{fires, touches_there}
use Rattle.ode_transact.specs.Working.{entry_of}
use Rattle.ode_value.specs.Pasts.{lists}

pub returns-in_err-touch_there-clause-goes : goal.returns-in_err-touch_there-clause-goes
returns-in_err-touch_there-clause-goes g c = λ l w x is.
    let e = entry_of c.args.entry.now in
    stops (Unit {0}) (Unit {0}) c.from_residual.result c.in_err-touch_there.field-0.0 (search rules) _ (touches_there lists e.object x) (λ _. fires lists e) (c.in_err-touch_there.ensures.goes l w x is)

pub returns-in_err-touch_there-clause-faults : goal.returns-in_err-touch_there-clause-faults
returns-in_err-touch_there-clause-faults g c = λ usable.
    stops_usable (Unit {0}) (Unit {0}) c.from_residual.result c.in_err-touch_there.field-0.0 (search rules) _ _ _ (c.in_err-touch_there.ensures.faults usable)

pub returns-clause-goes : goal.returns-clause-goes
returns-clause-goes g c = λ l w x is.
    let e = entry_of c.args.entry.now in
    goes_then c.in_ok-touch_there.field-0 c.fire_entry.result (ContextRuns g.H.Host.view g.K.Keep.holds g.K.Keep.live l w c.touch_there.new.ctx c.touch_there.new.host) _ (touches_there lists e.object x) (λ _. fires lists e)
    (c.in_ok-touch_there.ensures.goes l w x is) (λ y at now. c.fire_entry.ensures.goes l w y now)

pub returns-clause-faults : goal.returns-clause-faults
returns-clause-faults g c = λ usable.
    then_usable c.in_ok-touch_there.field-0 c.fire_entry.result _ _ _ (g.H.Host.view c.touch_there.new.host) _ (c.in_ok-touch_there.ensures.faults usable) c.fire_entry.ensures.faults
