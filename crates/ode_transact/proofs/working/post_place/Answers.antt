use Rattle.std.proofs.Common.{rules, ◌∙◌, Err, Result, sym}
use Rattle.std.specs.declared.option.Option.{Option}
use Rattle.ode_heap.specs.declared.object.ObjectHead.{ObjectHead}
use Rattle.ode_interpreter.specs.declared.stop.Stop.{Stop}
use Rattle.ode_interpreter.specs.declared.stop.Stop.TheVariants.{Abort}
use Rattle.ode_run.specs.Contexts.{ContextRuns}
use Rattle.ode_transact.proofs.EntryLaws.{object_gone, object_there}
use Rattle.ode_transact.proofs.GoesLaws.{aborted_here, faulted, goes_as}
use Rattle.ode_transact.proofs.UsableLaws.{aborted_usable, stops_usable, then_usable}
use Rattle.ode_transact.proofs.working.post_place.Goals as goal
use Rattle.ode_value.specs.declared.reason.Reason.TheVariants.{NoObject}

pub returns-in_err-head-clause-goes : goal.returns-in_err-head-clause-goes
returns-in_err-head-clause-goes g c = λ l w x is touched.
    faulted (Unit {0}) c.from_residual.result c.in_err-head.field-0.0 (search rules) _ _ c.in_err-head.ensures.fault (c.in_err-head.ensures.sound l w x is)

pub returns-in_err-head-clause-faults : goal.returns-in_err-head-clause-faults
returns-in_err-head-clause-faults g c = λ usable.
    stops_usable (Option ObjectHead) (Unit {0}) c.from_residual.result c.in_err-head.field-0.0 (search rules) _ _ _ (c.in_err-head.ensures.faults usable)

pub returns-in-Some-clause-goes : goal.returns-in-Some-clause-goes
returns-in-Some-clause-goes g c = λ l w x is touched.
    goes_as c.post_kind.result _ _ _ (object_there c.args.id c.args.place x c.in-Some.head (sym c.in-Some.is ∙ c.in_ok-head.ensures.is l w x is))
    (c.post_kind.ensures.goes l w x (c.in_ok-head.ensures.stays l w x is) touched)

pub returns-in-Some-clause-faults : goal.returns-in-Some-clause-faults
returns-in-Some-clause-faults g c = λ usable.
    then_usable c.in_ok-head.field-0 c.post_kind.result _ _ _ (g.H.Host.view c.head.new.host) _ (c.in_ok-head.ensures.faults usable) c.post_kind.ensures.faults

pub returns-in-None-clause-goes : goal.returns-in-None-clause-goes
returns-in-None-clause-goes g c = λ l w x is touched.
    aborted_here (Unit {0}) (ContextRuns g.H.Host.view g.K.Keep.holds g.K.Keep.live l w c.head.new.ctx c.head.new.host) _ (NoObject c.args.id) x
    (object_gone c.args.id c.args.place x (sym c.in-None.is ∙ c.in_ok-head.ensures.is l w x is)) (c.in_ok-head.ensures.stays l w x is)

pub returns-in-None-clause-faults : goal.returns-in-None-clause-faults
returns-in-None-clause-faults g c = λ usable.
    let why : Result (Unit {0}) Stop = Err (Abort (NoObject c.args.id)) in
    then_usable c.in_ok-head.field-0 why _ _ _ (g.H.Host.view c.head.new.host) _ (c.in_ok-head.ensures.faults usable) (λ on. aborted_usable (Unit {0}) (NoObject c.args.id) _ _ on)
