use Rattle.std.proofs.Common.{rules, ◌∙◌, Bool, Ok, ap}
use Rattle.std.specs.Prelude.{is_some}
use Rattle.std.specs.declared.option.Option.{Option}
use Rattle.ode_heap.specs.declared.object.ObjectHead.{ObjectHead}
use Rattle.ode_run.specs.Contexts.{ContextRuns}
use Rattle.ode_transact.proofs.GoesLaws.{done_here, faulted, goes_as, goes_by, is_there}
use Rattle.ode_transact.proofs.UsableLaws.{done_usable, stops_usable, then_usable}
use Rattle.ode_transact.proofs.working.touch_there.Goals as goal
use Rattle.ode_value.specs.Acts.{when}
use Rattle.ode_value.specs.Denoting.{object_at}
use Rattle.ode_value.specs.Executing.{first_actions}
use Rattle.ode_value.specs.Pasts.{lists}
use Rattle.ode_value.specs.Posting.{touches}

pub returns-in_err-_head-clause-goes : goal.returns-in_err-_head-clause-goes
returns-in_err-_head-clause-goes g c = λ l w x is.
    faulted (Unit {0}) c.from_residual.result c.in_err-_head.field-0.0 (search rules) _ _ c.in_err-_head.ensures.fault (c.in_err-_head.ensures.sound l w x is)

pub returns-in_err-_head-clause-faults : goal.returns-in_err-_head-clause-faults
returns-in_err-_head-clause-faults g c = λ usable.
    stops_usable (Option ObjectHead) (Unit {0}) c.from_residual.result c.in_err-_head.field-0.0 (search rules) _ _ _ (c.in_err-_head.ensures.faults usable)

pub returns-in-Some-clause-goes : goal.returns-in-Some-clause-goes
returns-in-Some-clause-goes g c = λ l w x is.
    let id = c.args.id in
    let there = is_there c.in_ok-_head.field-0 (object_at x.now.bones id) (c.in_ok-_head.ensures.is l w x is) ∙ ap is_some c.in-Some.is in
    let mid = c.in_ok-_head.ensures.stays l w x is in
    goes_as c.touch.result _ _ _ (ap (λ (b : Bool). when b (touches lists (first_actions lists) id) x) there)
    (goes_by g.H.Host.view g.K.Keep.holds g.K.Keep.live l w c.touch.result _ c.head.new.ctx c.touch.new.ctx c.head.new.host c.touch.new.host x mid (c.touch.ensures.runs l w x mid) c.touch.ensures.leaves)

pub returns-in-Some-clause-faults : goal.returns-in-Some-clause-faults
returns-in-Some-clause-faults g c = λ usable.
    then_usable c.in_ok-_head.field-0 c.touch.result _ _ _ (g.H.Host.view c.head.new.host) _ (c.in_ok-_head.ensures.faults usable) c.touch.ensures.faults

pub returns-in-None-clause-goes : goal.returns-in-None-clause-goes
returns-in-None-clause-goes g c = λ l w x is.
    let id = c.args.id in
    let gone = is_there c.in_ok-_head.field-0 (object_at x.now.bones id) (c.in_ok-_head.ensures.is l w x is) ∙ ap is_some c.in-None.is in
    let mid = c.in_ok-_head.ensures.stays l w x is in
    goes_as (Ok tt) _ _ _ (ap (λ (b : Bool). when b (touches lists (first_actions lists) id) x) gone)
    (done_here (ContextRuns g.H.Host.view g.K.Keep.holds g.K.Keep.live l w c.head.new.ctx c.head.new.host) x mid)

pub returns-in-None-clause-faults : goal.returns-in-None-clause-faults
returns-in-None-clause-faults g c = λ usable.
    then_usable c.in_ok-_head.field-0 (Ok tt) _ _ _ (g.H.Host.view c.head.new.host) _ (c.in_ok-_head.ensures.faults usable) (λ on. done_usable tt _ _ on)
