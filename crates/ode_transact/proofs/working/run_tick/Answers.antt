use Rattle.std.proofs.Common.{rules, Err, Ok, Result, subst}
use Rattle.ode_interpreter.specs.declared.stop.Stop.{Stop}
use Rattle.ode_machine.specs.Works.{ticks}
use Rattle.ode_run.specs.Contexts.{ContextRuns}
use Rattle.ode_transact.proofs.GoesLaws.{goes_by, goes_then, stops}
use Rattle.ode_transact.proofs.TouchLaws.{Reaches, touch_reaches}
use Rattle.ode_transact.proofs.UsableLaws.{stops_usable, then_usable}
use Rattle.ode_transact.proofs.working.run_tick.Goals as goal
use Rattle.ode_transact.specs.Going.{Goes, posts_place}
use Rattle.ode_value.specs.Acts.{Outcome}
use Rattle.ode_value.specs.Executing.{first_actions}
use Rattle.ode_value.specs.Objects.{Histories, Starts}
use Rattle.ode_value.specs.Pasts.{lists}
use Rattle.ode_value.specs.Posting.{touches}
use Rattle.ode_value.specs.Worlds.{Position}

pub returns-in_err-touch-clause-goes : goal.returns-in_err-touch-clause-goes
returns-in_err-touch-clause-goes g c = λ l w x is.
    let id = c.at.inside.object in
    let why : Result (Unit {0}) Stop = Err c.in_err-touch.field-0.0 in
    subst (λ (p : Position). Goes c.from_residual.result (ContextRuns g.H.Host.view g.K.Keep.holds g.K.Keep.live l w c.touch.new.ctx c.touch.new.host) (ticks lists p x)) c.at.view_is
    (stops (Unit {0}) (Unit {0}) c.from_residual.result c.in_err-touch.field-0.0 (search rules) _ (touches lists (first_actions lists) id x) (λ _. posts_place lists id c.at.inside.place)
    (goes_by g.H.Host.view g.K.Keep.holds g.K.Keep.live l w why _ c.args.ctx.now c.touch.new.ctx c.args.host.now c.touch.new.host x is (c.in_err-touch.ensures.runs l w x is) c.in_err-touch.ensures.leaves))

pub returns-in_err-touch-clause-faults : goal.returns-in_err-touch-clause-faults
returns-in_err-touch-clause-faults g c = λ usable.
    stops_usable (Unit {0}) (Unit {0}) c.from_residual.result c.in_err-touch.field-0.0 (search rules) _ _ _ (c.in_err-touch.ensures.faults usable)

pub returns-clause-goes : goal.returns-clause-goes
returns-clause-goes g c = λ l w x is.
    let id = c.at.inside.object in
    let done : Result (Unit {0}) Stop = Ok c.in_ok-touch.field-0 in
    subst (λ (p : Position). Goes c.post_place.result (ContextRuns g.H.Host.view g.K.Keep.holds g.K.Keep.live l w c.post_place.new.ctx c.post_place.new.host) (ticks lists p x)) c.at.view_is
    (goes_then c.in_ok-touch.field-0 c.post_place.result (ContextRuns g.H.Host.view g.K.Keep.holds g.K.Keep.live l w c.touch.new.ctx c.touch.new.host) _ (touches lists (first_actions lists) id x) (λ _. posts_place lists id c.at.inside.place)
    (goes_by g.H.Host.view g.K.Keep.holds g.K.Keep.live l w done _ c.args.ctx.now c.touch.new.ctx c.args.host.now c.touch.new.host x is (c.in_ok-touch.ensures.runs l w x is) c.in_ok-touch.ensures.leaves)
    (λ y at now. c.post_place.ensures.goes l w y now (subst (λ (o : Outcome Histories Starts (Unit {0})). Reaches id o) at (touch_reaches id x))))

pub returns-clause-faults : goal.returns-clause-faults
returns-clause-faults g c = λ usable.
    then_usable c.in_ok-touch.field-0 c.post_place.result _ _ _ (g.H.Host.view c.touch.new.host) _ (c.in_ok-touch.ensures.faults usable) c.post_place.ensures.faults
