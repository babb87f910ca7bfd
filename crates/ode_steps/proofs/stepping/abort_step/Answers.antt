use Rattle.std.proofs.Common.{List, Option, Some, false, subst}
use Rattle.ode_engine.proofs.FaultLaws.{undamaged_by}
use Rattle.ode_engine.proofs.ServeLaws.{quiet_by, rest_now, told_by, told_on}
use Rattle.ode_engine.proofs.SessionLaws.{room}
use Rattle.ode_language.specs.Languages.{ode}
use Rattle.ode_machine.specs.Interleaving.{Ends, replies_to, session_of, view, Open}
use Rattle.ode_transact.specs.Contexts.{ContextRuns}
use Rattle.ode_steps.proofs.ServeLaws.{behind_serves, stopped_serves}
use Rattle.std.proofs.lemmas.Result.{err_from_is_err_and}
use Rattle.ode_interleaved_laws.proofs.StepLaws.{less_left, place_open}
use Rattle.ode_steps.proofs.EndLaws.{end_goes, end_well}
use Rattle.ode_value.specs.Acts.{Aborted}
use Rattle.ode_steps.proofs.stepping.abort_step.Goals as goal

pub returns-in_err-ctx-clause-serves : goal.returns-in_err-ctx-clause-serves
returns-in_err-ctx-clause-serves g c m o here found =
    let p = err_from_is_err_and c.from_residual.result c.from_residual.ensures.1 in
    rw (p.1, p.2) (stopped_serves g.H.Host.view g.K.Keep.holds g.K.Keep.live g.K.Keep.means ode g.met.K.Keep.stands g.met.H.Host.text_stands m (replies_to m c.args.session false (Ends (Aborted c.args.why (view m.world (Some o))))) _ _ c.args.host.now c.view_of.new.host (rest_now g.H.Host.view g.K.Keep.holds g.K.Keep.live ode m.world c.args.rest c.args.host.now here.goes_on.well here.rests) c.in_err-ctx.ensures.looks (undamaged_by _ _ c.in_err-ctx.ensures.undamaged (λ never. never m.world here.rests (room m.world (less_left m here.goes_on c.args.session (place_open m here.goes_on c.args.session o found))))))

pub returns-in_err-ctx-clause-leaves : goal.returns-in_err-ctx-clause-leaves
returns-in_err-ctx-clause-leaves g c =
    let p = err_from_is_err_and c.from_residual.result c.from_residual.ensures.1 in
    rw (p.1, p.2) (told_by _ _ _ _ (λ is. cc (is)) (λ is. cc (is)) (λ is. c.in_err-ctx.ensures.silent (cc (is))) c.in_err-ctx.ensures.looks c.in_err-ctx.ensures.cause)

pub returns-clause-serves : goal.returns-clause-serves
returns-clause-serves g c m o here found =
    behind_serves g.H.Host.view g.K.Keep.holds g.K.Keep.live g.K.Keep.means ode g.met.K.Keep.stands g.met.H.Host.text_stands m (replies_to m c.args.session false (Ends (Aborted c.args.why (view m.world (Some o))))) c.end_step.result c.end_step.new.sessions c.args.host.now c.view_of.new.host c.end_step.new.host (rest_now g.H.Host.view g.K.Keep.holds g.K.Keep.live ode m.world c.args.rest c.args.host.now here.goes_on.well here.rests) c.in_ok-ctx.ensures.looks
    (c.end_step.ensures.serves m (view m.world (Some o)) here.goes_on here.same (subst (λ (own : Option Open). ContextRuns g.H.Host.view g.K.Keep.holds g.K.Keep.live ode m.world c.in_ok-ctx.ctx c.view_of.new.host (view m.world own)) found (subst (λ (os : List Open). ContextRuns g.H.Host.view g.K.Keep.holds g.K.Keep.live ode m.world c.in_ok-ctx.ctx c.view_of.new.host (view m.world (session_of c.args.session os))) here.same (rw c.as_slice.ensures at (c.in_ok-ctx.ensures.runs m.world here.rests)))) (end_well m here.goes_on c.args.session o found c.args.why) (end_goes m here.goes_on c.args.session o found c.args.why))

pub returns-clause-leaves : goal.returns-clause-leaves
returns-clause-leaves g c =
    told_on _ _ _ _ _ (quiet_by _ _ _ (λ is. cc (is)) c.in_ok-ctx.ensures.looks c.in_ok-ctx.ensures.cause).1 c.end_step.ensures.leaves
