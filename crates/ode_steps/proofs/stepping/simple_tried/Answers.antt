use Rattle.std.proofs.Common.{List, Bool, false, refl, subst}
use Rattle.ode_engine.proofs.FaultLaws.{undamaged_by}
use Rattle.ode_engine.proofs.ServeLaws.{quiet_by, rest_now, told_by, told_on}
use Rattle.ode_language.specs.Languages.{ode}
use Rattle.ode_machine.specs.Interleaving.{replies_to, session_of, tries, view, Open, tries_simple}
use Rattle.ode_transact.specs.Contexts.{ContextRuns}
use Rattle.ode_steps.proofs.ServeLaws.{behind_serves, stopped_serves}
use Rattle.std.proofs.lemmas.Result.{err_from_is_err_and}
use Rattle.ode_host.proofs.Moments.{looks_joined}
use Rattle.ode_value.specs.declared.statement.Statement.TheVariants as statement
use Rattle.ode_interleaved_laws.specs.Serial.{taken_of}
use Rattle.ode_steps.proofs.NumberLaws.{has_room, left_so}
use Rattle.ode_steps.proofs.EndLaws.{tried_well}
use Rattle.ode_steps.proofs.OpenedLaws.{open_is}
use Rattle.ode_steps.specs.Trying.{TriedAs}
use Rattle.ode_steps.proofs.stepping.simple_tried.Goals as goal

pub returns-in_err-ctx-clause-serves : goal.returns-in_err-ctx-clause-serves
returns-in_err-ctx-clause-serves g c m here spent other goes_on =
    let p = err_from_is_err_and c.from_residual.result c.from_residual.ensures.1 in
    rw (p.1, p.2) (stopped_serves g.H.Host.view g.K.Keep.holds g.K.Keep.live g.K.Keep.means ode g.met.K.Keep.stands g.met.H.Host.text_stands m (replies_to m c.args.session false (tries ode m (session_of c.args.session m.sessions) (statement.Simple c.args.s.now))) _ _ c.args.host.now c.view_of.new.host (rest_now g.H.Host.view g.K.Keep.holds g.K.Keep.live ode m.world c.args.rest c.args.host.now here.goes_on.well here.rests) c.in_err-ctx.ensures.looks (undamaged_by _ _ c.in_err-ctx.ensures.undamaged (λ never. never m.world here.rests (has_room m here.goes_on (left_so m c.args.session c.args.s.now c.args.spent spent other)))))

pub returns-in_err-ctx-clause-leaves : goal.returns-in_err-ctx-clause-leaves
returns-in_err-ctx-clause-leaves g c =
    let p = err_from_is_err_and c.from_residual.result c.from_residual.ensures.1 in
    rw (p.1, p.2) (told_by _ _ _ _ (λ is. cc (is)) (λ is. cc (is)) (λ is. c.in_err-ctx.ensures.silent (cc (is))) c.in_err-ctx.ensures.looks c.in_err-ctx.ensures.cause)

pub returns-in_err-tried-clause-serves : goal.returns-in_err-tried-clause-serves
returns-in_err-tried-clause-serves g c m here spent other goes_on =
    let p = err_from_is_err_and c.from_residual-in_err-tried.result c.from_residual-in_err-tried.ensures.1 in
    rw (p.1, p.2) (stopped_serves g.H.Host.view g.K.Keep.holds g.K.Keep.live g.K.Keep.means ode g.met.K.Keep.stands g.met.H.Host.text_stands m (replies_to m c.args.session false (tries ode m (session_of c.args.session m.sessions) (statement.Simple c.args.s.now))) _ _ c.args.host.now c.try_simple.new.host (rest_now g.H.Host.view g.K.Keep.holds g.K.Keep.live ode m.world c.args.rest c.args.host.now here.goes_on.well here.rests) (looks_joined _ _ _ c.in_ok-ctx.ensures.looks c.in_err-tried.ensures.looks) (undamaged_by _ _ c.in_err-tried.ensures.undamaged (λ never. never m.world _ (subst (λ (os : List Open). ContextRuns g.H.Host.view g.K.Keep.holds g.K.Keep.live ode m.world c.in_ok-ctx.ctx c.view_of.new.host (view m.world (session_of c.args.session os))) here.same (rw c.as_slice-2.ensures at (c.in_ok-ctx.ensures.runs m.world here.rests))))))

pub returns-in_err-tried-clause-leaves : goal.returns-in_err-tried-clause-leaves
returns-in_err-tried-clause-leaves g c =
    let p = err_from_is_err_and c.from_residual-in_err-tried.result c.from_residual-in_err-tried.ensures.1 in
    rw (p.1, p.2) (told_on _ _ _ _ _ (quiet_by _ _ _ (λ is. cc (is)) c.in_ok-ctx.ensures.looks c.in_ok-ctx.ensures.cause).1 (told_by _ _ _ _ (λ is. cc (is)) (λ is. cc (is)) (λ is. c.in_err-tried.ensures.silent (cc (is))) c.in_err-tried.ensures.looks c.in_err-tried.ensures.cause))

pub returns-clause-serves : goal.returns-clause-serves
returns-clause-serves g c m here spent other goes_on =
    behind_serves g.H.Host.view g.K.Keep.holds g.K.Keep.live g.K.Keep.means ode g.met.K.Keep.stands g.met.H.Host.text_stands m (replies_to m c.args.session false (tries ode m (session_of c.args.session m.sessions) (statement.Simple c.args.s.now))) c.answer_tried.result c.answer_tried.new.sessions c.args.host.now c.try_simple.new.host c.answer_tried.new.host (rest_now g.H.Host.view g.K.Keep.holds g.K.Keep.live ode m.world c.args.rest c.args.host.now here.goes_on.well here.rests) (looks_joined _ _ _ c.in_ok-ctx.ensures.looks c.in_ok-tried.ensures.looks)
    (c.answer_tried.ensures.serves m _ here.goes_on here.same (subst (λ (b : Bool). TriedAs (taken_of (session_of c.args.session m.sessions)) (λ ctx. ContextRuns g.H.Host.view g.K.Keep.holds g.K.Keep.live ode m.world ctx c.try_simple.new.host) c.in_ok-tried.tried (tries_simple ode (session_of c.args.session m.sessions) b c.args.s.now (view m.world (session_of c.args.session m.sessions)))) spent (c.in_ok-tried.ensures.tried m.world _ (session_of c.args.session m.sessions) (open_is c.args.session c.args.sessions.now m.sessions here.same c.is_open-within.result (rw c.as_slice.ensures at c.is_open-within.ensures)) (subst (λ (os : List Open). ContextRuns g.H.Host.view g.K.Keep.holds g.K.Keep.live ode m.world c.in_ok-ctx.ctx c.view_of.new.host (view m.world (session_of c.args.session os))) here.same (rw c.as_slice-2.ensures at (c.in_ok-ctx.ensures.runs m.world here.rests))))) (tried_well m here.goes_on c.args.session (statement.Simple c.args.s.now) c.requires.text refl) goes_on)

pub returns-clause-leaves : goal.returns-clause-leaves
returns-clause-leaves g c =
    told_on _ _ _ _ _ (quiet_by _ _ _ (λ is. cc (is)) c.in_ok-ctx.ensures.looks c.in_ok-ctx.ensures.cause).1 (told_on _ _ _ _ _ (quiet_by _ _ _ (λ is. cc (is)) c.in_ok-tried.ensures.looks c.in_ok-tried.ensures.cause).1 c.answer_tried.ensures.leaves)
