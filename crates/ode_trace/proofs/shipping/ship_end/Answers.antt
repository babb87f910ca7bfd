use Rattle.std.proofs.Common.{◌∙◌, [], List, append-nil, inl, subst, sym}
use Rattle.ode_host.proofs.Calls.{host_calls_as}
use Rattle.ode_host.specs.Host.{LeavesOnly}
use Rattle.ode_machine.specs.Commands.{finish}
use Rattle.ode_machine.specs.Runs.{Item}
use Rattle.ode_transact.specs.Items.{items_of}
use Rattle.ode_trace.specs.Shipping.{IsShippedSoFar}
use Rattle.ode_ends.specs.Statuses.{IsEnding, IsRunStatus}
use Rattle.ode_ends.proofs.CallLaws.{answer_quiet, error_stated}
use Rattle.ode_trace.proofs.ShipLaws.{disk_of}
use Rattle.ode_ends.proofs.StatusLaws.{end_no_disk, end_no_print, end_no_read, end_runs, ended_is, engine_answers, engine_no_end}
use Rattle.ode_trace.proofs.shipping.ship_end.Goals as goal

pub returns-in-Ok-clause-ends : goal.returns-in-Ok-clause-ends
returns-in-Ok-clause-ends g c session entries stands disk is_ending = (c.in-Ok.ensures.ships session entries stands disk).has

pub returns-in-Ok-clause-stated : goal.returns-in-Ok-clause-stated
returns-in-Ok-clause-stated g c is_ending = c.status_at_end.ensures

pub returns-in-Ok-clause-any_moment : goal.returns-in-Ok-clause-any_moment
returns-in-Ok-clause-any_moment g c session entries text stands disk told =
    subst (λ (l : List Item). LeavesOnly (g.H.Host.view c.args.host.now) (g.H.Host.view c.ship_rest.new.host) (IsShippedSoFar g.K.Keep.means l session.world entries text)) (append-nil (items_of (finish session).1))
    ((c.in-Ok.ensures.ships session entries stands disk).any_moment text [] told)

pub returns-in-Ok-clause-statuses : goal.returns-in-Ok-clause-statuses
returns-in-Ok-clause-statuses g c = inl (subst IsRunStatus (sym c.status_at_end.ensures) (end_runs c.args.refused))

pub returns-in-Ok-clause-answers : goal.returns-in-Ok-clause-answers
returns-in-Ok-clause-answers g c session stands = subst IsRunStatus (sym c.status_at_end.ensures) (end_runs c.args.refused)

pub returns-in-Ok-clause-leaves : goal.returns-in-Ok-clause-leaves
returns-in-Ok-clause-leaves g c =
    host_calls_as ⊥ ⊥ _ _ _ _ absurd (λ is. end_no_disk c.args.refused (sym c.status_at_end.ensures ∙ is)) absurd (λ is. end_no_print c.args.refused (sym c.status_at_end.ensures ∙ is)) (answer_quiet tt _ _ c.in-Ok.ensures.leaves)

pub returns-in-Ok-clause-reads : goal.returns-in-Ok-clause-reads
returns-in-Ok-clause-reads g c is = end_no_read c.args.refused (sym c.status_at_end.ensures ∙ is)

pub returns-in-Err-clause-ends : goal.returns-in-Err-clause-ends
returns-in-Err-clause-ends g c session entries stands disk is_ending = absurd (engine_no_end c.in-Err.error (subst IsEnding (ended_is c.ended_by.result c.in-Err.error c.ended_by.ensures) is_ending))

pub returns-in-Err-clause-stated : goal.returns-in-Err-clause-stated
returns-in-Err-clause-stated g c is_ending = absurd (engine_no_end c.in-Err.error (subst IsEnding (ended_is c.ended_by.result c.in-Err.error c.ended_by.ensures) is_ending))

pub returns-in-Err-clause-any_moment : goal.returns-in-Err-clause-any_moment
returns-in-Err-clause-any_moment g c session entries text stands disk told =
    subst (λ (l : List Item). LeavesOnly (g.H.Host.view c.args.host.now) (g.H.Host.view c.ship_rest.new.host) (IsShippedSoFar g.K.Keep.means l session.world entries text)) (append-nil (items_of (finish session).1))
    ((c.in-Err.ensures.ships session entries stands disk).any_moment text [] told)

pub returns-in-Err-clause-answers : goal.returns-in-Err-clause-answers
returns-in-Err-clause-answers g c session stands =
    let there = disk_of g.H.Host.view g.K.Keep.holds g.K.Keep.live g.K.Keep.means g.met.K.Keep.stands g.met.K.Keep.stays session c.args.engine.now c.args.host.now stands in
    subst IsRunStatus (sym (ended_is c.ended_by.result c.in-Err.error c.ended_by.ensures)) (engine_answers (Unit {0}) c.in-Err.error (c.in-Err.ensures.ships session there.0 stands there.1).sound)

pub returns-in-Err-clause-leaves : goal.returns-in-Err-clause-leaves
returns-in-Err-clause-leaves g c = rw (ended_is c.ended_by.result c.in-Err.error c.ended_by.ensures) (error_stated (Unit {0}) c.in-Err.error _ _ c.in-Err.ensures.leaves)
