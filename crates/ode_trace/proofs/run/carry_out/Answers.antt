use Rattle.std.proofs.lemmas.Result.{err_from_is_err_and}
use Rattle.ode_engine.specs.declared.engine.Done.{Done}
use Rattle.ode_language.specs.Languages.{ode}
use Rattle.ode_machine.specs.Commands.{command}
use Rattle.ode_ends.proofs.CallLaws.{always, answer_quiet, error_told, quiet_answer, told_behind}
use Rattle.ode_trace.proofs.EngineLaws.{refused_carries, settled_carries, stopped_carries}
use Rattle.ode_trace.proofs.run.carry_out.Goals as goal

pub returns-in-Settled-clause-carries : goal.returns-in-Settled-clause-carries
returns-in-Settled-clause-carries g c session stands =
    let came = rw c.in-Settled.is at (c.in_ok-done.ensures.commands session stands) in
    settled_carries g.H.Host.view g.K.Keep.holds g.K.Keep.live g.K.Keep.means g.met.K.Keep.stands g.met.K.Keep.stays session c.args.line (command ode session c.args.text.now) _ c.args.engine.now _ c.args.tally.now c.take_piece.new.self c.settle.new.self _ _
    came c.take_piece.ensures c.settle.ensures

pub returns-in-Settled-clause-leaves : goal.returns-in-Settled-clause-leaves
returns-in-Settled-clause-leaves g c = quiet_answer tt _ _ (answer_quiet c.in_ok-done.done _ _ c.in_ok-done.ensures.leaves)

pub returns-clause-carries : goal.returns-clause-carries
returns-clause-carries g c session stands =
    let came = rw c.in-Refused.is at (c.in_ok-done.ensures.commands session stands) in
    refused_carries g.H.Host.view g.K.Keep.holds g.K.Keep.live g.K.Keep.means g.met.K.Keep.stands g.met.K.Keep.stays session c.args.line (command ode session c.args.text.now) c.in-Refused.refusal c.args.engine.now c.command_piece.new.engine
    c.args.tally.now c.take_piece.new.self c.refuse.new.tally c.args.host.now c.command_piece.new.host c.refuse.new.host c.refuse.result
    came c.command_piece.ensures.quiet c.refuse.ensures.any_moment c.refuse.ensures.printed c.refuse.ensures.stands c.take_piece.ensures c.refuse.ensures.counted c.refuse.ensures.sound

pub returns-clause-leaves : goal.returns-clause-leaves
returns-clause-leaves g c = told_behind _ _ _ _ _ (answer_quiet c.in_ok-done.done _ _ c.in_ok-done.ensures.leaves) c.refuse.ensures.leaves

pub returns-clause-live : goal.returns-clause-live
returns-clause-live g c = always c.refuse.result _ c.in_ok-done.ensures.live

pub returns-in_err-done-clause-carries : goal.returns-in_err-done-clause-carries
returns-in_err-done-clause-carries g c session stands =
    let p = err_from_is_err_and c.from_residual.result c.from_residual.ensures.1 in
    rw (p.1, p.2) (stopped_carries g.H.Host.view g.K.Keep.holds g.K.Keep.live g.K.Keep.means g.met.K.Keep.stands g.met.K.Keep.stays session c.args.line (command ode session c.args.text.now) _ _ _ _ _ _ _
    (c.in_err-done.ensures.commands session stands))

pub returns-in_err-done-clause-leaves : goal.returns-in_err-done-clause-leaves
returns-in_err-done-clause-leaves g c =
    let p = err_from_is_err_and c.from_residual.result c.from_residual.ensures.1 in
    rw (p.1, p.2) (error_told Done (Unit {0}) _ _ _ c.in_err-done.ensures.leaves)
