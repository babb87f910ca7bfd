use Rattle.std.proofs.Common.{Bool, Err, Ok, ap, subst, sym, ◌∙◌}
use Rattle.std.proofs.lemmas.Result.{err_from_is_err_and}
use Rattle.ode_engine.specs.Serving.{IsLive, session_after, settlings}
use Rattle.ode_engine.specs.declared.engine.Done.{Done}
use Rattle.ode_engine.specs.declared.engine.Engine.{Engine}
use Rattle.ode_language.specs.Languages.{ode}
use Rattle.ode_machine.specs.Commands.{command}
use Rattle.ode_trace.specs.Hearing.{heard_items}
use Rattle.ode_ends.proofs.CallLaws.{answer_quiet, damage_as, error_told, quiet_answer, told_behind}
use Rattle.ode_trace.proofs.MachineLaws.{answer_ends}
use Rattle.ode_trace.proofs.ShipLaws.{bounded_log, emptied_log, live_logged, refused_is, ships_all, ships_none}
use Rattle.ode_trace.proofs.shipping.ship_piece.Goals as goal

pub ship-requires : goal.ship-requires
ship-requires g c = record { bounded = bounded_log c.args.engine.now.log c.command_piece.new.engine.log c.requires.empty c.command_piece.ensures.grown }

-- ---- a piece that the engine doesn't answer

pub returns-in_err-done-clause-ships : goal.returns-in_err-done-clause-ships
returns-in_err-done-clause-ships g c session entries stands disk =
    let p = err_from_is_err_and c.from_residual.result c.from_residual.ensures.1 in
    let answer = command ode session c.args.text.now in
    let came = c.in_err-done.ensures.commands session stands in
    rw (p.1, p.2)
    (ships_none g.H.Host.view g.K.Keep.holds g.K.Keep.live g.K.Keep.means g.met.K.Keep.stands g.met.K.Keep.stays session (session_after session answer) (settlings answer) entries c.args.engine.now.quiet c.requires.quiet
    c.args.host.now c.command_piece.new.host (λ said more told. came.any_moment said (heard_items c.args.engine.now.quiet more) told) Bool Done c.in_err-done.field-0.0 c.command_piece.new.engine came.sound)

pub returns-in_err-done-clause-leaves : goal.returns-in_err-done-clause-leaves
returns-in_err-done-clause-leaves g c =
    let p = err_from_is_err_and c.from_residual.result c.from_residual.ensures.1 in
    rw (p.1, p.2) (error_told Done Bool _ _ _ c.in_err-done.ensures.leaves)

-- ---- frames that aren't printed

pub returns-in_err-ship-clause-ships : goal.returns-in_err-ship-clause-ships
returns-in_err-ship-clause-ships g c session entries stands disk =
    let p = err_from_is_err_and c.from_residual-in_err-ship.result c.from_residual-in_err-ship.ensures.1 in
    let answer = command ode session c.args.text.now in
    let came = c.in_ok-done.ensures.commands session stands in
    rw (p.1, p.2)
    (ships_all g.H.Host.view g.K.Keep.holds g.K.Keep.live g.K.Keep.means g.met.K.Keep.stands g.met.K.Keep.stays session (session_after session answer) (settlings answer) entries c.args.engine.now.quiet c.requires.quiet
    c.args.host.now c.command_piece.new.host (λ said more told. came.any_moment said (heard_items c.args.engine.now.quiet more) told)
    c.ship.new.host c.args.engine.now c.command_piece.new.engine c.ship.new.engine (answer_ends ode session c.args.text.now) c.requires.empty came.printed came.stands
    (c.in_ok-done.ensures.logs session entries stands disk) c.ship.ensures.taken c.ship.ensures.any_moment c.ship.ensures.stands
    (Err c.in_err-ship.field-0.0) tt tt (damage_as (Unit {0}) Bool c.in_err-ship.field-0.0 ⊥ c.in_err-ship.ensures.sound))

pub returns-in_err-ship-clause-leaves : goal.returns-in_err-ship-clause-leaves
returns-in_err-ship-clause-leaves g c =
    let p = err_from_is_err_and c.from_residual-in_err-ship.result c.from_residual-in_err-ship.ensures.1 in
    rw (p.1, p.2) (told_behind _ _ _ _ _ (answer_quiet c.in_ok-done.done _ _ c.in_ok-done.ensures.leaves) (error_told (Unit {0}) Bool _ _ _ c.in_err-ship.ensures.leaves))

-- ---- an answer

pub returns-clause-refused : goal.returns-clause-refused
returns-clause-refused g c session stands = c.is_refused.ensures ∙ refused_is c.in_ok-done.done (command ode session c.args.text.now) (c.in_ok-done.ensures.commands session stands).answers

pub returns-clause-ships : goal.returns-clause-ships
returns-clause-ships g c session entries stands disk =
    let answer = command ode session c.args.text.now in
    let came = c.in_ok-done.ensures.commands session stands in
    ships_all g.H.Host.view g.K.Keep.holds g.K.Keep.live g.K.Keep.means g.met.K.Keep.stands g.met.K.Keep.stays session (session_after session answer) (settlings answer) entries c.args.engine.now.quiet c.requires.quiet
    c.args.host.now c.command_piece.new.host (λ said more told. came.any_moment said (heard_items c.args.engine.now.quiet more) told)
    c.ship.new.host c.args.engine.now c.command_piece.new.engine c.ship.new.engine (answer_ends ode session c.args.text.now) c.requires.empty came.printed came.stands
    (c.in_ok-done.ensures.logs session entries stands disk) c.ship.ensures.taken c.ship.ensures.any_moment c.ship.ensures.stands
    (Ok c.is_refused.result) c.in_ok-ship.ensures.printed c.in_ok-ship.ensures.fits tt

pub returns-clause-live : goal.returns-clause-live
returns-clause-live g c =
    subst (λ (e : Engine g.row.K.Denot). IsLive g.K.Keep.live e) (sym c.ship.ensures.taken)
    (live_logged g.H.Host.view g.K.Keep.holds g.K.Keep.live g.K.Keep.means g.met.K.Keep.stands g.met.K.Keep.stays c.command_piece.new.engine _ c.in_ok-done.ensures.live)

pub returns-clause-empty : goal.returns-clause-empty
returns-clause-empty g c =
    emptied_log c.args.engine.now.log c.command_piece.new.engine.log c.ship.new.engine.log c.requires.empty c.command_piece.ensures.grown (ap (λ (e : Engine g.row.K.Denot). e.log) c.ship.ensures.taken)

pub returns-clause-quiet : goal.returns-clause-quiet
returns-clause-quiet g c = ap (λ (e : Engine g.row.K.Denot). e.quiet) c.ship.ensures.taken ∙ c.command_piece.ensures.quiet ∙ c.requires.quiet

pub returns-clause-leaves : goal.returns-clause-leaves
returns-clause-leaves g c =
    quiet_answer c.is_refused.result _ _ (told_behind ⊥ ⊥ _ _ _ (answer_quiet c.in_ok-done.done _ _ c.in_ok-done.ensures.leaves) (answer_quiet tt _ _ c.in_ok-ship.ensures.leaves))
