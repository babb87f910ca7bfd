use Rattle.std.proofs.lemmas.Result.{err_from_is_err_and}
use Rattle.std.proofs.Common.{Err, Ok}
use Rattle.ode_engine.specs.declared.engine.Done.{Done}
use Rattle.ode_language.specs.Languages.{ode}
use Rattle.ode_machine.specs.Commands.{finish}
use Rattle.ode_transact.specs.Resting.{HoldsBy}
use Rattle.ode_trace.specs.Hearing.{heard_items}
use Rattle.ode_ends.proofs.CallLaws.{answer_quiet, damage_gives, error_told, told_behind}
use Rattle.ode_trace.proofs.HearingLaws.{moments_heard, printed_heard}
use Rattle.ode_trace.proofs.MachineLaws.{finish_ends}
use Rattle.ode_trace.proofs.ShipLaws.{bounded_log, ships_all, ships_none}
use Rattle.ode_trace.proofs.shipping.ship_rest.Goals as goal

pub ship-requires : goal.ship-requires
ship-requires g c = record { bounded = bounded_log c.args.engine.now.log c.finish.new.self.log c.requires.empty c.finish.ensures.grown }

pub returns-in_err-finish-clause-ships : goal.returns-in_err-finish-clause-ships
returns-in_err-finish-clause-ships g c session entries stands disk =
    let p = err_from_is_err_and c.from_residual.result c.from_residual.ensures.1 in
    let settled = (finish session).1 in
    rw (p.1, p.2)
    (ships_none g.H.Host.view g.K.Keep.holds g.K.Keep.live g.K.Keep.means g.met.K.Keep.stands g.met.K.Keep.stays session (finish session).0 settled entries c.args.engine.now.quiet c.requires.quiet
    c.args.host.now c.finish.new.host
    (λ said more told. moments_heard (HoldsBy ode g.K.Keep.means) c.args.engine.now.quiet settled (heard_items c.args.engine.now.quiet more) session.world said _ _
    (c.finish.ensures.any_moment session said (heard_items c.args.engine.now.quiet more) stands told))
    (Unit {0}) Done c.in_err-finish.field-0.0 c.finish.new.self (damage_gives {R = Done} (Err c.in_err-finish.field-0.0) _ ⊥ (λ none. none session stands) c.in_err-finish.ensures.undamaged))

pub returns-in_err-finish-clause-leaves : goal.returns-in_err-finish-clause-leaves
returns-in_err-finish-clause-leaves g c =
    let p = err_from_is_err_and c.from_residual.result c.from_residual.ensures.1 in
    rw (p.1, p.2) (error_told Done (Unit {0}) _ _ _ c.in_err-finish.ensures.leaves)

pub returns-clause-ships : goal.returns-clause-ships
returns-clause-ships g c session entries stands disk =
    let settled = (finish session).1 in
    ships_all g.H.Host.view g.K.Keep.holds g.K.Keep.live g.K.Keep.means g.met.K.Keep.stands g.met.K.Keep.stays session (finish session).0 settled entries c.args.engine.now.quiet c.requires.quiet
    c.args.host.now c.finish.new.host
    (λ said more told. moments_heard (HoldsBy ode g.K.Keep.means) c.args.engine.now.quiet settled (heard_items c.args.engine.now.quiet more) session.world said _ _
    (c.finish.ensures.any_moment session said (heard_items c.args.engine.now.quiet more) stands told))
    c.ship.new.host c.args.engine.now c.finish.new.self c.ship.new.engine (finish_ends session) c.requires.empty
    (printed_heard {R = Unit {0}} (Ok tt) c.args.engine.now.quiet settled (g.H.Host.view c.args.host.now) (g.H.Host.view c.finish.new.host) (c.in_ok-finish.ensures.printed session stands)) (c.in_ok-finish.ensures.stands session stands)
    (c.in_ok-finish.ensures.logs session entries stands disk) c.ship.ensures.taken c.ship.ensures.any_moment c.ship.ensures.stands
    c.ship.result c.ship.ensures.printed c.ship.ensures.fits c.ship.ensures.sound

pub returns-clause-leaves : goal.returns-clause-leaves
returns-clause-leaves g c = told_behind _ _ _ _ _ (answer_quiet c.in_ok-finish.field-0 _ _ c.in_ok-finish.ensures.leaves) c.ship.ensures.leaves
