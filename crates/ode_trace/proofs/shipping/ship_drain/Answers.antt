use Rattle.std.proofs.lemmas.Result.{err_from_is_err_and}
use Rattle.std.proofs.Common.{◌∙◌, ℕ, Err, Ok, ap, subst, sym}
use Rattle.ode_engine.specs.Serving.{IsLive}
use Rattle.ode_engine.specs.declared.engine.Engine.{Engine}
use Rattle.ode_language.specs.Languages.{ode}
use Rattle.ode_machine.specs.Commands.{after}
use Rattle.ode_transact.specs.Resting.{HoldsBy}
use Rattle.ode_trace.specs.Hearing.{heard_items}
use Rattle.ode_ends.proofs.CallLaws.{always, answer_quiet, damage_gives, error_told, told_behind}
use Rattle.ode_trace.proofs.HearingLaws.{moments_heard, printed_heard}
use Rattle.ode_trace.proofs.MachineLaws.{opening_ends}
use Rattle.ode_trace.proofs.ShipLaws.{bounded_log, emptied_log, live_logged, ships_all, ships_none}
use Rattle.ode_value.specs.Draining.{drain}
use Rattle.ode_value.specs.Limits.{drain_limit}
use Rattle.ode_value.specs.Pasts.{lists}
use Rattle.ode_trace.proofs.shipping.ship_drain.Goals as goal

pub ship-requires : goal.ship-requires
ship-requires g c = record { bounded = bounded_log c.args.engine.now.log c.drain.new.self.log c.requires.empty c.drain.ensures.grown }

pub returns-in_err-drain-clause-ships : goal.returns-in_err-drain-clause-ships
returns-in_err-drain-clause-ships g c session entries stands disk =
    let p = err_from_is_err_and c.from_residual.result c.from_residual.ensures.1 in
    let settled = drain lists drain_limit session.world in
    rw (p.1, p.2)
    (ships_none g.H.Host.view g.K.Keep.holds g.K.Keep.live g.K.Keep.means g.met.K.Keep.stands g.met.K.Keep.stays session (after session.world (drain lists drain_limit session.world)).0 settled entries c.args.engine.now.quiet c.requires.quiet
    c.args.host.now c.drain.new.host
    (λ said more told. moments_heard (HoldsBy ode g.K.Keep.means) c.args.engine.now.quiet settled (heard_items c.args.engine.now.quiet more) session.world said _ _
    (c.drain.ensures.any_moment session said (heard_items c.args.engine.now.quiet more) stands told))
    (Unit {0}) ℕ c.in_err-drain.field-0.0 c.drain.new.self (damage_gives {R = ℕ} (Err c.in_err-drain.field-0.0) _ ⊥ (λ none. none session stands) c.in_err-drain.ensures.undamaged))

pub returns-in_err-drain-clause-leaves : goal.returns-in_err-drain-clause-leaves
returns-in_err-drain-clause-leaves g c =
    let p = err_from_is_err_and c.from_residual.result c.from_residual.ensures.1 in
    rw (p.1, p.2) (error_told ℕ (Unit {0}) _ _ _ c.in_err-drain.ensures.leaves)

pub returns-clause-ships : goal.returns-clause-ships
returns-clause-ships g c session entries stands disk =
    let settled = drain lists drain_limit session.world in
    ships_all g.H.Host.view g.K.Keep.holds g.K.Keep.live g.K.Keep.means g.met.K.Keep.stands g.met.K.Keep.stays session (after session.world (drain lists drain_limit session.world)).0 settled entries c.args.engine.now.quiet c.requires.quiet
    c.args.host.now c.drain.new.host
    (λ said more told. moments_heard (HoldsBy ode g.K.Keep.means) c.args.engine.now.quiet settled (heard_items c.args.engine.now.quiet more) session.world said _ _
    (c.drain.ensures.any_moment session said (heard_items c.args.engine.now.quiet more) stands told))
    c.ship.new.host c.args.engine.now c.drain.new.self c.ship.new.engine (opening_ends ode session.world) c.requires.empty
    (printed_heard {R = Unit {0}} (Ok tt) c.args.engine.now.quiet settled (g.H.Host.view c.args.host.now) (g.H.Host.view c.drain.new.host) (c.in_ok-drain.ensures.printed session stands)) (c.in_ok-drain.ensures.stands session stands)
    (c.in_ok-drain.ensures.logs session entries stands disk) c.ship.ensures.taken c.ship.ensures.any_moment c.ship.ensures.stands
    c.ship.result c.ship.ensures.printed c.ship.ensures.fits c.ship.ensures.sound

pub returns-clause-live : goal.returns-clause-live
returns-clause-live g c =
    always c.ship.result _
    (subst (λ (e : Engine g.row.K.Denot). IsLive g.K.Keep.live e) (sym c.ship.ensures.taken) (live_logged g.H.Host.view g.K.Keep.holds g.K.Keep.live g.K.Keep.means g.met.K.Keep.stands g.met.K.Keep.stays c.drain.new.self _ c.in_ok-drain.ensures.live))

pub returns-clause-empty : goal.returns-clause-empty
returns-clause-empty g c =
    always c.ship.result _
    (emptied_log c.args.engine.now.log c.drain.new.self.log c.ship.new.engine.log c.requires.empty c.drain.ensures.grown (ap (λ (e : Engine g.row.K.Denot). e.log) c.ship.ensures.taken))

pub returns-clause-quiet : goal.returns-clause-quiet
returns-clause-quiet g c = always c.ship.result _ (ap (λ (e : Engine g.row.K.Denot). e.quiet) c.ship.ensures.taken ∙ c.drain.ensures.quiet ∙ c.requires.quiet)

pub returns-clause-leaves : goal.returns-clause-leaves
returns-clause-leaves g c = told_behind _ _ _ _ _ (answer_quiet c.in_ok-drain.field-0 _ _ c.in_ok-drain.ensures.leaves) c.ship.ensures.leaves
