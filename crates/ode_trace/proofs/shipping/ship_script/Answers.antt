use Rattle.std.proofs.Common.{◌∙◌, ap, subst, sym}
use Rattle.ode_engine.specs.declared.engine.Engine.{Engine}
use Rattle.ode_host.proofs.Moments.{joined}
use Rattle.ode_language.specs.Languages.{ode}
use Rattle.ode_machine.specs.Runs.{opening, pieces_items, trace}
use Rattle.ode_machine.specs.Sessions.{closed}
use Rattle.ode_script.specs.Cutting.{pieces}
use Rattle.ode_trace.specs.Shipping.{IsShippedSoFar}
use Rattle.ode_ends.specs.Statuses.{IsEnding, IsRunStatus}
use Rattle.ode_ends.proofs.CallLaws.{answer_quiet, error_stated, told_behind}
use Rattle.ode_trace.proofs.EngineLaws.{started_live, started_stands}
use Rattle.ode_trace.proofs.ShipLaws.{disk_of, logging_has, opened_ships}
use Rattle.ode_ends.proofs.StatusLaws.{ended_is, engine_answers, engine_no_end}
use Rattle.ode_trace.proofs.shipping.ship_script.Goals as goal

pub ship_drain-requires-clause-live : goal.ship_drain-requires-clause-live
ship_drain-requires-clause-live g c =
    started_live g.H.Host.view g.K.Keep.holds g.K.Keep.live g.K.Keep.means g.met.K.Keep.stands g.met.K.Keep.stays c.args.opened c.keep_log.new.self (ap (λ (e : Engine g.row.K.Denot). e.live) c.keep_log.ensures.same ∙ c.start-engine.ensures.live)
    (logging_has g.H.Host.view g.K.Keep.holds g.K.Keep.live g.K.Keep.means g.met.K.Keep.stands g.met.K.Keep.stays c.start-engine.result c.keep_log.new.self _ _ _ c.keep_log.ensures.same c.start-engine.ensures.rest)
    c.requires.live c.requires.fit c.requires.aligned

pub ship_drain-requires-clause-closed : goal.ship_drain-requires-clause-closed
ship_drain-requires-clause-closed g c = ap (λ (e : Engine g.row.K.Denot). e.running) c.keep_log.ensures.same ∙ c.start-engine.ensures.rest.1

pub ship_drain-requires-clause-quiet : goal.ship_drain-requires-clause-quiet
ship_drain-requires-clause-quiet g c = ap (λ (e : Engine g.row.K.Denot). e.quiet) c.keep_log.ensures.same ∙ c.start-engine.ensures.output.0

pub returns-in-Ok-clause-shipped : goal.returns-in-Ok-clause-shipped
returns-in-Ok-clause-shipped g c w entries script text told begins disk is_ending =
    let here = started_stands g.H.Host.view g.K.Keep.holds g.K.Keep.live g.K.Keep.means g.met.K.Keep.stands g.met.K.Keep.stays w c.args.opened c.keep_log.new.self c.args.host.now
    (logging_has g.H.Host.view g.K.Keep.holds g.K.Keep.live g.K.Keep.means g.met.K.Keep.stands g.met.K.Keep.stays c.start-engine.result c.keep_log.new.self _ _ _ c.keep_log.ensures.same c.start-engine.ensures.rest)
    begins.well begins.rests in
    let runs = opened_ships g.H.Host.view g.K.Keep.holds g.K.Keep.live g.K.Keep.means g.met.K.Keep.stands g.met.K.Keep.stays w entries script text c.ship_drain.new.engine c.args.host.now c.ship_drain.new.host begins.printed (c.in-Ok.ensures.ships (closed w) entries here disk) in
    c.ship_pieces.ensures.shipped w entries (trace ode w script) script text told runs is_ending

pub returns-in-Ok-clause-any_moment : goal.returns-in-Ok-clause-any_moment
returns-in-Ok-clause-any_moment g c w entries script text told begins disk =
    let here = started_stands g.H.Host.view g.K.Keep.holds g.K.Keep.live g.K.Keep.means g.met.K.Keep.stands g.met.K.Keep.stays w c.args.opened c.keep_log.new.self c.args.host.now
    (logging_has g.H.Host.view g.K.Keep.holds g.K.Keep.live g.K.Keep.means g.met.K.Keep.stands g.met.K.Keep.stays c.start-engine.result c.keep_log.new.self _ _ _ c.keep_log.ensures.same c.start-engine.ensures.rest)
    begins.well begins.rests in
    let ships = c.in-Ok.ensures.ships (closed w) entries here disk in
    let runs = opened_ships g.H.Host.view g.K.Keep.holds g.K.Keep.live g.K.Keep.means g.met.K.Keep.stands g.met.K.Keep.stays w entries script text c.ship_drain.new.engine c.args.host.now c.ship_drain.new.host begins.printed ships in
    joined _ _ _ (IsShippedSoFar g.K.Keep.means (trace ode w script) w entries text) (ships.any_moment text (pieces_items ode (pieces script) (opening ode w).0) begins.printed)
    (c.ship_pieces.ensures.any_moment w entries (trace ode w script) script text told runs)

pub returns-in-Ok-clause-answers : goal.returns-in-Ok-clause-answers
returns-in-Ok-clause-answers g c w well rests =
    let here = started_stands g.H.Host.view g.K.Keep.holds g.K.Keep.live g.K.Keep.means g.met.K.Keep.stands g.met.K.Keep.stays w c.args.opened c.keep_log.new.self c.args.host.now
    (logging_has g.H.Host.view g.K.Keep.holds g.K.Keep.live g.K.Keep.means g.met.K.Keep.stands g.met.K.Keep.stays c.start-engine.result c.keep_log.new.self _ _ _ c.keep_log.ensures.same c.start-engine.ensures.rest)
    well rests in
    let there = disk_of g.H.Host.view g.K.Keep.holds g.K.Keep.live g.K.Keep.means g.met.K.Keep.stands g.met.K.Keep.stays (closed w) c.keep_log.new.self c.args.host.now here in
    c.ship_pieces.ensures.answers (opening ode w).0 (c.in-Ok.ensures.ships (closed w) there.0 here there.1).stands

pub returns-in-Ok-clause-leaves : goal.returns-in-Ok-clause-leaves
returns-in-Ok-clause-leaves g c = told_behind _ _ _ _ _ (answer_quiet tt _ _ c.in-Ok.ensures.leaves) c.ship_pieces.ensures.leaves

pub returns-clause-shipped : goal.returns-clause-shipped
returns-clause-shipped g c w entries script text told begins disk is_ending = absurd (engine_no_end c.in-Err.error (subst IsEnding (ended_is c.ended_by.result c.in-Err.error c.ended_by.ensures) is_ending))

pub returns-clause-any_moment : goal.returns-clause-any_moment
returns-clause-any_moment g c w entries script text told begins disk =
    let here = started_stands g.H.Host.view g.K.Keep.holds g.K.Keep.live g.K.Keep.means g.met.K.Keep.stands g.met.K.Keep.stays w c.args.opened c.keep_log.new.self c.args.host.now
    (logging_has g.H.Host.view g.K.Keep.holds g.K.Keep.live g.K.Keep.means g.met.K.Keep.stands g.met.K.Keep.stays c.start-engine.result c.keep_log.new.self _ _ _ c.keep_log.ensures.same c.start-engine.ensures.rest)
    begins.well begins.rests in
    (c.in-Err.ensures.ships (closed w) entries here disk).any_moment text (pieces_items ode (pieces script) (opening ode w).0) begins.printed

pub returns-clause-answers : goal.returns-clause-answers
returns-clause-answers g c w well rests =
    let here = started_stands g.H.Host.view g.K.Keep.holds g.K.Keep.live g.K.Keep.means g.met.K.Keep.stands g.met.K.Keep.stays w c.args.opened c.keep_log.new.self c.args.host.now
    (logging_has g.H.Host.view g.K.Keep.holds g.K.Keep.live g.K.Keep.means g.met.K.Keep.stands g.met.K.Keep.stays c.start-engine.result c.keep_log.new.self _ _ _ c.keep_log.ensures.same c.start-engine.ensures.rest)
    well rests in
    let there = disk_of g.H.Host.view g.K.Keep.holds g.K.Keep.live g.K.Keep.means g.met.K.Keep.stands g.met.K.Keep.stays (closed w) c.keep_log.new.self c.args.host.now here in
    subst IsRunStatus (sym (ended_is c.ended_by.result c.in-Err.error c.ended_by.ensures)) (engine_answers (Unit {0}) c.in-Err.error (c.in-Err.ensures.ships (closed w) there.0 here there.1).sound)

pub returns-clause-leaves : goal.returns-clause-leaves
returns-clause-leaves g c = rw (ended_is c.ended_by.result c.in-Err.error c.ended_by.ensures) (error_stated (Unit {0}) c.in-Err.error _ _ c.in-Err.ensures.leaves)
