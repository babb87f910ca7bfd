use Rattle.std.proofs.Common.{Err, ℕ, sym, subst}
use Rattle.ode_host.proofs.Moments.{joined}
use Rattle.ode_interleaved_laws.proofs.GoingLaws.{none_open}
use Rattle.ode_language.specs.Languages.{ode}
use Rattle.ode_machine.specs.Conversation.{opening, pieces_items, resting}
use Rattle.ode_machine.specs.Moments.{IsAfterSome}
use Rattle.ode_script.specs.Cutting.{pieces}
use Rattle.ode_sessions.proofs.RunsLaws.{begun_stands, runs_opened}
use Rattle.ode_sessions.proofs.SessionLaws.{started_live, started_stands}
use Rattle.ode_sessions.specs.Running.{items_from}
use Rattle.ode_sessions.specs.Speaking.{spoken}
use Rattle.ode_ends.proofs.CallLaws.{answer_quiet, damage_gives, error_stated, told_behind}
use Rattle.ode_ends.proofs.StatusLaws.{ended_is, engine_answers, engine_no_end}
use Rattle.ode_ends.specs.Statuses.{IsEnding, IsRunStatus}
use Rattle.ode_transact.specs.Resting.{HoldsBy}
use Rattle.ode_sessions.proofs.run.run_sessions.Goals as goal

pub drain-requires-clause-live : goal.drain-requires-clause-live
drain-requires-clause-live g c =
    started_live g.H.Host.view g.K.Keep.holds g.K.Keep.live g.K.Keep.means g.met.K.Keep.stands g.met.K.Keep.stays c.args.opened c.start-sessions.result c.start-sessions.ensures.live c.start-sessions.ensures.rest c.requires.live c.requires.fit c.requires.aligned

pub returns-in-Ok-clause-ran : goal.returns-in-Ok-clause-ran
returns-in-Ok-clause-ran g c w script text told begins is_ending =
    let here = begun_stands g.H.Host.view g.K.Keep.holds g.K.Keep.live g.K.Keep.means g.met.K.Keep.stands g.met.K.Keep.stays w c.args.opened c.start-sessions.result c.args.host.now text begins c.start-sessions.ensures.rest c.start-sessions.ensures.sessions in
    let runs = runs_opened g.H.Host.view g.K.Keep.holds g.K.Keep.live g.K.Keep.means g.met.K.Keep.stands g.met.K.Keep.stays w script text c.args.opened c.start-sessions.result c.drain.new.self c.args.host.now c.drain.new.host begins here
    c.in-Ok.ensures.stands c.in-Ok.ensures.printed in
    c.run_pieces.ensures.ran w (items_from w script) script text told runs is_ending

pub returns-in-Ok-clause-any_moment : goal.returns-in-Ok-clause-any_moment
returns-in-Ok-clause-any_moment g c w script text told begins =
    let here = begun_stands g.H.Host.view g.K.Keep.holds g.K.Keep.live g.K.Keep.means g.met.K.Keep.stands g.met.K.Keep.stays w c.args.opened c.start-sessions.result c.args.host.now text begins c.start-sessions.ensures.rest c.start-sessions.ensures.sessions in
    let runs = runs_opened g.H.Host.view g.K.Keep.holds g.K.Keep.live g.K.Keep.means g.met.K.Keep.stands g.met.K.Keep.stays w script text c.args.opened c.start-sessions.result c.drain.new.self c.args.host.now c.drain.new.host begins here
    c.in-Ok.ensures.stands c.in-Ok.ensures.printed in
    joined _ _ _ (IsAfterSome (HoldsBy ode g.K.Keep.means) (items_from w script) w text)
    (c.drain.ensures.any_moment (resting w) text (pieces_items ode spoken (pieces script) (opening w).0) here begins.printed)
    (c.run_pieces.ensures.any_moment w (items_from w script) script text told runs)

pub returns-in-Ok-clause-answers : goal.returns-in-Ok-clause-answers
returns-in-Ok-clause-answers g c w well rests =
    let here = started_stands g.H.Host.view g.K.Keep.holds g.K.Keep.live g.K.Keep.means g.met.K.Keep.stands g.met.K.Keep.stays w c.args.opened c.start-sessions.result c.args.host.now c.start-sessions.ensures.rest c.start-sessions.ensures.sessions (none_open w well) rests in
    c.run_pieces.ensures.answers (opening w).0 (c.in-Ok.ensures.stands (resting w) here)

pub returns-in-Ok-clause-leaves : goal.returns-in-Ok-clause-leaves
returns-in-Ok-clause-leaves g c = told_behind _ _ _ _ _ (answer_quiet c.in-Ok.field-0 _ _ c.in-Ok.ensures.leaves) c.run_pieces.ensures.leaves

-- the drain stopped
pub returns-clause-ran : goal.returns-clause-ran
returns-clause-ran g c w script text told begins is_ending = absurd (engine_no_end c.in-Err.error (subst IsEnding (ended_is c.ended_by.result c.in-Err.error c.ended_by.ensures) is_ending))

pub returns-clause-any_moment : goal.returns-clause-any_moment
returns-clause-any_moment g c w script text told begins =
    let here = begun_stands g.H.Host.view g.K.Keep.holds g.K.Keep.live g.K.Keep.means g.met.K.Keep.stands g.met.K.Keep.stays w c.args.opened c.start-sessions.result c.args.host.now text begins c.start-sessions.ensures.rest c.start-sessions.ensures.sessions in
    c.drain.ensures.any_moment (resting w) text (pieces_items ode spoken (pieces script) (opening w).0) here begins.printed

pub returns-clause-answers : goal.returns-clause-answers
returns-clause-answers g c w well rests =
    let here = started_stands g.H.Host.view g.K.Keep.holds g.K.Keep.live g.K.Keep.means g.met.K.Keep.stands g.met.K.Keep.stays w c.args.opened c.start-sessions.result c.args.host.now c.start-sessions.ensures.rest c.start-sessions.ensures.sessions (none_open w well) rests in
    subst IsRunStatus (sym (ended_is c.ended_by.result c.in-Err.error c.ended_by.ensures))
    (engine_answers ℕ c.in-Err.error (damage_gives {R = ℕ} (Err c.in-Err.error) _ ⊥ (λ none. none (resting w) here) c.in-Err.ensures.undamaged))

pub returns-clause-leaves : goal.returns-clause-leaves
returns-clause-leaves g c = rw (ended_is c.ended_by.result c.in-Err.error c.ended_by.ensures) (error_stated ℕ c.in-Err.error _ _ c.in-Err.ensures.leaves)
