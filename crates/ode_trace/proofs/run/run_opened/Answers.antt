use Rattle.std.proofs.Common.{Err, ℕ, ◌∙◌, ap, sym, subst}
use Rattle.ode_host.proofs.Moments.{joined}
use Rattle.ode_language.specs.Languages.{ode}
use Rattle.ode_machine.specs.Moments.{IsAfterSome}
use Rattle.ode_machine.specs.Runs.{opening, pieces_items, trace}
use Rattle.ode_machine.specs.Sessions.{closed}
use Rattle.ode_script.specs.Cutting.{pieces}
use Rattle.ode_transact.specs.Resting.{HoldsBy}
use Rattle.ode_trace.specs.Hearing.{heard_items}
use Rattle.ode_ends.specs.Statuses.{IsEnding, IsRunStatus}
use Rattle.ode_trace.specs.Tallies.{with_bytes}
use Rattle.ode_ends.proofs.CallLaws.{answer_quiet, damage_gives, error_stated, told_behind}
use Rattle.ode_trace.proofs.EngineLaws.{started_live, started_stands}
use Rattle.ode_trace.proofs.RunLaws.{opened_leaves}
use Rattle.ode_trace.proofs.RunsLaws.{runs_opened}
use Rattle.ode_ends.proofs.StatusLaws.{ended_is, engine_answers, engine_no_end}
use Rattle.ode_trace.proofs.TallyLaws.{all_counted}
use Rattle.ode_trace.proofs.run.run_opened.Goals as goal

pub drain-requires-clause-live : goal.drain-requires-clause-live
drain-requires-clause-live g c =
    started_live g.H.Host.view g.K.Keep.holds g.K.Keep.live g.K.Keep.means g.met.K.Keep.stands g.met.K.Keep.stays c.args.opened c.start-engine.result c.start-engine.ensures.live c.start-engine.ensures.rest c.requires.live c.requires.fit c.requires.aligned

pub returns-in-Ok-clause-ran : goal.returns-in-Ok-clause-ran
returns-in-Ok-clause-ran g c w script text told begins is_ending =
    let runs = runs_opened g.H.Host.view g.K.Keep.holds g.K.Keep.live g.K.Keep.means g.met.K.Keep.stands g.met.K.Keep.stays c.args.quiet w script text c.args.opened c.start-engine.result c.drain.new.self c.args.host.now c.drain.new.host
    c.new.result c.settle.new.self c.in-Ok.ran begins c.start-engine.ensures.rest c.start-engine.ensures.output c.in-Ok.ensures.quiet c.new.ensures c.settle.ensures
    c.in-Ok.ensures.answer c.in-Ok.ensures.stands c.in-Ok.ensures.printed c.in-Ok.ensures.counts in
    c.run_pieces-ended.ensures.ran c.args.quiet w (trace ode w script) script text told runs is_ending

pub returns-in-Ok-clause-tallied : goal.returns-in-Ok-clause-tallied
returns-in-Ok-clause-tallied g c w script text told begins is_ending =
    let runs = runs_opened g.H.Host.view g.K.Keep.holds g.K.Keep.live g.K.Keep.means g.met.K.Keep.stands g.met.K.Keep.stays c.args.quiet w script text c.args.opened c.start-engine.result c.drain.new.self c.args.host.now c.drain.new.host
    c.new.result c.settle.new.self c.in-Ok.ran begins c.start-engine.ensures.rest c.start-engine.ensures.output c.in-Ok.ensures.quiet c.new.ensures c.settle.ensures
    c.in-Ok.ensures.answer c.in-Ok.ensures.stands c.in-Ok.ensures.printed c.in-Ok.ensures.counts in
    c.add_bytes.ensures ∙ ap (λ (n : ℕ). with_bytes n c.run_pieces-ended.new.tally) c.counted.ensures
    ∙ all_counted c.run_pieces-ended.new.tally c.run_pieces-ended.new.engine.counted (pieces script) (trace ode w script) (c.run_pieces-ended.ensures.counts c.args.quiet w (trace ode w script) script text told runs is_ending)

pub returns-in-Ok-clause-any_moment : goal.returns-in-Ok-clause-any_moment
returns-in-Ok-clause-any_moment g c w script text told begins =
    let runs = runs_opened g.H.Host.view g.K.Keep.holds g.K.Keep.live g.K.Keep.means g.met.K.Keep.stands g.met.K.Keep.stays c.args.quiet w script text c.args.opened c.start-engine.result c.drain.new.self c.args.host.now c.drain.new.host
    c.new.result c.settle.new.self c.in-Ok.ran begins c.start-engine.ensures.rest c.start-engine.ensures.output c.in-Ok.ensures.quiet c.new.ensures c.settle.ensures
    c.in-Ok.ensures.answer c.in-Ok.ensures.stands c.in-Ok.ensures.printed c.in-Ok.ensures.counts in
    let here = started_stands g.H.Host.view g.K.Keep.holds g.K.Keep.live g.K.Keep.means g.met.K.Keep.stands g.met.K.Keep.stays w c.args.opened c.start-engine.result c.args.host.now c.start-engine.ensures.rest begins.well begins.rests in
    joined _ _ _ (IsAfterSome (HoldsBy ode g.K.Keep.means) (heard_items c.args.quiet (trace ode w script)) w text)
    (opened_leaves c.args.quiet w text script (HoldsBy ode g.K.Keep.means) c.start-engine.result.quiet _ _ c.start-engine.ensures.output.0
    (c.drain.ensures.any_moment (closed w) text (heard_items c.args.quiet (pieces_items ode (pieces script) (opening ode w).0)) here begins.printed))
    (c.run_pieces-ended.ensures.any_moment c.args.quiet w (trace ode w script) script text told runs)

pub returns-in-Ok-clause-answers : goal.returns-in-Ok-clause-answers
returns-in-Ok-clause-answers g c w well rests =
    let here = started_stands g.H.Host.view g.K.Keep.holds g.K.Keep.live g.K.Keep.means g.met.K.Keep.stands g.met.K.Keep.stays w c.args.opened c.start-engine.result c.args.host.now c.start-engine.ensures.rest well rests in
    c.run_pieces-ended.ensures.answers (opening ode w).0 (c.in-Ok.ensures.stands (closed w) here)

pub returns-in-Ok-clause-leaves : goal.returns-in-Ok-clause-leaves
returns-in-Ok-clause-leaves g c = told_behind _ _ _ _ _ (answer_quiet c.in-Ok.ran _ _ c.in-Ok.ensures.leaves) c.run_pieces-ended.ensures.leaves

pub returns-clause-ran : goal.returns-clause-ran
returns-clause-ran g c w script text told begins is_ending = absurd (engine_no_end c.in-Err.error (subst IsEnding (ended_is c.ended_by.result c.in-Err.error c.ended_by.ensures) is_ending))

pub returns-clause-tallied : goal.returns-clause-tallied
returns-clause-tallied g c w script text told begins is_ending = absurd (engine_no_end c.in-Err.error (subst IsEnding (ended_is c.ended_by.result c.in-Err.error c.ended_by.ensures) is_ending))

pub returns-clause-any_moment : goal.returns-clause-any_moment
returns-clause-any_moment g c w script text told begins =
    let here = started_stands g.H.Host.view g.K.Keep.holds g.K.Keep.live g.K.Keep.means g.met.K.Keep.stands g.met.K.Keep.stays w c.args.opened c.start-engine.result c.args.host.now c.start-engine.ensures.rest begins.well begins.rests in
    opened_leaves c.args.quiet w text script (HoldsBy ode g.K.Keep.means) c.start-engine.result.quiet _ _ c.start-engine.ensures.output.0
    (c.drain.ensures.any_moment (closed w) text (heard_items c.args.quiet (pieces_items ode (pieces script) (opening ode w).0)) here begins.printed)

pub returns-clause-answers : goal.returns-clause-answers
returns-clause-answers g c w well rests =
    let here = started_stands g.H.Host.view g.K.Keep.holds g.K.Keep.live g.K.Keep.means g.met.K.Keep.stands g.met.K.Keep.stays w c.args.opened c.start-engine.result c.args.host.now c.start-engine.ensures.rest well rests in
    subst IsRunStatus (sym (ended_is c.ended_by.result c.in-Err.error c.ended_by.ensures))
    (engine_answers ℕ c.in-Err.error (damage_gives {R = ℕ} (Err c.in-Err.error) _ ⊥ (λ none. none (closed w) here) c.in-Err.ensures.undamaged))

pub returns-clause-leaves : goal.returns-clause-leaves
returns-clause-leaves g c = rw (ended_is c.ended_by.result c.in-Err.error c.ended_by.ensures) (error_stated ℕ c.in-Err.error _ _ c.in-Err.ensures.leaves)
