use Rattle.std.proofs.Common.{◌∙◌, Err, Ok, [], ap, inl, subst, sym}
use Rattle.ode_engine.specs.declared.engine.Done.{Done}
use Rattle.ode_host.proofs.Calls.{host_calls_as}
use Rattle.ode_language.specs.Languages.{ode}
use Rattle.ode_machine.specs.Commands.{finish}
use Rattle.ode_machine.specs.Runs.{status_at}
use Rattle.ode_script.specs.Cutting.{End}
use Rattle.ode_transact.specs.Resting.{HoldsBy}
use Rattle.ode_transact.specs.declared.output.Output.{Output}
use Rattle.ode_ends.specs.Statuses.{IsEnding, IsRunStatus}
use Rattle.ode_ends.proofs.CallLaws.{answer_quiet, damage_gives, error_stated}
use Rattle.ode_ends.proofs.ItemLaws.{no_more}
use Rattle.ode_trace.proofs.EngineLaws.{finished_ends, settled_many}
use Rattle.ode_trace.proofs.HearingLaws.{moments_heard, printed_heard}
use Rattle.ode_ends.proofs.StatusLaws.{end_no_disk, end_no_print, end_no_read, end_runs, ended_is, engine_answers, engine_no_end}
use Rattle.ode_trace.proofs.TallyLaws.{more_settled}
use Rattle.ode_trace.proofs.run.end_script.Goals as goal

pub returns-in-Ok-clause-ends : goal.returns-in-Ok-clause-ends
returns-in-Ok-clause-ends g c session text serves is_ending =
    finished_ends g.H.Host.view g.K.Keep.holds g.K.Keep.live g.K.Keep.means g.met.K.Keep.stands g.met.K.Keep.stays session text c.args.engine.now.quiet c.finish.new.self c.finish.new.host
    (c.in-Ok.ensures.stands session serves.stands)
    (printed_heard {R = Unit {0}} (Ok tt) c.args.engine.now.quiet (finish session).1 (g.H.Host.view c.args.host.now) (g.H.Host.view c.finish.new.host) (c.in-Ok.ensures.printed session serves.stands) text serves.printed)

pub returns-in-Ok-clause-counts : goal.returns-in-Ok-clause-counts
returns-in-Ok-clause-counts g c session stands is_ending =
    more_settled c.args.tally.now c.settle.new.self c.args.engine.now.counted c.finish.new.self.counted c.settled_in.result (finish session).1
    c.settle.ensures (c.settled_in.ensures ∙ settled_many c.in-Ok.done (finish session) (c.in-Ok.ensures.answer session stands)) (ap (λ (o : Output). o.counted) (c.in-Ok.ensures.counts session stands))

pub returns-in-Ok-clause-any_moment : goal.returns-in-Ok-clause-any_moment
returns-in-Ok-clause-any_moment g c session text serves =
    no_more (HoldsBy ode g.K.Keep.means) _ session.world text _ _
    (moments_heard (HoldsBy ode g.K.Keep.means) c.args.engine.now.quiet (finish session).1 [] session.world text _ _ (c.finish.ensures.any_moment session text [] serves.stands serves.printed))

pub returns-in-Ok-clause-stated : goal.returns-in-Ok-clause-stated
returns-in-Ok-clause-stated g c is_ending = c.status_at_end.ensures ∙ ap (status_at End) c.was_refused.ensures

pub returns-in-Ok-clause-statuses : goal.returns-in-Ok-clause-statuses
returns-in-Ok-clause-statuses g c = inl (subst IsRunStatus (sym c.status_at_end.ensures) (end_runs c.was_refused.result))

pub returns-in-Ok-clause-answers : goal.returns-in-Ok-clause-answers
returns-in-Ok-clause-answers g c session stands = subst IsRunStatus (sym c.status_at_end.ensures) (end_runs c.was_refused.result)

pub returns-in-Ok-clause-leaves : goal.returns-in-Ok-clause-leaves
returns-in-Ok-clause-leaves g c =
    host_calls_as ⊥ ⊥ _ _ _ _ absurd (λ is. end_no_disk c.was_refused.result (sym c.status_at_end.ensures ∙ is)) absurd (λ is. end_no_print c.was_refused.result (sym c.status_at_end.ensures ∙ is)) (answer_quiet c.in-Ok.done _ _ c.in-Ok.ensures.leaves)

pub returns-in-Ok-clause-reads : goal.returns-in-Ok-clause-reads
returns-in-Ok-clause-reads g c is = end_no_read c.was_refused.result (sym c.status_at_end.ensures ∙ is)

pub returns-in-Err-clause-counts : goal.returns-in-Err-clause-counts
returns-in-Err-clause-counts g c session stands is_ending = absurd (engine_no_end c.in-Err.error (subst IsEnding (ended_is c.ended_by.result c.in-Err.error c.ended_by.ensures) is_ending))

pub returns-in-Err-clause-stated : goal.returns-in-Err-clause-stated
returns-in-Err-clause-stated g c is_ending = absurd (engine_no_end c.in-Err.error (subst IsEnding (ended_is c.ended_by.result c.in-Err.error c.ended_by.ensures) is_ending))

pub returns-in-Err-clause-any_moment : goal.returns-in-Err-clause-any_moment
returns-in-Err-clause-any_moment g c session text serves =
    no_more (HoldsBy ode g.K.Keep.means) _ session.world text _ _
    (moments_heard (HoldsBy ode g.K.Keep.means) c.args.engine.now.quiet (finish session).1 [] session.world text _ _ (c.finish.ensures.any_moment session text [] serves.stands serves.printed))

pub returns-in-Err-clause-answers : goal.returns-in-Err-clause-answers
returns-in-Err-clause-answers g c session stands =
    subst IsRunStatus (sym (ended_is c.ended_by.result c.in-Err.error c.ended_by.ensures))
    (engine_answers Done c.in-Err.error (damage_gives {R = Done} (Err c.in-Err.error) _ ⊥ (λ none. none session stands) c.in-Err.ensures.undamaged))

pub returns-in-Err-clause-leaves : goal.returns-in-Err-clause-leaves
returns-in-Err-clause-leaves g c = rw (ended_is c.ended_by.result c.in-Err.error c.ended_by.ensures) (error_stated Done c.in-Err.error _ _ c.in-Err.ensures.leaves)
