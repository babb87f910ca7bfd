use Rattle.std.proofs.Common.{◌≡◌, ◌++◌, ◌∙◌, ℕ, Err, List, Some, [], inl, subst, sym}
use Rattle.ode_host.proofs.Calls.{host_calls_as}
use Rattle.ode_language.specs.Languages.{ode}
use Rattle.ode_machine.specs.Interleaving.{finish}
use Rattle.ode_sessions.proofs.SessionLaws.{finished_ends}
use Rattle.ode_ends.proofs.CallLaws.{answer_quiet, damage_gives, error_stated}
use Rattle.ode_ends.proofs.ItemLaws.{no_more, texts_are}
use Rattle.ode_ends.proofs.StatusLaws.{end_no_disk, end_no_print, end_no_read, end_runs, ended_is, engine_answers, engine_no_end}
use Rattle.ode_ends.specs.Statuses.{IsEnding, IsRunStatus}
use Rattle.ode_transact.specs.Items.{items_of}
use Rattle.ode_transact.specs.Resting.{HoldsBy}
use Rattle.ode_sessions.proofs.run.end_script.Goals as goal

pub returns-in-Ok-clause-ends : goal.returns-in-Ok-clause-ends
returns-in-Ok-clause-ends g c m text speaks is_ending =
    finished_ends g.H.Host.view g.K.Keep.holds g.K.Keep.live g.K.Keep.means g.met.K.Keep.stands g.met.K.Keep.stays m text c.finish.new.self c.finish.new.host (c.in-Ok.ensures.stands m speaks.stands)
    (subst (λ (t : List ℕ). (g.H.Host.view c.finish.new.host).text ≡ Some (text ++ t)) (texts_are (finish m)) (c.in-Ok.ensures.printed m speaks.stands text speaks.printed))

pub returns-in-Ok-clause-any_moment : goal.returns-in-Ok-clause-any_moment
returns-in-Ok-clause-any_moment g c m text speaks =
    no_more (HoldsBy ode g.K.Keep.means) (items_of (finish m)) m.world text _ _ (c.finish.ensures.any_moment m text [] speaks.stands speaks.printed)

pub returns-in-Ok-clause-stated : goal.returns-in-Ok-clause-stated
returns-in-Ok-clause-stated g c is_ending = c.status_at_end.ensures

pub returns-in-Ok-clause-statuses : goal.returns-in-Ok-clause-statuses
returns-in-Ok-clause-statuses g c = inl (subst IsRunStatus (sym c.status_at_end.ensures) (end_runs c.args.refused))

pub returns-in-Ok-clause-answers : goal.returns-in-Ok-clause-answers
returns-in-Ok-clause-answers g c m stands = subst IsRunStatus (sym c.status_at_end.ensures) (end_runs c.args.refused)

pub returns-in-Ok-clause-leaves : goal.returns-in-Ok-clause-leaves
returns-in-Ok-clause-leaves g c =
    host_calls_as ⊥ ⊥ _ _ _ _ absurd (λ is. end_no_disk c.args.refused (sym c.status_at_end.ensures ∙ is)) absurd (λ is. end_no_print c.args.refused (sym c.status_at_end.ensures ∙ is)) (answer_quiet c.in-Ok.field-0 _ _ c.in-Ok.ensures.leaves)

pub returns-in-Ok-clause-reads : goal.returns-in-Ok-clause-reads
returns-in-Ok-clause-reads g c is = end_no_read c.args.refused (sym c.status_at_end.ensures ∙ is)

pub returns-in-Err-clause-any_moment : goal.returns-in-Err-clause-any_moment
returns-in-Err-clause-any_moment g c m text speaks =
    no_more (HoldsBy ode g.K.Keep.means) (items_of (finish m)) m.world text _ _ (c.finish.ensures.any_moment m text [] speaks.stands speaks.printed)

pub returns-in-Err-clause-stated : goal.returns-in-Err-clause-stated
returns-in-Err-clause-stated g c is_ending = absurd (engine_no_end c.in-Err.error (subst IsEnding (ended_is c.ended_by.result c.in-Err.error c.ended_by.ensures) is_ending))

pub returns-in-Err-clause-answers : goal.returns-in-Err-clause-answers
returns-in-Err-clause-answers g c m stands =
    subst IsRunStatus (sym (ended_is c.ended_by.result c.in-Err.error c.ended_by.ensures))
    (engine_answers ℕ c.in-Err.error (damage_gives {R = ℕ} (Err c.in-Err.error) _ ⊥ (λ none. none m stands) c.in-Err.ensures.undamaged))

pub returns-in-Err-clause-leaves : goal.returns-in-Err-clause-leaves
returns-in-Err-clause-leaves g c = rw (ended_is c.ended_by.result c.in-Err.error c.ended_by.ensures) (error_stated ℕ c.in-Err.error _ _ c.in-Err.ensures.leaves)
