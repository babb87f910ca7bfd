use Rattle.std.proofs.Common.{◌≡◌, ap, sym, subst, ◌∙◌, List, ℕ}
use Rattle.std.specs.List.{All}
use Rattle.ode_interpreter.specs.Seen.{Ends}
use Rattle.ode_laws.specs.Alike.{NumberTx}
use Rattle.ode_run.proofs.ConstraintLaws.{calm_left}
use Rattle.ode_run.proofs.LookLaws.{soft_behind}
use Rattle.ode_run.proofs.MakeLaws.{classes_now}
use Rattle.ode_run.proofs.ObjectLaws.{touched_at_hand}
use Rattle.ode_run.proofs.work.Work.test_soft.Goals as goal
use Rattle.ode_run.specs.Knowing.{beside, tx}
use Rattle.ode_run.specs.Testing.{current_at}
use Rattle.ode_states.specs.Machine.{checked}
use Rattle.ode_value.specs.Acts.{each}
use Rattle.ode_value.specs.Completing.{tests_touched}
use Rattle.ode_value.specs.Denoting.{object_at}
use Rattle.ode_value.specs.Transactions.{looking}

pub returns-clause-acts : goal.returns-clause-acts
returns-clause-acts g c = λ all k fits same holds.
    let y = tx all k c.args.self.now in
    let w = c.look_all.new.self in
    let z = tx all k w in
    let looked = c.in_ok-look_all.ensures.acts all k (c.classes.ensures ∙ same) holds in
    let now = c.in_ok-look_all.ensures.kept k (c.classes.ensures ∙ same) holds in
    let b = beside k.first w.deferred.now w.text.now w.budget.now in
    let stands = c.overlays_have_views.ensures.stands all k.first w.overlay.now b now.known.viewed.over in
    let seen : looking c.as_slice.result.now y ≡ z = cc looked in
    let first : c.as_slice.result.now ≡ y.touched = c.as_slice.ensures ∙ c.in_ok-ids.ensures in
    let touched : c.as_slice.result.now ≡ w.overlay.now.touched = first ∙ ap (λ (q : NumberTx). q.touched) seen in
    let same_ids : c.as_slice-2.result.now ≡ c.as_slice.result.now = c.as_slice-2.ensures ∙ sym c.as_slice.ensures in
    soft_behind c.as_slice.result.now y z z c.test_each.result first looked
    (subst (λ (ts : List ℕ). Ends c.test_each.result z (each tests_touched ts z)) same_ids
    (c.test_each.ensures.tests z (ap checked (classes_now all k.first w.overlay.now b) ∙ fits)
    (subst (All (λ id. object_at z.now.bones id ≡ current_at id w.overlay.now)) (sym (same_ids ∙ touched)) (touched_at_hand w.overlay.now z stands now.known.keys))))

pub returns-clause-kept : goal.returns-clause-kept
returns-clause-kept g c = λ k same holds. calm_left c.test_each.result _ _ c.test_each.ensures.calm (c.in_ok-look_all.ensures.kept k (c.classes.ensures ∙ same) holds)

pub returns-clause-faults : goal.returns-clause-faults
returns-clause-faults g c = λ began serves. calm_left c.test_each.result _ _ c.test_each.ensures.calm (c.in_ok-look_all.ensures.faults began serves)

pub returns-clause-lent : goal.returns-clause-lent
returns-clause-lent g c = λ k lent. c.look_all.ensures.lent k lent
