use Rattle.std.proofs.Common.{rules, ◌≡◌, true}
use Rattle.std.specs.Prelude.{pos}
use Rattle.ode_run.proofs.OffLaws.{off_by_value, went_off}
use Rattle.ode_run.proofs.work.Work.deactivate.Goals as goal
use Rattle.ode_run.specs.Knowing.{beside}
use Rattle.ode_value.specs.Acts.{Done, reads}
use Rattle.ode_value.specs.Changes.{is_live}
use Rattle.ode_value.specs.declared.value.Value.TheVariants as value
use Rattle.ode_view_laws.specs.Viewing.{running}

pub returns-in-Some-clause-acts : goal.returns-in-Some-clause-acts
returns-in-Some-clause-acts g c = λ all k tables same holds.
    let y = running all k.first c.args.self.now.overlay.now (beside k.first c.args.self.now.deferred.now c.args.self.now.text.now c.args.self.now.budget.now) in
    let now = running all k.first c.is_live.new.self.overlay.now (beside k.first c.is_live.new.self.deferred.now c.is_live.new.self.text.now c.is_live.new.self.budget.now) in
    let live : reads (is_live c.args.of.object) y ≡ Done true now = search rules in
    let is : c.args.number.now ≡ value.Int (pos c.in-Some.number) = search rules in
    off_by_value tables c.args.of c.args.number.now (value.Int (pos c.in-Some.number)) y _ c.deactivate_live.result is
    (went_off tables c.args.of (value.Int (pos c.in-Some.number)) y now _ c.deactivate_live.result live (c.deactivate_live.ensures.acts all k tables same (c.in_ok-is_live.ensures.kept k same holds)))

pub returns-in-Some-clause-lent : goal.returns-in-Some-clause-lent
returns-in-Some-clause-lent g c = λ k lent. c.deactivate_live.ensures.lent k (c.is_live.ensures.lent k lent)
