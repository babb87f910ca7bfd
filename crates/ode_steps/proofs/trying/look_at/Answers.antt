use Rattle.std.proofs.Common.{◌∙◌}
use Rattle.std.proofs.lemmas.List.{drop_all}
use Rattle.ode_steps.proofs.TryLaws.{look_done, look_next}
use Rattle.ode_steps.proofs.trying.look_at.Goals as goal

pub loop-id-preserved : goal.loop-id-preserved
loop-id-preserved g c = record {
  looked = look_next c.loop-id.ctx c.look.new.self c.args.ids.now c.loop-id.id-index _ c.loop-id-test.true c.in_ok-look.ensures.ok ∙ c.loop-id.invariant.looked;
  keeper = c.loop-id.invariant.keeper;
  same = c.loop-id.invariant.same;
}

pub returns-clause-looked : goal.returns-clause-looked
returns-clause-looked g c = look_done c.loop-id.ctx _ _ c.loop-id.invariant.looked (drop_all c.loop-id.id-index c.args.ids.now c.loop-id-test.false)
