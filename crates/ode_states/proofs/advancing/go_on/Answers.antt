use Rattle.std.proofs.Common.{arith, ap, set, ◌∙◌}
use Rattle.std.proofs.lemmas.List.{length-set}
use Rattle.ode_states.proofs.MovedLaws.{moved_more}
use Rattle.ode_states.proofs.advancing.go_on.Goals as goal

pub loop-i-preserved : goal.loop-i-preserved
loop-i-preserved c =
    let ys = c.loop-i.acts.items in
    let i = c.loop-i.i in
    record {
      length = length-set ys i c.take_step.new.a ∙ c.loop-i.invariant.length;
      acts = λ f is. ap (set ys i) c.take_step.ensures
          ∙ moved_more f c.args.acts.now.items ys c.args.steps.now i c.index_mut.result.now _ (omega arith) is (c.loop-i.invariant.acts f is) c.index_mut.ensures.value;
    }
