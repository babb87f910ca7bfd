use Rattle.std.proofs.Common.{arith, ◌∙◌}
use Rattle.ode_records.proofs.Kinding.{all_more, kinds_more}
use Rattle.ode_records.proofs.records.make_room.Goals as goal

pub kinds-preserved : goal.kinds-preserved
kinds-preserved c =
    let before = c.kinds.kinds.items in
    let after = c.push.new.self.items in
    let is = c.in_ok-push.ensures.items in
    record {
      same = all_more before after c.new.result is c.new.ensures ∙ c.kinds.invariant.same;
      kinds = kinds_more before after c.new.result is c.new.ensures c.kinds.invariant.kinds;
      longer = omega (arith, c.kinds.invariant.longer, c.in_ok-push.ensures.lower_bound);
    }
