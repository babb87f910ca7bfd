use Rattle.std.proofs.Common.{arith}
use Rattle.ode_typing.proofs.SlotLaws.{seen_more}
use Rattle.ode_typing.proofs.place.Locals.see.Goals as goal

pub loop-param-preserved : goal.loop-param-preserved
loop-param-preserved c = record {
  seen =
      seen_more c.args.self.now.seen c.push.new.self c.loop-param.self.seen c.in_slots-param-items.result.now c.args.self.now.next c.loop-param.param-index c.loop-param.slot c.in_ok-param.param c.param-item.result
      c.in_ok-push.ensures.ok c.loop-param.invariant.seen c.loop-param.invariant.slot c.in_ok-param.ensures c.param-item.is c.loop-param-test.true;
  next = c.loop-param.invariant.next;
  slot = omega arith;
}
