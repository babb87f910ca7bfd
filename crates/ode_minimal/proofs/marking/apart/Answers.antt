use Rattle.std.proofs.Common.{◌+◌, ◌*◌, ◌<◌, length, arith}
use Rattle.ode_minimal.proofs.MarkLaws.{decided, sources_more}
use Rattle.ode_minimal.proofs.marking.apart.Goals as goal

pub loop-head-preserved : goal.loop-head-preserved
loop-head-preserved c =
    let t = c.args.t.now in
    let said = c.in_ok-step_back.ensures in
    let within : c.loop-head.head < length c.loop-head.marks.pairs = omega (arith, c.loop-head-test.true, c.len.ensures) in
    record {
      marking = said.marking;
      unequal = λ p low q below differs. said.grows.marked (p * t.states + q) (c.loop-head.invariant.unequal p low q below differs);
      within = omega (arith, within, said.grows.longer);
      sources = sources_more t c.loop-head.marks c.step_back.new.marks c.loop-head.head within said.grows c.loop-head.invariant.sources said.marked;
    }

pub returns : goal.returns
returns c =
    decided c.args.t.now c.in_ok-sources.sources.items c.loop-head.marks c.in_ok-sources.ensures c.loop-head.invariant.marking c.loop-head.invariant.unequal
    (λ k within. c.loop-head.invariant.sources k (omega (arith, within, c.loop-head-test.false, c.len.ensures)))
