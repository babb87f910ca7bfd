use Rattle.std.proofs.Common.{◌<◌, arith}
use Rattle.ode_minimal.specs.Marking.{pair_at}
use Rattle.ode_minimal.proofs.MarkLaws.{grows-trans, lists_apart, lists_marked}
use Rattle.ode_minimal.proofs.marking.step_back.Goals as goal

pub mark_each-requires-clause-apart : goal.mark_each-requires-clause-apart
mark_each-requires-clause-apart c =
    let t = c.args.t.now in
    let pair = pair_at c.args.marks.now.pairs c.args.head in
    let below : c.loop-s.s < t.symbols = omega (arith, c.loop-s-test.true, c.symbols-s-end.ensures) in
    let is_p = rw c.as_slice.ensures at c.sources_at-to_p.ensures in
    let is_q = rw c.as_slice.ensures at c.sources_at-to_q.ensures in
    lists_apart t c.args.sources.now.items pair c.loop-s.s c.requires.sources below c.sources_at-to_p.result.now c.sources_at-to_q.result.now is_p is_q (c.requires.marking.apart c.args.head c.requires.head)

pub loop-s-preserved : goal.loop-s-preserved
loop-s-preserved c =
    let t = c.args.t.now in
    let pair = pair_at c.args.marks.now.pairs c.args.head in
    let below : c.loop-s.s < t.symbols = omega (arith, c.loop-s-test.true, c.symbols-s-end.ensures) in
    let is_p = rw c.as_slice.ensures at c.sources_at-to_p.ensures in
    let is_q = rw c.as_slice.ensures at c.sources_at-to_q.ensures in
    let said = c.in_ok-mark_each.ensures in
    record {
      marking = said.marking;
      grows = grows-trans c.args.marks.now c.loop-s.marks c.mark_each.new.marks c.loop-s.invariant.grows said.grows;
      marked =
          lists_marked t c.args.sources.now.items pair c.loop-s.s c.requires.sources below c.sources_at-to_p.result.now c.sources_at-to_q.result.now is_p is_q
          c.loop-s.marks c.mark_each.new.marks said.grows c.loop-s.invariant.marked said.marked;
    }
