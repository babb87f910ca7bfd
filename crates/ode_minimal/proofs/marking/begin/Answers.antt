use Rattle.ode_minimal.proofs.MarkLaws.{unequal_more}
use Rattle.ode_minimal.proofs.marking.begin.Goals as goal

pub loop-p-preserved : goal.loop-p-preserved
loop-p-preserved c = record {
  marking = c.in_ok-mark_unequal.ensures.marking;
  marked = unequal_more c.args.t.now c.loop-p.marks c.mark_unequal.new.marks c.loop-p.p c.in_ok-mark_unequal.ensures.grows c.loop-p.invariant.marked c.in_ok-mark_unequal.ensures.marked;
}
