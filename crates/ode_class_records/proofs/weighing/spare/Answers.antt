use Rattle.std.proofs.Common.{sym, arith}
use Rattle.ode_class_records.proofs.Weighed.{spare_more, spare_none, spare_past}
use Rattle.ode_class_records.proofs.weighing.spare.Goals as goal
use Rattle.ode_class_records.proofs.weighing.spare.Goals.{else-place-counts, then-place-counts}

pub loop-place-init : goal.loop-place-init
loop-place-init c = record { spare = sym (spare_none c.args.counts.now); small = omega arith }

pub loop-place-preserved : goal.loop-place-preserved
loop-place-preserved c =
    let more = spare_more c.args.counts.now c.args.stored.now c.loop-place.place c.index-stored-place.result c.loop-place-test.true c.index-stored-place.is in
    let past = spare_past c.args.counts.now c.args.stored.now c.loop-place.place c.index-stored-place.result c.loop-place-test.true c.index-stored-place.is in
    elim c.if-place-counts.branch [
      | then-place-counts w ↦ record {
        spare =
            let one = more w.if-place-counts.true in
            cc (w.spare-is, w.saturating_sub-spare.ensures, w.weight_of.ensures.weight, w.weight_of-own.ensures.weight, w.states.ensures.value, w.symbols.ensures, w.symbols-then-place-counts.ensures, one, c.loop-place.invariant.spare);
        small =
            omega (arith, w.spare-is, w.saturating_sub-spare.ensures, w.weight_of.ensures.small, w.weight_of-own.ensures.small, c.loop-place.invariant.small, w.if-place-counts.true);
      }
      | else-place-counts w ↦ record {
        spare = let one = past w.if-place-counts.false in cc (w.spare-is, one, c.loop-place.invariant.spare);
        small = omega (arith, w.spare-is, c.loop-place.invariant.small, w.if-place-counts.false);
      }
    ]
