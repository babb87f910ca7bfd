use Rattle.std.proofs.Common.{◌+◌, ◌∙◌, ap, arith}
use Rattle.ode_change.proofs.Gathers.{count_done, count_next, places_done, places_next}
use Rattle.ode_change.proofs.anew.places_of.Goals as goal

pub loop-class-preserved : goal.loop-class-preserved
loop-class-preserved c =
    let classes = c.args.classes.now in
    let i = c.loop-class.class-index in
    let class = c.class-item.result in
    let at = c.loop-class.place in
    record {
      maps = places_next c.loop-class.maps c.push.new.self at classes i class c.loop-class-test.true c.class-item.is c.loop-class.invariant.maps c.loop-class.invariant.count c.in_ok-push.ensures.ok;
      count = count_next at c.in_ok-place.place classes i class c.loop-class-test.true c.class-item.is c.loop-class.invariant.count (c.in_ok-place.ensures.is ∙ ap (λ n. at + n) c.len.ensures);
      few = c.in_ok-place.ensures.few;
    }

pub returns-clause-is : goal.returns-clause-is
returns-clause-is c = places_done c.loop-class.maps c.args.classes.now c.loop-class.class-index (omega (arith, c.loop-class-test.false)) c.loop-class.invariant.maps

pub returns-clause-few : goal.returns-clause-few
returns-clause-few c = count_done c.loop-class.place c.args.classes.now c.loop-class.class-index (omega (arith, c.loop-class-test.false)) c.loop-class.invariant.count c.loop-class.invariant.few
