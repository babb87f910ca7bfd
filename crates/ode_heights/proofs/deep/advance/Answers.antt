use Rattle.std.proofs.Common.{◌≤◌, sym, ◌∙◌, ap, subst, le_trans}
use Rattle.ode_heights.specs.declared.height.TheConstants.{HEIGHT_LIMIT}
use Rattle.ode_heights.specs.declared.height.Heights.{Heights}
use Rattle.ode_heights.specs.Heights.{highest, raised}
use Rattle.ode_heights.specs.Lowest.{lowest}
use Rattle.ode_heights.proofs.Depths.{left_step}
use Rattle.ode_heights.proofs.Lowest.{level_row, lowest_highest}
use Rattle.ode_heights.proofs.deep.advance.Goals as goal

pub raise-requires : goal.raise-requires
raise-requires c =
    le_trans (lowest_highest c.loop-item.items c.loop-item.made) (subst (λ (h : Heights). highest h ≤ HEIGHT_LIMIT) (sym c.loop-item.invariant.low) c.requires)

pub raise-requires-in-Some-skipped : goal.raise-requires-in-Some-skipped
raise-requires-in-Some-skipped c =
    le_trans (lowest_highest c.loop-item.items c.loop-item.made) (subst (λ (h : Heights). highest h ≤ HEIGHT_LIMIT) (sym c.loop-item.invariant.low) c.requires)

pub loop-item-preserved : goal.loop-item-preserved
loop-item-preserved c =
    let e = c.in_ok-raise-in-Some-skipped.ensures ∙ ap (λ x. raised x c.loop-item.made) c.effect_of-in-Some-skipped.ensures in
    let s = left_step c.pop.new.self c.loop-item.items c.in-Some.item c.in-Part.part c.in-Some-skipped.action c.loop-item.made c.raise-in-Some-skipped.new.self c.args.token
    c.in-Some.ensures.some c.in-Part.is c.in-None.ensures.none (sym c.skipped.ensures ∙ c.in-Some-skipped.is) e in
    record {
      next = s.next_same ∙ c.loop-item.invariant.next;
      made = s.made_same ∙ c.loop-item.invariant.made;
      low = s.low_same ∙ c.loop-item.invariant.low;
    }

pub returns-then-is_least-clause-same : goal.returns-then-is_least-clause-same
returns-then-is_least-clause-same c = λ _.
    ap (λ is. lowest is c.loop-item.made) c.in_ok-push_all-in-Some-after.ensures
    ∙ (level_row c.pop.new.self c.loop-item.items c.in-Some-after.row.now c.in-Some.item c.in-Part.part c.loop-item.made
    c.in-Some.ensures.some c.in-Part.is (c.is_least.ensures c.if-is_least.true) ∙ c.loop-item.invariant.low)
