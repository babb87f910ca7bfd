use Rattle.std.proofs.Common.{◌<◌, ◌+◌, drop, get_or, arith, sym, ◌∙◌, subst}
use Rattle.ode_heights.specs.declared.effect.Effect.TheVariants.{Leaf}
use Rattle.ode_heights.specs.declared.height.TheConstants.{HEIGHT_LIMIT}
use Rattle.ode_heights.specs.declared.height.Heights.{Heights}
use Rattle.ode_heights.specs.Heights.{highest}
use Rattle.ode_heights.proofs.Lowest.{raise_step, still_within, too_high}
use Rattle.ode_heights.proofs.least.raise_all.Goals as goal

pub returns-then-not-tops_fit-clause-high : goal.returns-then-not-tops_fit-clause-high
returns-then-not-tops_fit-clause-high c = λ _.
    let s = raise_step c.args.effects.now c.loop-effect.effect-index Leaf c.loop-effect.heights c.raise.new.self _ (omega arith) c.in_ok-raise.ensures c.loop-effect.invariant.same in
    subst (λ (h : Heights). HEIGHT_LIMIT < highest h) s (too_high (drop (c.loop-effect.effect-index + 1) c.args.effects.now) c.raise.new.self (sym c.tops_fit.ensures ∙ c.if-not-tops_fit.true))

pub loop-effect-preserved : goal.loop-effect-preserved
loop-effect-preserved c = record {
  same = raise_step c.args.effects.now c.loop-effect.effect-index Leaf c.loop-effect.heights c.raise.new.self _ (omega arith) c.in_ok-raise.ensures c.loop-effect.invariant.same;
  within = still_within (get_or c.args.effects.now c.loop-effect.effect-index Leaf) c.loop-effect.heights c.raise.new.self c.in_ok-raise.ensures c.loop-effect.invariant.within
      (sym c.tops_fit.ensures ∙ c.if-not-tops_fit.false);
}
