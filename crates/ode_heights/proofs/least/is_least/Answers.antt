use Rattle.std.proofs.Common.{arith}
use Rattle.ode_grammar.specs.declared.item.Item.TheVariants.{Token}
use Rattle.ode_grammar.specs.declared.terminal.Terminal.TheVariants.{Leaf}
use Rattle.ode_heights.proofs.Lowest.{least_step}
use Rattle.ode_heights.proofs.least.is_least.Goals as goal

pub loop-item-preserved : goal.loop-item-preserved
loop-item-preserved c = λ f.
    c.loop-item.invariant (least_step c.args.row.now c.loop-item.item-index (Token Leaf) c.loop-item.effects.now c.in-Some.rest.now (omega arith) c.in-Some.ensures f)
