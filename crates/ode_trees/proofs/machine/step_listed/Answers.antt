use Rattle.std.proofs.Common.{arith}
use Rattle.ode_trees.proofs.ListMachineLaws.{leaf_count-leaves, mask_count-masks}
use Rattle.ode_trees.proofs.machine.step_listed.Goals as goal

pub start-requires : goal.start-requires
start-requires c = omega (arith, leaf_count-leaves c.args.e.now, c.requires.whole)

pub step_at-requires-clause-leaf : goal.step_at-requires-clause-leaf
step_at-requires-clause-leaf c = omega (arith, leaf_count-leaves c.args.e.now, c.requires.whole, c.start.ensures.leaf)

pub step_at-requires-clause-mask : goal.step_at-requires-clause-mask
step_at-requires-clause-mask c = omega (arith, leaf_count-leaves c.args.e.now, mask_count-masks c.args.e.now, c.requires.whole, c.start.ensures.mask)
