use Rattle.std.proofs.Common.{◌≡◌, ◌++◌, length, drop, reverse, ◌≤◌}
use Rattle.ode_grammar.proofs.stack.Stack.push_all.Given as goal

-- what stands from here on is pushed
abbrev pub invariant-loop-left : goal.invariant-loop-left
invariant-loop-left g l = record {
  within : l.left ≤ length l.items;
  pushed : reverse l.self-inside.items.items ≡ drop l.left l.items ++ l.fn.self;
}

abbrev pub decreases-loop-left : goal.decreases-loop-left
decreases-loop-left g l = l.left
