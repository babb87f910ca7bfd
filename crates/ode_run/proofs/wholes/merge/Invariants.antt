use Rattle.std.proofs.Common.{◌≡◌, ◌++◌, drop, length, take}
use Rattle.ode_point_laws.specs.Points.{sees_whole}
use Rattle.ode_run.proofs.wholes.merge.Given as goal
use Rattle.ode_run.specs.Wholes.{merged}

-- those so far, and what becomes of those that are left
abbrev pub invariant-loop-i : goal.invariant-loop-i
invariant-loop-i l = record {
  length : length l.items.items ≡ length l.initial.items.items;
  rest : take l.i l.items.items ++ merged (sees_whole l.program.classes) (drop l.i l.items.items) (drop l.at l.wholes) ≡ merged (sees_whole l.program.classes) l.initial.items.items l.wholes;
}
