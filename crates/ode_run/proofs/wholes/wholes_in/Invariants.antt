use Rattle.std.proofs.Common.{◌≡◌, take}
use Rattle.std.specs.List.{filter}
use Rattle.ode_point_laws.specs.Points.{sees_whole}
use Rattle.ode_run.proofs.wholes.wholes_in.Given as goal

-- those so far
abbrev pub invariant-loop-a : goal.invariant-loop-a
invariant-loop-a l = l.wholes ≡ filter (sees_whole l.program.classes) (take l.a-index l.there)
