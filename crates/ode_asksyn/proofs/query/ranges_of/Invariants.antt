use Rattle.std.proofs.Common.{◌≡◌, map, take}
use Rattle.ode_asksyn.specs.Parsing.{range_of}
use Rattle.ode_asksyn.proofs.query.ranges_of.Given as goal

abbrev pub invariant-loop-param : goal.invariant-loop-param
invariant-loop-param l = l.ranges ≡ map range_of (take l.param-index l.over)
