use Rattle.std.proofs.Common.{◌≡◌, drop}
use Rattle.ode_types.specs.Checks.{through}
use Rattle.ode_types.specs.Variables.{with_variable}
use Rattle.ode_checker.proofs.variables.add_variables.Given as goal

abbrev pub invariant-loop-range : goal.invariant-loop-range
invariant-loop-range l = through (with_variable l.known) l.initial.variables l.over ≡ through (with_variable l.known) l.variables (drop l.range-index l.over)
