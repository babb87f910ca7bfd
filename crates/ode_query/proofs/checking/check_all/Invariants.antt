use Rattle.std.proofs.Common.{◌≡◌, drop}
use Rattle.ode_query.proofs.EachLaws.{behind}
use Rattle.ode_query.proofs.checking.check_all.Given as goal
use Rattle.ode_types.specs.Checks.{each}
use Rattle.ode_types.specs.Variables.{shown_checked}

abbrev pub invariant-loop-e : goal.invariant-loop-e
invariant-loop-e l = each (shown_checked l.known l.literals l.variables) l.es ≡ behind l.checked (each (shown_checked l.known l.literals l.variables) (drop l.e-index l.es))
