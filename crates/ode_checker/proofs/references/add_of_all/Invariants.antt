use Rattle.std.proofs.Common.{◌≡◌, ◌++◌, take}
use Rattle.ode_types.specs.Literals.{all_refs}
use Rattle.ode_checker.proofs.references.add_of_all.Given as goal

abbrev pub invariant-loop-e : goal.invariant-loop-e
invariant-loop-e l = l.refs ≡ l.initial.refs ++ all_refs (take l.e-index l.es)
