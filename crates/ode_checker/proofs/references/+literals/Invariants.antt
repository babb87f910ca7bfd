use Rattle.std.proofs.Common.{◌≡◌, ◌++◌, take}
use Rattle.std.specs.List.{flat_map}
use Rattle.ode_types.specs.Literals.{literals}
use Rattle.ode_checker.proofs.references.+literals.Given as goal

abbrev pub invariant-add_of_body-loop-s : goal.invariant-add_of_body-loop-s
invariant-add_of_body-loop-s l = l.refs ≡ l.initial.refs ++ flat_map literals (take l.s-index l.body)
