use Rattle.std.proofs.Common.{◌≡◌, length}
use Rattle.ode_types.specs.Families.{constraint_named}
use Rattle.ode_types.proofs.families.constraint_above.Given as goal

abbrev pub invariant-loop-class : goal.invariant-loop-class
invariant-loop-class l = constraint_named l.initial.line l.name ≡ constraint_named l.line l.name

abbrev pub decreases-loop-class : goal.decreases-loop-class
decreases-loop-class l = length l.line
