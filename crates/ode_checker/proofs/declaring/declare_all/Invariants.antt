use Rattle.std.proofs.Common.{◌≡◌, drop}
use Rattle.ode_types.specs.Checks.{through}
use Rattle.ode_types.specs.Declaring.{declares}
use Rattle.ode_checker.proofs.declaring.declare_all.Given as goal

abbrev pub invariant-loop-member : goal.invariant-loop-member
invariant-loop-member l = through (declares l.known l.decl) l.initial.draft l.members ≡ through (declares l.known l.decl) l.draft (drop l.member-index l.members)
