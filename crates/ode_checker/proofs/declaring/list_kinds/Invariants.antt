use Rattle.std.proofs.Common.{◌≡◌, drop}
use Rattle.ode_types.specs.Checks.{through}
use Rattle.ode_types.specs.Declaring.{lists}
use Rattle.ode_checker.proofs.declaring.list_kinds.Given as goal

abbrev pub invariant-loop-kind : goal.invariant-loop-kind
invariant-loop-kind l = through (lists l.known l.decl) l.initial.draft l.kinds ≡ through (lists l.known l.decl) l.draft (drop l.kind-index l.kinds)
