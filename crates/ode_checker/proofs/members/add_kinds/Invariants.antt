use Rattle.std.proofs.Common.{◌≡◌, ◌++◌, take}
use Rattle.ode_checker.proofs.members.add_kinds.Given as goal

abbrev pub invariant-loop-kind : goal.invariant-loop-kind
invariant-loop-kind l = l.class ≡ record l.initial.class { kinds = l.initial.class.kinds ++ take l.kind-index l.kinds }
