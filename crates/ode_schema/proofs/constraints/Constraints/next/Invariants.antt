use Rattle.std.proofs.Common.{◌≡◌, cond, length}
use Rattle.std.specs.Prelude.{not}
use Rattle.std.specs.List.{filter}
use Rattle.ode_value.specs.declared.member.Constraint.{Constraint}
use Rattle.ode_schema.proofs.constraints.Constraints.next.Given as goal

abbrev pub invariant-loop-constraint : goal.invariant-loop-constraint
invariant-loop-constraint l = l.fn.self ≡ filter (λ (c : Constraint). cond c.soft l.self-inside.soft (not l.self-inside.soft)) l.self-inside.every

abbrev pub decreases-loop-constraint : goal.decreases-loop-constraint
decreases-loop-constraint l = length l.self-inside.every
