use Rattle.std.proofs.Common.{◌≡◌, ◌++◌, length}
use Rattle.std.specs.List.{flat_map}
use Rattle.ode_value.specs.declared.class.Class.{Class}
use Rattle.ode_schema.proofs.constraints.Every.next.Given as goal

abbrev pub invariant-empty : goal.invariant-empty
invariant-empty l = l.fn.self ≡ l.self-inside.own.now ++ flat_map (λ (c : Class). c.constraints) l.self-inside.family

abbrev pub decreases-empty : goal.decreases-empty
decreases-empty l = length l.self-inside.family
