use Rattle.std.proofs.Common.{◌≡◌, ◌++◌, length, map}
use Rattle.std.specs.List.{filter, flat_map}
use Rattle.ode_value.specs.Classes.{Trigger, own_triggers}
use Rattle.ode_schema.specs.Parts.{named_by_place}
use Rattle.ode_schema.proofs.triggers.initial_of.Given as goal

abbrev pub invariant-loop-class : goal.invariant-loop-class
invariant-loop-class l =
    l.found ++ map named_by_place (filter (λ (t : Trigger). t.decl.initial) (flat_map own_triggers l.family))
    ≡ map named_by_place (filter (λ (t : Trigger). t.decl.initial) (flat_map own_triggers l.initial.family))

abbrev pub decreases-loop-class : goal.decreases-loop-class
decreases-loop-class l = length l.family
