use Rattle.std.proofs.Common.{◌≡◌, length}
use Rattle.std.specs.List.{find, flat_map}
use Rattle.std.specs.Option.{option_map}
use Rattle.std.specs.Str.{bytes_eq}
use Rattle.ode_value.specs.Classes.{Trigger, own_triggers}
use Rattle.ode_schema.specs.Parts.{named_by_place}
use Rattle.ode_schema.proofs.triggers.named_of.Given as goal

abbrev pub invariant-loop-class : goal.invariant-loop-class
invariant-loop-class l =
    option_map named_by_place (find (λ (t : Trigger). bytes_eq t.decl.name l.name) (flat_map own_triggers l.initial.family))
    ≡ option_map named_by_place (find (λ (t : Trigger). bytes_eq t.decl.name l.name) (flat_map own_triggers l.family))

abbrev pub decreases-loop-class : goal.decreases-loop-class
decreases-loop-class l = length l.family
