use Rattle.std.proofs.Common.{◌≡◌, ◌++◌, map}
use Rattle.std.specs.List.{filter}
use Rattle.ode_value.specs.Classes.{Trigger, own_triggers}
use Rattle.ode_schema.specs.Parts.{named_by_place}
use Rattle.ode_schema.proofs.OwnTriggers.{own_from}
use Rattle.ode_schema.proofs.triggers.add_initial.Given as goal

abbrev pub invariant-loop-place : goal.invariant-loop-place
invariant-loop-place l =
    l.found ++ map named_by_place (filter (λ (t : Trigger). t.decl.initial) (own_from l.class l.place))
    ≡ l.initial.found ++ map named_by_place (filter (λ (t : Trigger). t.decl.initial) (own_triggers l.class))
