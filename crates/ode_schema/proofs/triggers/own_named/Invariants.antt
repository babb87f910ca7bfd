use Rattle.std.proofs.Common.{◌≡◌}
use Rattle.std.specs.List.{find}
use Rattle.std.specs.Str.{bytes_eq}
use Rattle.ode_value.specs.Classes.{Trigger, own_triggers}
use Rattle.ode_schema.proofs.OwnTriggers.{own_from}
use Rattle.ode_schema.proofs.triggers.own_named.Given as goal

abbrev pub invariant-loop-place : goal.invariant-loop-place
invariant-loop-place l =
    find (λ (t : Trigger). bytes_eq t.decl.name l.name) (own_triggers l.class) ≡ find (λ (t : Trigger). bytes_eq t.decl.name l.name) (own_from l.class l.place)
