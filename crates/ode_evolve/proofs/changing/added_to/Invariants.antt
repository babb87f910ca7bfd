use Rattle.std.proofs.Common.{◌≡◌, take}
use Rattle.std.specs.Prelude.{◌==◌}
use Rattle.std.specs.List.{filter}
use Rattle.ode_value.specs.declared.change.Added.{Added}
use Rattle.ode_evolve.proofs.changing.added_to.Given as goal

abbrev pub invariant-loop-field : goal.invariant-loop-field
invariant-loop-field l = l.own ≡ filter (λ (a : Added). a.class == l.number) (take l.field-index l.added)
