use Rattle.std.proofs.Common.{◌≡◌, drop}
use Rattle.std.specs.List.{All}
use Rattle.ode_laws.specs.Alike.{NumberTx}
use Rattle.ode_run.proofs.constraints.test_each.Given as goal
use Rattle.ode_run.specs.Testing.{current_at}
use Rattle.ode_states.specs.Machine.{checked}
use Rattle.ode_value.specs.Acts.{each}
use Rattle.ode_value.specs.Completing.{tests_touched}
use Rattle.ode_value.specs.Denoting.{object_at}

abbrev pub invariant-loop-id : goal.invariant-loop-id
invariant-loop-id l = (y : NumberTx) → checked y.now.bones.classes ≡ l.program.classes → All (λ id. object_at y.now.bones id ≡ current_at id l.overlay) l.ids
    → each tests_touched l.ids y ≡ each tests_touched (drop l.id-index l.ids) y
