use Rattle.std.proofs.Common.{◌≡◌, [], drop, true}
use Rattle.std.specs.List.{All}
use Rattle.ode_objects.specs.Values.{are_args}
use Rattle.ode_overlay.specs.Reading.{running_from}
use Rattle.ode_overlay.proofs.reading.running_in.Given as goal
use Rattle.ode_types.specs.declared.running.Running.{Running}

abbrev pub invariant-loop-active : goal.invariant-loop-active
invariant-loop-active l = record {
  rest : running_from l.maps l.id l.running (drop l.active-index l.actives) ≡ running_from l.maps l.id [] l.actives;
  short : All (λ (a : Running). are_args a.args ≡ true) l.running;
}
