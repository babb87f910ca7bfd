use Rattle.std.proofs.Common.{◌≡◌, []}
use Rattle.std.specs.Vec.Iter.{into_iter_items}
use Rattle.ode_objects.specs.Loading.{actives_from}
use Rattle.ode_objects.proofs.loading.actives_of.Given as goal

abbrev pub invariant-loop-activation : goal.invariant-loop-activation
invariant-loop-activation l = actives_from l.actives (into_iter_items l.activation-iterator) ≡ actives_from [] l.fn.activations
