use Rattle.std.proofs.Common.{◌≡◌, ◌+◌, ◌<◌, ◌^◌}
use Rattle.std.specs.List.{sum_by}
use Rattle.std.specs.Map.{values_of}
use Rattle.ode_objects.specs.Weights.{capped, weight_before}
use Rattle.ode_overlay.specs.Settling.{bytes_before}
use Rattle.ode_overlay.proofs.overlay.Overlay.bytes_before.Given as goal

abbrev pub invariant-loop-tracked : goal.invariant-loop-tracked
invariant-loop-tracked l = record {
  rest : capped (l.bytes + sum_by (weight_before l.classes) (values_of l.tracked-iterator)) ≡ capped (bytes_before l.classes l.self);
  fits : l.bytes < 2 ^ 64;
}
