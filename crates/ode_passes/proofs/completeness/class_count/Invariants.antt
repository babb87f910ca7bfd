use Rattle.std.proofs.Common.{◌≡◌, ◌≤◌, take}
use Rattle.std.specs.List.{count_by}
use Rattle.ode_passes.specs.Complete.{is_head}
use Rattle.ode_passes.proofs.completeness.class_count.Given as goal

abbrev pub invariant-loop-found : goal.invariant-loop-found
invariant-loop-found l = record {
  counted : l.count ≡ count_by is_head (take l.found-index l.records);
  few : l.count ≤ l.found-index;
}
