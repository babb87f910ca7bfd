use Rattle.std.proofs.Common.{◌≡◌, ◌≤◌, ◌+◌, ◌-◌, length}
use Rattle.ode_records.specs.Kinds.{AreKinds, all_of}
use Rattle.ode_records.proofs.records.make_room.Given as goal

abbrev pub invariant-kinds : goal.invariant-kinds
invariant-kinds l = record {
  same : all_of l.kinds.items ≡ all_of l.initial.kinds.items;
  kinds : AreKinds 0 l.kinds.items;
  longer : length l.initial.kinds.items ≤ length l.kinds.items;
}

abbrev pub decreases-kinds : goal.decreases-kinds
decreases-kinds l = (l.kind + 1) - length l.kinds.items
