use Rattle.std.proofs.Common.{◌≡◌, reverse, vec_len}
use Rattle.ode_keep.specs.Entries.{applied}
use Rattle.ode_areas.specs.Puts.{NeedNoRoom}
use Rattle.ode_areas.proofs.changing.undo_all.Given as goal

abbrev pub invariant-loop-key : goal.invariant-loop-key
invariant-loop-key l = record {
  room : NeedNoRoom (reverse l.notes.items) l.records;
  same : applied (reverse l.notes.items) l.records ≡ applied (reverse l.initial.notes.items) l.initial.records;
}

abbrev pub decreases-loop-key : goal.decreases-loop-key
decreases-loop-key l = vec_len l.notes
