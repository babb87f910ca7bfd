use Rattle.std.proofs.Common.{◌≡◌, reverse}
use Rattle.ode_keep.specs.Batches.{changes_of}
use Rattle.ode_keep.specs.Entries.{Entries, applied}
use Rattle.ode_areas.specs.Puts.{LeadBack, puts}
use Rattle.ode_areas.proofs.changing.put_all.Given as goal

abbrev pub invariant-loop-change : goal.invariant-loop-change
invariant-loop-change l = record {
  ahead : applied (puts (changes_of l.change-iterator.rest.now)) l.records ≡ applied (puts l.batch) l.initial.records;
  back : (old : Entries) → LeadBack (reverse l.initial.notes.items) l.initial.records old → LeadBack (reverse l.notes.items) l.records old;
}
