use Rattle.std.proofs.Common.{◌≡◌, take}
use Rattle.ode_changed_laws.specs.Records.{fields_put}
use Rattle.ode_keep.specs.ShortValues.{HasShortValues}
use Rattle.ode_change.proofs.records.added_changes.Given as goal

-- those so far
abbrev pub invariant-loop-field : goal.invariant-loop-field
invariant-loop-field l = record {
  rows : l.batch ≡ fields_put l.classes (take l.field-index l.added);
  short : HasShortValues l.batch;
}
