use Rattle.std.proofs.Common.{◌≡◌, drop}
use Rattle.ode_keep.specs.Entries.{HasRisingKeys}
use Rattle.ode_paging.specs.Changing.{ArePresent}
use Rattle.ode_paging.specs.Making.{all_pointed}
use Rattle.ode_paging.proofs.changing.lead_all.Given as goal

abbrev pub invariant-loop-key : goal.invariant-loop-key
invariant-loop-key l = record {
  ahead : all_pointed (drop l.key-index l.moves) l.leads.entries ≡ all_pointed l.moves l.initial.leads.entries;
  present : ArePresent (drop l.key-index l.moves) l.leads.entries;
  rising : HasRisingKeys (drop l.key-index l.moves);
  order : HasRisingKeys l.leads.entries;
}
