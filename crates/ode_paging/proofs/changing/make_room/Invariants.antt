use Rattle.std.proofs.Common.{◌≡◌, reverse, take}
use Rattle.ode_paging.specs.Changing.{ArePresent, forgotten}
use Rattle.ode_paging.specs.Indexing.{Leads}
use Rattle.ode_paging.specs.Making.{all_pointed}
use Rattle.ode_paging.proofs.changing.make_room.Given as goal

abbrev pub invariant-loop-key : goal.invariant-loop-key
invariant-loop-key l = record {
  room : ArePresent (take l.key-index l.moves) l.leads.entries;
  same : all_pointed l.moves l.leads.entries ≡ all_pointed l.moves l.initial.leads.entries;
  back : (old : Leads) → forgotten (reverse l.initial.added.items) l.initial.leads.entries ≡ old → forgotten (reverse l.added.items) l.leads.entries ≡ old;
}
