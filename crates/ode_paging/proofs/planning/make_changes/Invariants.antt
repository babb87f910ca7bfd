use Rattle.std.proofs.Common.{◌≡◌, ◌≤◌, ◌+◌, ◌*◌, ◌++◌, List, [], length}
use Rattle.std.specs.List.{AllByRecursion}
use Rattle.std.specs.Map.{keys_of}
use Rattle.ode_host.specs.Host.{Looks}
use Rattle.ode_keep.specs.Batches.{changes_of}
use Rattle.ode_keep.specs.Entries.{Entries, HasRisingKeys}
use Rattle.ode_keep.proofs.Lengths.{IsShortChange}
use Rattle.ode_paging.specs.Hands.{HasInHand}
use Rattle.ode_paging.specs.Indexing.{indexed}
use Rattle.ode_paging.specs.Replacing.{ArePages}
use Rattle.ode_paging.proofs.Planned.{AreMadeSoFar}
use Rattle.ode_paging.proofs.planning.make_changes.Given as goal

abbrev pub invariant-loop-change : goal.invariant-loop-change
invariant-loop-change g l = record {
  looks : Looks (g.H.Host.view l.initial.host) (g.H.Host.view l.host);
  faults : (g.H.Host.view l.host).disk_faults ≡ (g.H.Host.view l.initial.host).disk_faults;
  short : AllByRecursion IsShortChange (changes_of l.change-iterator.rest.now);
  rising : HasRisingKeys (changes_of l.change-iterator.rest.now);
  keys : keys_of l.moves.items ++ keys_of (changes_of l.change-iterator.rest.now) ≡ keys_of l.batch;
  few : length l.hand.pages.entries + 2 * length (changes_of l.change-iterator.rest.now) ≤ length l.initial.hand.pages.entries + 2 * length l.batch;
  made : (pages : List Entries) → ArePages pages → l.index ≡ indexed 0 [] pages
      → HasInHand (g.H.Host.view l.initial.host) l.source.header.now l.source.images.now l.initial.hand pages pages
      → AreMadeSoFar (g.H.Host.view l.host) l.source.header.now l.source.images.now l.hand l.initial.counts l.counts pages l.batch (changes_of l.change-iterator.rest.now) l.moves.items;
}
