use Rattle.std.proofs.Common.{◌≡◌, ◌++◌, IsTrue, drop, length}
use Rattle.std.specs.List.{AllByRecursion}
use Rattle.ode_host.specs.Host.{Looks}
use Rattle.ode_keep.specs.Entries.{Entries}
use Rattle.ode_query.proofs.lookup.ranges_of.Given as goal
use Rattle.ode_query.specs.Lookups.{AreRanges, numbers_of}
use Rattle.ode_run_frame.specs.Reads.{Reads}
use Rattle.ode_value.specs.GoodWorlds.{RiseFrom}
use Rattle.ode_value.specs.Worlds.{Bones}

abbrev pub invariant-loop-numbers : goal.invariant-loop-numbers
invariant-loop-numbers g l = record {
  live : IsTrue (g.K.Keep.live l.heap);
  looks : Looks (g.H.Host.view l.initial.host) (g.H.Host.view l.host);
  faults : (g.H.Host.view l.host).disk_faults ≡ (g.H.Host.view l.initial.host).disk_faults;
  holds : (base : Entries) (b : Bones) → g.K.Keep.holds l.initial.heap (g.H.Host.view l.initial.host) base → Reads l.classes base l.overlay b → g.K.Keep.holds l.heap (g.H.Host.view l.host) base;
  place : l.variable ≡ length l.ranges;
  same : numbers_of l.ranges ++ drop l.numbers-index l.lists ≡ l.lists;
  ranges : (base : Entries) (b : Bones) → g.K.Keep.holds l.initial.heap (g.H.Host.view l.initial.host) base → Reads l.classes base l.overlay b
      → AllByRecursion (RiseFrom 0) l.lists → AreRanges b l.test 0 l.ranges;
}
