use Rattle.std.proofs.Common.{◌≡◌, IsTrue, ◌-◌, length}
use Rattle.ode_host.specs.Host.{Looks}
use Rattle.ode_keep.specs.Entries.{Entries}
use Rattle.ode_opening_tables.proofs.Pieces.{IsPart, IsPartly}
use Rattle.ode_opening_tables.proofs.records.read_bytes.Given as goal

abbrev pub invariant-loop-place : goal.invariant-loop-place
invariant-loop-place g l = record {
  live : IsTrue (g.K.Keep.live l.keeper);
  looks : Looks (g.H.Host.view l.initial.host) (g.H.Host.view l.host);
  faults : (g.H.Host.view l.host).disk_faults ≡ (g.H.Host.view l.initial.host).disk_faults;
  holds : (entries : Entries) → g.K.Keep.holds l.initial.keeper (g.H.Host.view l.initial.host) entries → g.K.Keep.holds l.keeper (g.H.Host.view l.host) entries;
  part : IsPart l.count (length l.bytes.items) l.piece;
  read : (entries : Entries) → g.K.Keep.holds l.initial.keeper (g.H.Host.view l.initial.host) entries → IsPartly entries l.place.class l.place.trigger l.count l.bytes.items l.piece;
}

abbrev pub decreases-loop-place : goal.decreases-loop-place
decreases-loop-place g l = l.count - length l.bytes.items
