use Rattle.std.proofs.Common.{◌≡◌, ◌+◌, IsTrue, length, take}
use Rattle.ode_host.specs.Host.{Looks}
use Rattle.ode_keep.specs.Entries.{Entries}
use Rattle.ode_opening_tables.specs.Answers.{AreBehind, AreBeside}
use Rattle.ode_value.specs.Classes.{own_triggers}
use Rattle.ode_opening_tables.proofs.tables.read_own.Given as goal

abbrev pub invariant-loop-trigger : goal.invariant-loop-trigger
invariant-loop-trigger g l = record {
  live : IsTrue (g.K.Keep.live l.keeper);
  looks : Looks (g.H.Host.view l.initial.host) (g.H.Host.view l.host);
  faults : (g.H.Host.view l.host).disk_faults ≡ (g.H.Host.view l.initial.host).disk_faults;
  holds : (entries : Entries) → g.K.Keep.holds l.initial.keeper (g.H.Host.view l.initial.host) entries → g.K.Keep.holds l.keeper (g.H.Host.view l.host) entries;
  count : length l.tables ≡ length l.initial.tables + l.trigger;
  beside : AreBeside l.built l.initial.tables → AreBeside l.built l.tables;
  read : (entries : Entries) → g.K.Keep.holds l.initial.keeper (g.H.Host.view l.initial.host) entries
      → AreBehind entries (take l.trigger (own_triggers l.class)) l.initial.tables l.tables;
}
