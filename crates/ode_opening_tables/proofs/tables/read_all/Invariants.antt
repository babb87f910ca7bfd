use Rattle.std.proofs.Common.{◌≡◌, IsTrue, [], length, take}
use Rattle.ode_host.specs.Host.{Looks}
use Rattle.ode_keep.specs.Entries.{Entries}
use Rattle.ode_opening.specs.Building.{triggers_of}
use Rattle.ode_opening_tables.specs.Answers.{AreBehind, AreBeside}
use Rattle.ode_opening_tables.specs.Tables.{all_triggers, places_from}
use Rattle.ode_opening_tables.proofs.tables.read_all.Given as goal

abbrev pub invariant-loop-class : goal.invariant-loop-class
invariant-loop-class g l = record {
  live : IsTrue (g.K.Keep.live l.keeper);
  looks : Looks (g.H.Host.view l.initial.host) (g.H.Host.view l.host);
  faults : (g.H.Host.view l.host).disk_faults ≡ (g.H.Host.view l.initial.host).disk_faults;
  holds : (entries : Entries) → g.K.Keep.holds l.initial.keeper (g.H.Host.view l.initial.host) entries → g.K.Keep.holds l.keeper (g.H.Host.view l.host) entries;
  count : length l.tables ≡ length (triggers_of (take l.class-index l.classes));
  beside : AreBeside l.built l.tables;
  maps : l.maps ≡ places_from 0 (take l.class-index l.classes);
  read : (entries : Entries) → g.K.Keep.holds l.initial.keeper (g.H.Host.view l.initial.host) entries → AreBehind entries (all_triggers (take l.class-index l.classes)) [] l.tables;
}
