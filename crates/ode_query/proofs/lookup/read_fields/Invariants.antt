use Rattle.std.proofs.Common.{◌≡◌, ◌++◌, IsTrue, drop, ℕ}
use Rattle.ode_host.specs.Host.{Looks}
use Rattle.ode_keep.specs.Entries.{Entries}
use Rattle.ode_links.specs.Linking.{field_of_local}
use Rattle.ode_query.proofs.lookup.read_fields.Given as goal
use Rattle.ode_query.specs.Lookups.{valued}
use Rattle.ode_run_frame.specs.Reads.{Reads}
use Rattle.ode_value.specs.Worlds.{Bones}

abbrev pub invariant-loop-number : goal.invariant-loop-number
invariant-loop-number g l = record {
  live : IsTrue (g.K.Keep.live l.heap);
  looks : Looks (g.H.Host.view l.initial.host) (g.H.Host.view l.host);
  faults : (g.H.Host.view l.host).disk_faults ≡ (g.H.Host.view l.initial.host).disk_faults;
  holds : (base : Entries) (b : Bones) → g.K.Keep.holds l.initial.heap (g.H.Host.view l.initial.host) base → Reads l.classes base l.overlay b → g.K.Keep.holds l.heap (g.H.Host.view l.host) base;
  rest : (base : Entries) (b : Bones) (place : ℕ) → g.K.Keep.holds l.initial.heap (g.H.Host.view l.initial.host) base → Reads l.classes base l.overlay b
      → l.field ≡ field_of_local 0 place → l.rows ++ valued b place (drop l.number-index l.numbers) ≡ valued b place l.numbers;
}
