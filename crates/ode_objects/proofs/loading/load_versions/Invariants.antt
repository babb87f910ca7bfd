use Rattle.std.proofs.Common.{◌≡◌, IsTrue, [], drop}
use Rattle.ode_host.specs.Host.{Looks}
use Rattle.ode_keep.specs.Entries.{Entries}
use Rattle.ode_objects.specs.Loading.{versions_from}
use Rattle.ode_objects.proofs.loading.load_versions.Given as goal

abbrev pub invariant-loop-version : goal.invariant-loop-version
invariant-loop-version g l = record {
  live : IsTrue (g.K.Keep.live l.heap);
  looks : Looks (g.H.Host.view l.initial.host) (g.H.Host.view l.host);
  faults : (g.H.Host.view l.host).disk_faults ≡ (g.H.Host.view l.initial.host).disk_faults;
  holds : (base : Entries) → g.K.Keep.holds l.initial.heap (g.H.Host.view l.initial.host) base → g.K.Keep.holds l.heap (g.H.Host.view l.host) base;
  rest : (base : Entries) → g.K.Keep.holds l.initial.heap (g.H.Host.view l.initial.host) base
      → versions_from base l.id l.class l.versions (drop l.version-index l.listed) ≡ versions_from base l.id l.class [] l.listed;
}
