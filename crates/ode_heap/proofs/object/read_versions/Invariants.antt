use Rattle.std.proofs.Common.{◌≡◌, IsTrue, ◌-◌, ◌^◌}
use Rattle.ode_host.specs.Host.{Looks}
use Rattle.ode_heap.specs.Looking.{as_version}
use Rattle.ode_heap.specs.Objects.{versions_in}
use Rattle.ode_heap.specs.Walking.{block, with_front}
use Rattle.ode_keep.specs.Entries.{Entries}
use Rattle.ode_value.specs.Keys.{version_kind}
use Rattle.ode_heap.proofs.object.read_versions.Given as goal

abbrev pub invariant-versions : goal.invariant-versions
invariant-versions g l = record {
  live : IsTrue (g.K.Keep.live l.keeper);
  looks : Looks (g.H.Host.view l.initial.host) (g.H.Host.view l.host);
  faults : (g.H.Host.view l.host).disk_faults ≡ (g.H.Host.view l.initial.host).disk_faults;
  holds : (entries : Entries) → g.K.Keep.holds l.initial.keeper (g.H.Host.view l.initial.host) entries → g.K.Keep.holds l.keeper (g.H.Host.view l.host) entries;
  rest : (entries : Entries) → g.K.Keep.holds l.initial.keeper (g.H.Host.view l.initial.host) entries
      → with_front l.versions (block as_version version_kind l.id l.from entries) ≡ versions_in entries l.id;
}

abbrev pub decreases-versions : goal.decreases-versions
decreases-versions g l = 2 ^ 64 - l.from
