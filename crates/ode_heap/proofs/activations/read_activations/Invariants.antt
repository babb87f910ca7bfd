use Rattle.std.proofs.Common.{◌≡◌, IsTrue, ◌-◌, ◌^◌}
use Rattle.ode_host.specs.Host.{Looks}
use Rattle.ode_heap.specs.Activations.{activations_in, as_activation}
use Rattle.ode_heap.specs.Walking.{block, with_front}
use Rattle.ode_keep.specs.Entries.{Entries}
use Rattle.ode_value.specs.Keys.{activation_kind}
use Rattle.ode_heap.proofs.activations.read_activations.Given as goal

abbrev pub invariant-activations : goal.invariant-activations
invariant-activations g l = record {
  live : IsTrue (g.K.Keep.live l.keeper);
  looks : Looks (g.H.Host.view l.initial.host) (g.H.Host.view l.host);
  faults : (g.H.Host.view l.host).disk_faults ≡ (g.H.Host.view l.initial.host).disk_faults;
  holds : (entries : Entries) → g.K.Keep.holds l.initial.keeper (g.H.Host.view l.initial.host) entries → g.K.Keep.holds l.keeper (g.H.Host.view l.host) entries;
  rest : (entries : Entries) → g.K.Keep.holds l.initial.keeper (g.H.Host.view l.initial.host) entries
      → with_front l.activations (block (as_activation l.classes) activation_kind l.id l.from entries) ≡ activations_in entries l.id l.classes;
}

abbrev pub decreases-activations : goal.decreases-activations
decreases-activations g l = 2 ^ 64 - l.from
