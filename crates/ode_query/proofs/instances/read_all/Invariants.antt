use Rattle.std.proofs.Common.{◌≡◌, IsTrue, ◌++◌, List, drop, map, ℕ}
use Rattle.ode_heap.specs.Answering.{class_of}
use Rattle.ode_heap_laws.specs.Few.{HoldsCounted}
use Rattle.ode_host.specs.Host.{Looks}
use Rattle.ode_keep.specs.Entries.{Entries}
use Rattle.ode_query.proofs.instances.read_all.Given as goal
use Rattle.ode_query.specs.Rows.{all_instances, instances}
use Rattle.ode_value.specs.Language.{Language, ListWorld}

abbrev pub invariant-loop-range : goal.invariant-loop-range
invariant-loop-range g l = record {
  live : IsTrue (g.K.Keep.live l.heap);
  looks : Looks (g.H.Host.view l.initial.host) (g.H.Host.view l.host);
  faults : (g.H.Host.view l.host).disk_faults ≡ (g.H.Host.view l.initial.host).disk_faults;
  holds : (entries : Entries) → g.K.Keep.holds l.initial.heap (g.H.Host.view l.initial.host) entries → g.K.Keep.holds l.heap (g.H.Host.view l.host) entries;
  rest : (by : Language) (entries : Entries) (w : ListWorld) → HoldsCounted by entries w → g.K.Keep.holds l.initial.heap (g.H.Host.view l.initial.host) entries
      → l.classes ≡ map class_of w.bones.classes
      → l.lists ++ map (λ (v : List ℕ × List ℕ). instances w.bones v.1) (drop l.range-index l.q.over) ≡ all_instances w.bones l.q;
}
