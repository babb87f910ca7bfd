use Rattle.std.proofs.Common.{◌≡◌, IsTrue, ◌-◌, ◌^◌, ◌++◌, map}
use Rattle.ode_heap.specs.Answering.{class_of}
use Rattle.ode_heap_laws.specs.Few.{HoldsCounted}
use Rattle.ode_host.specs.Host.{Looks}
use Rattle.ode_keep.specs.Entries.{Entries}
use Rattle.ode_query.proofs.InstanceLaws.{instances_in}
use Rattle.ode_query.proofs.ObjectLaws.{all_from}
use Rattle.ode_query.proofs.instances.read_instances.Given as goal
use Rattle.ode_query.specs.Rows.{instances}
use Rattle.ode_value.specs.Language.{Language, ListWorld}

abbrev pub invariant-objects : goal.invariant-objects
invariant-objects g l = record {
  live : IsTrue (g.K.Keep.live l.heap);
  looks : Looks (g.H.Host.view l.initial.host) (g.H.Host.view l.host);
  faults : (g.H.Host.view l.host).disk_faults ≡ (g.H.Host.view l.initial.host).disk_faults;
  holds : (entries : Entries) → g.K.Keep.holds l.initial.heap (g.H.Host.view l.initial.host) entries → g.K.Keep.holds l.heap (g.H.Host.view l.host) entries;
  rest : (by : Language) (entries : Entries) (w : ListWorld) → HoldsCounted by entries w → g.K.Keep.holds l.initial.heap (g.H.Host.view l.initial.host) entries
      → l.classes ≡ map class_of w.bones.classes → l.numbers ++ instances_in w.bones l.class (all_from l.from w.bones.objects) ≡ instances w.bones l.class;
}

abbrev pub decreases-objects : goal.decreases-objects
decreases-objects g l = 2 ^ 64 - l.from
