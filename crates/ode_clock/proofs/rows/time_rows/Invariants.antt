use Rattle.std.proofs.Common.{◌≡◌, IsTrue, ◌-◌, ◌^◌, ◌++◌, map}
use Rattle.ode_clock.proofs.RowLaws.{all_from}
use Rattle.ode_heap.specs.Answering.{class_of}
use Rattle.ode_heap_laws.specs.Few.{HoldsCounted}
use Rattle.ode_host.specs.Host.{Looks}
use Rattle.ode_keep.specs.Entries.{Entries}
use Rattle.ode_machine.specs.TimeRows.{time_row, time_rows}
use Rattle.ode_timer.specs.Due.{AllRecur}
use Rattle.ode_value.specs.Language.{Language, ListWorld}
use Rattle.ode_clock.proofs.rows.time_rows.Given as goal

abbrev pub invariant-objects : goal.invariant-objects
invariant-objects g l = record {
  live : IsTrue (g.K.Keep.live l.heap);
  looks : Looks (g.H.Host.view l.initial.host) (g.H.Host.view l.host);
  faults : (g.H.Host.view l.host).disk_faults ≡ (g.H.Host.view l.initial.host).disk_faults;
  holds : (entries : Entries) → g.K.Keep.holds l.initial.heap (g.H.Host.view l.initial.host) entries → g.K.Keep.holds l.heap (g.H.Host.view l.host) entries;
  recur : AllRecur l.rows;
  rest : (by : Language) (entries : Entries) (w : ListWorld) → HoldsCounted by entries w → g.K.Keep.holds l.initial.heap (g.H.Host.view l.initial.host) entries
      → l.classes ≡ map class_of w.bones.classes → l.rows ++ map (time_row w.bones.classes) (all_from l.from w.bones.objects) ≡ time_rows w.bones;
}

abbrev pub decreases-objects : goal.decreases-objects
decreases-objects g l = 2 ^ 64 - l.from
