use Rattle.std.proofs.Common.{◌≡◌, ◌∷◌, ◌+◌, ◌*◌, IsTrue, drop, length}
use Rattle.ode_host.specs.Host.{Looks}
use Rattle.ode_keep.specs.Entries.{Entries}
use Rattle.ode_query.proofs.gathering.+gather.Given as goal
use Rattle.ode_query.specs.Answers.{behind}
use Rattle.ode_query.specs.Lookups.{AreRanges, numbers_of}
use Rattle.ode_query.specs.Rows.{begun_by, rows_from}
use Rattle.ode_run_frame.specs.Reads.{Reads}
use Rattle.ode_value.specs.Worlds.{Bones}

abbrev pub decreases-gather : goal.decreases-gather
decreases-gather g l = 2 * length l.ranges.now

abbrev pub decreases-gather_from : goal.decreases-gather_from
decreases-gather_from g l = 2 * length l.ranges.now + 1

abbrev pub invariant-gather_from-loop-number : goal.invariant-gather_from-loop-number
invariant-gather_from-loop-number g l = record {
  live : IsTrue (g.K.Keep.live l.heap);
  looks : Looks (g.H.Host.view l.fn.host) (g.H.Host.view l.host);
  faults : (g.H.Host.view l.host).disk_faults ≡ (g.H.Host.view l.fn.host).disk_faults;
  holds : (base : Entries) (b : Bones) → g.K.Keep.holds l.fn.heap (g.H.Host.view l.fn.host) base → Reads l.classes base l.overlay b → g.K.Keep.holds l.heap (g.H.Host.view l.host) base;
  rest : (base : Entries) (b : Bones) → g.K.Keep.holds l.fn.heap (g.H.Host.view l.fn.host) base → Reads l.classes base l.overlay b → AreRanges b l.q.test (length l.chosen + 1) l.ranges
      → behind l.rows (rows_from b l.q (begun_by l.chosen (drop l.number-index l.numbers ∷ numbers_of l.ranges))) ≡ behind l.fn.rows (rows_from b l.q (begun_by l.chosen (l.numbers ∷ numbers_of l.ranges)));
}
