use Rattle.std.proofs.Common.{◌≡◌, IsTrue, List, drop, ℕ}
use Rattle.ode_host.specs.Host.{Looks}
use Rattle.ode_keep.specs.Entries.{Entries}
use Rattle.ode_query.proofs.combination.values_of.Given as goal
use Rattle.ode_query.specs.Answers.{behind}
use Rattle.ode_query.specs.Rows.{frame_of, values_of}
use Rattle.ode_run_frame.specs.Reads.{Reads}
use Rattle.ode_value.specs.Worlds.{Bones}

abbrev pub invariant-loop-e : goal.invariant-loop-e
invariant-loop-e g l = record {
  live : IsTrue (g.K.Keep.live l.heap);
  looks : Looks (g.H.Host.view l.initial.host) (g.H.Host.view l.host);
  faults : (g.H.Host.view l.host).disk_faults ≡ (g.H.Host.view l.initial.host).disk_faults;
  holds : (base : Entries) (b : Bones) → g.K.Keep.holds l.initial.heap (g.H.Host.view l.initial.host) base → Reads l.classes base l.overlay b → g.K.Keep.holds l.heap (g.H.Host.view l.host) base;
  rest : (base : Entries) (b : Bones) (numbers : List ℕ) → g.K.Keep.holds l.initial.heap (g.H.Host.view l.initial.host) base → Reads l.classes base l.overlay b
      → record { this = l.scene.this; locals = l.scene.locals } ≡ frame_of numbers → behind l.values (values_of b (drop l.e-index l.es) numbers) ≡ values_of b l.es numbers;
}
