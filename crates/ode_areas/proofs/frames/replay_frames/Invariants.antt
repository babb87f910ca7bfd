use Rattle.std.proofs.Common.{◌≡◌, ◌-◌, List, ℕ}
use Rattle.ode_host.specs.Host.{Looks, Tells}
use Rattle.ode_journal.specs.Ahead.{IsOf}
use Rattle.ode_journal.proofs.Histories.{IsSoFar}
use Rattle.ode_keep.specs.Entries.{applied}
use Rattle.ode_keep.specs.Payloads.{IsPayload}
use Rattle.ode_areas.proofs.frames.replay_frames.Given as goal

abbrev pub invariant-frames : goal.invariant-frames
invariant-frames g l = record {
  looks : Looks (g.H.Host.view l.initial.host) (g.H.Host.view l.host);
  faults : (g.H.Host.view l.host).disk_faults ≡ (g.H.Host.view l.initial.host).disk_faults;
  ahead : (file : List ℕ) → Tells (g.H.Host.view l.initial.host) file → IsOf file l.ahead;
  so_far : (file : List ℕ) → Tells (g.H.Host.view l.initial.host) file → IsSoFar IsPayload applied l.start l.end l.at l.initial.map l.map file;
}

abbrev pub decreases-frames : goal.decreases-frames
decreases-frames g l = l.end - l.at
