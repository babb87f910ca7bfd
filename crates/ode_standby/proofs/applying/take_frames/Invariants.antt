use Rattle.std.proofs.Common.{◌≡◌, ◌+◌, ◌≤◌, ℕ, IsTrue, Some, length}
use Rattle.ode_host.specs.Host.{DiskCalls, LeavesOnly}
use Rattle.ode_keep.specs.Entries.{Entries}
use Rattle.ode_standby.proofs.CourseLaws.{InFrames}
use Rattle.ode_standby.specs.Courses.{next_of}
use Rattle.ode_standby.specs.Taking.{LeavesSome, from}
use Rattle.ode_standby.proofs.applying.take_frames.Given as goal

-- the frames before the rest were taken, and each stop left the records behind some of them; no call failed
abbrev pub invariant-frames : goal.invariant-frames
invariant-frames g l = record {
  in_frames : (most : ℕ) (entries : Entries) → ((keeper : g.row.K.Denot) → g.K.Keep.most keeper ≡ most) → g.K.Keep.holds l.fn.heap (g.H.Host.view l.fn.host) entries → next_of entries ≡ Some l.number
      → InFrames most (from entries l.number l.start) l.start l.bytes l.rest l.next l.applied l.skipped (λ after. g.K.Keep.holds l.heap (g.H.Host.view l.host) after);
  stops : (most : ℕ) (entries : Entries) → ((keeper : g.row.K.Denot) → g.K.Keep.most keeper ≡ most) → g.K.Keep.holds l.fn.heap (g.H.Host.view l.fn.host) entries → next_of entries ≡ Some l.number
      → LeavesOnly (g.H.Host.view l.fn.host) (g.H.Host.view l.host) (LeavesSome g.K.Keep.means most (from entries l.number l.start) l.bytes (g.H.Host.view l.fn.host));
  few : l.applied + l.skipped + length l.rest ≤ length l.bytes;
  live : IsTrue (g.K.Keep.live l.heap);
  calls : DiskCalls ⊥ (g.H.Host.view l.fn.host) (g.H.Host.view l.host);
}

abbrev pub decreases-frames : goal.decreases-frames
decreases-frames g l = length l.rest
