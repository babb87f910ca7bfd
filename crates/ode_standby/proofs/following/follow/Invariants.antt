use Rattle.std.proofs.Common.{◌≡◌, ◌+◌, ◌-◌, ◌≤◌, ℕ, List, Some, length}
use Rattle.ode_host.specs.Host.{DiskCalls, LeavesOnly}
use Rattle.ode_keep.specs.Entries.{Entries}
use Rattle.ode_standby.specs.Courses.{next_of}
use Rattle.ode_standby.specs.Feeding.{IsLive}
use Rattle.ode_standby.specs.Taking.{LeavesSome, from}
use Rattle.ode_standby.specs.Turns.{HoldsNext, IsFed}
use Rattle.ode_value.specs.declared.limits.TheConstants.{SCRIPT_LIMIT}
use Rattle.ode_standby.proofs.following.follow.Given as goal

-- the whole frames of what came were taken, and each stop left the records behind some of them; no call failed
abbrev pub invariant-turns : goal.invariant-turns
invariant-turns g l = record {
  fed : (most : ℕ) (entries : Entries) (next : ℕ) (bytes : List ℕ) → ((keeper : g.row.K.Denot) → g.K.Keep.most keeper ≡ most) → g.K.Keep.holds l.fn.standby.heap (g.H.Host.view l.fn.host) entries → next_of entries ≡ Some next
      → g.S.Source.left l.fn.source ≡ Some bytes → IsFed most (from entries next 0) bytes (g.S.Source.left l.source) l.standby.stream l.applied (λ after. g.K.Keep.holds l.standby.heap (g.H.Host.view l.host) after);
  stops : (most : ℕ) (entries : Entries) (next : ℕ) (bytes : List ℕ) → ((keeper : g.row.K.Denot) → g.K.Keep.most keeper ≡ most) → g.K.Keep.holds l.fn.standby.heap (g.H.Host.view l.fn.host) entries → next_of entries ≡ Some next
      → g.S.Source.left l.fn.source ≡ Some bytes → LeavesOnly (g.H.Host.view l.fn.host) (g.H.Host.view l.host) (LeavesSome g.K.Keep.means most (from entries next 0) bytes (g.H.Host.view l.fn.host));
  sound : (most : ℕ) (entries : Entries) (next : ℕ) → ((keeper : g.row.K.Denot) → g.K.Keep.most keeper ≡ most) → g.K.Keep.holds l.fn.standby.heap (g.H.Host.view l.fn.host) entries → next_of entries ≡ Some next
      → HoldsNext (λ after. g.K.Keep.holds l.standby.heap (g.H.Host.view l.host) after);
  live : IsLive g.K.Keep.live l.standby;
  few : l.applied ≤ l.standby.stream.start;
  calls : DiskCalls ⊥ (g.H.Host.view l.fn.host) (g.H.Host.view l.host);
  reads : g.S.Source.faults l.source ≡ g.S.Source.faults l.fn.source;
}

abbrev pub decreases-turns : goal.decreases-turns
decreases-turns g l = SCRIPT_LIMIT - (l.standby.stream.start + length l.standby.stream.begun.items)
