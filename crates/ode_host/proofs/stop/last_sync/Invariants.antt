use Rattle.std.proofs.Common.{◌≡◌, ◌≢◌, ◌-◌, ◌<◌, ◌≤◌, ℕ, get_or}
use Rattle.ode_host.specs.declared.call.Call.TheVariants.{Sync, End}
use Rattle.ode_host.proofs.stop.last_sync.Given as goal

abbrev pub invariant-loop-i : goal.invariant-loop-i
invariant-loop-i l = record {
  within : l.last ≤ l.i;
  quiet : (k : ℕ) → l.last ≤ k → k < l.i → get_or l.calls k End ≢ Sync;
  behind : 0 < l.last → get_or l.calls (l.last - 1) End ≡ Sync;
}
