use Rattle.std.proofs.Common.{length, ◌-◌, ◌≡◌, ◌≤◌, List, ℕ, take, drop}
use Rattle.ode_host.specs.Host.{Fetched, Looks, Tells}
use Rattle.ode_host.proofs.whole.read_whole.Given as goal

abbrev pub invariant-loop-filled : goal.invariant-loop-filled
invariant-loop-filled g l = record {
  within : l.filled ≤ length l.to;
  looks : Looks (g.H.Host.view l.initial.host) (g.H.Host.view l.host);
  fetched : Fetched l.filled (g.H.Host.view l.initial.host) (g.H.Host.view l.host);
  faults : (g.H.Host.view l.host).disk_faults ≡ (g.H.Host.view l.initial.host).disk_faults;
  bytes : (file : List ℕ) → Tells (g.H.Host.view l.initial.host) file → take l.filled l.to ≡ take l.filled (drop l.at file);
}

abbrev pub decreases-loop-filled : goal.decreases-loop-filled
decreases-loop-filled g l = length l.initial.to - l.filled
