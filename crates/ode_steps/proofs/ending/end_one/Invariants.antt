use Rattle.std.proofs.Common.{◌≡◌, length}
use Rattle.ode_host.specs.Host.{HostCalls}
use Rattle.ode_language.specs.Languages.{ode}
use Rattle.ode_machine.specs.Interleaving.{Interleaved}
use Rattle.ode_steps.proofs.EndLaws.{HasPassed}
use Rattle.ode_steps.proofs.ending.end_one.Given as goal
use Rattle.ode_steps.specs.Serving.{IsResting, StandsIn}

-- None of the first so many sessions may end, and nothing was done yet. Whatever the records are, no call of the host failed so far.
abbrev pub invariant-next : goal.invariant-next
invariant-next g l = record {
  served : (m : Interleaved) → StandsIn g.H.Host.view g.K.Keep.holds g.K.Keep.live ode m l.fn.rest l.fn.sessions l.fn.host → HasPassed g.H.Host.view g.K.Keep.holds g.K.Keep.live g.K.Keep.means m l.at l.rest l.sessions l.fn.host l.host;
  few : length l.sessions ≡ length l.fn.sessions;
  usable : IsResting g.K.Keep.live l.rest;
  calls : HostCalls ⊥ ⊥ (g.H.Host.view l.fn.host) (g.H.Host.view l.host);
}
