use Rattle.ode_host.specs.Host.{HostCalls}
use Rattle.ode_language.specs.Languages.{ode}
use Rattle.ode_machine.specs.Interleaving.{Interleaved}
use Rattle.ode_steps.proofs.FinalLaws.{AreCounted}
use Rattle.ode_steps.proofs.ending.finish_in.Given as goal
use Rattle.ode_steps.specs.Serving.{IsResting, StandsIn}

-- So many sessions have ended, and so many transactions settled. Whatever the records are, no call of the host failed so far.
abbrev pub invariant-ending : goal.invariant-ending
invariant-ending g l = record {
  served : (m : Interleaved) → StandsIn g.H.Host.view g.K.Keep.holds g.K.Keep.live ode m l.fn.rest l.fn.sessions l.fn.host → AreCounted g.H.Host.view g.K.Keep.holds g.K.Keep.live g.K.Keep.means m l._ended l.rest l.sessions l.settled l.fn.host l.host;
  usable : IsResting g.K.Keep.live l.rest;
  calls : HostCalls ⊥ ⊥ (g.H.Host.view l.fn.host) (g.H.Host.view l.host);
}
