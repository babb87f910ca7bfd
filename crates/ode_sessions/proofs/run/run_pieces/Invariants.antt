use Rattle.std.proofs.Common.{◌≡◌, IsTrue, ℕ, List, Some, false}
use Rattle.ode_host.specs.Causes.{RoseIf}
use Rattle.ode_host.specs.Host.{HostCalls, LeavesOnly}
use Rattle.ode_language.specs.Languages.{ode}
use Rattle.ode_machine.specs.Interleaving.{Interleaved}
use Rattle.ode_machine.specs.Moments.{IsAfterSome}
use Rattle.ode_machine.specs.Runs.{Item}
use Rattle.ode_script.specs.Cutting.{Pieces, pieces}
use Rattle.ode_script.specs.Left.{HasPieces, allowed, is_live}
use Rattle.ode_sessions.specs.Running.{SpeaksSoFar}
use Rattle.ode_steps.specs.Serving.{IsLive, StandsFor}
use Rattle.ode_transact.specs.Resting.{HoldsBy}
use Rattle.ode_value.specs.Language.{ListWorld}
use Rattle.ode_sessions.proofs.run.run_pieces.Given as goal

-- what is done so far and the run of what is left are the run of the whole, and no stop so far left anything else
abbrev pub invariant-pieces : goal.invariant-pieces
invariant-pieces g l = record {
  whole : (w : ListWorld) (all : List Item) (script text : List ℕ) → g.S.Source.left l.fn.source ≡ Some script
      → SpeaksSoFar g.H.Host.view g.K.Keep.holds g.K.Keep.live (pieces script) all w text (pieces script) l.fn.sessions l.fn.host false
      → (ps : Pieces) × HasPieces l.reader (g.S.Source.left l.source) ps × SpeaksSoFar g.H.Host.view g.K.Keep.holds g.K.Keep.live (pieces script) all w text ps l.sessions l.host l.refused;
  moments : (w : ListWorld) (all : List Item) (script text : List ℕ) → g.S.Source.left l.fn.source ≡ Some script
      → SpeaksSoFar g.H.Host.view g.K.Keep.holds g.K.Keep.live (pieces script) all w text (pieces script) l.fn.sessions l.fn.host false
      → LeavesOnly (g.H.Host.view l.fn.host) (g.H.Host.view l.host) (IsAfterSome (HoldsBy ode g.K.Keep.means) all w text);
  stands : (m : Interleaved) → StandsFor g.H.Host.view g.K.Keep.holds g.K.Keep.live ode m l.fn.sessions l.fn.host →
      (now : Interleaved) × StandsFor g.H.Host.view g.K.Keep.holds g.K.Keep.live ode now l.sessions l.host;
  leaves : HostCalls ⊥ ⊥ (g.H.Host.view l.fn.host) (g.H.Host.view l.host);
  live : IsLive g.K.Keep.live l.sessions;
  reads_on : IsTrue (is_live l.reader);
  reads : RoseIf ⊥ (g.S.Source.faults l.fn.source) (g.S.Source.faults l.source);
}

abbrev pub decreases-pieces : goal.decreases-pieces
decreases-pieces g l = allowed l.reader
