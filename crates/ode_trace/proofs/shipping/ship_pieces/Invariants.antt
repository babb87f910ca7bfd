use Rattle.std.proofs.Common.{◌≡◌, [], false, true, IsTrue, ℕ, List, Some}
use Rattle.ode_engine.specs.Serving.{IsLive, StandsFor}
use Rattle.ode_host.specs.Causes.{RoseIf}
use Rattle.ode_host.specs.Host.{HostCalls, LeavesOnly}
use Rattle.ode_keep.specs.Entries.{Entries}
use Rattle.ode_language.specs.Languages.{ode}
use Rattle.ode_machine.specs.Runs.{Item}
use Rattle.ode_machine.specs.Sessions.{Session}
use Rattle.ode_script.specs.Cutting.{Pieces, pieces}
use Rattle.ode_script.specs.Left.{HasPieces, allowed, is_live}
use Rattle.ode_trace.specs.Shipping.{IsShippedSoFar, ShipsOn}
use Rattle.ode_value.specs.Language.{ListWorld}
use Rattle.ode_trace.proofs.shipping.ship_pieces.Given as goal

-- what is done so far and the run of what is left are the run of the whole, and no stop so far left anything else
abbrev pub invariant-pieces : goal.invariant-pieces
invariant-pieces g l = record {
  whole : (w : ListWorld) (entries : Entries) (all : List Item) (script text : List ℕ) → g.S.Source.left l.fn.source ≡ Some script
      → ShipsOn g.H.Host.view g.K.Keep.holds g.K.Keep.live g.K.Keep.means (pieces script) all w entries text (pieces script) false l.fn.engine l.fn.host
      → (ps : Pieces) × HasPieces l.reader (g.S.Source.left l.source) ps × ShipsOn g.H.Host.view g.K.Keep.holds g.K.Keep.live g.K.Keep.means (pieces script) all w entries text ps l.refused l.engine l.host;
  moments : (w : ListWorld) (entries : Entries) (all : List Item) (script text : List ℕ) → g.S.Source.left l.fn.source ≡ Some script
      → ShipsOn g.H.Host.view g.K.Keep.holds g.K.Keep.live g.K.Keep.means (pieces script) all w entries text (pieces script) false l.fn.engine l.fn.host
      → LeavesOnly (g.H.Host.view l.fn.host) (g.H.Host.view l.host) (IsShippedSoFar g.K.Keep.means all w entries text);
  stands : (session : Session) → StandsFor g.H.Host.view g.K.Keep.holds g.K.Keep.live ode session l.fn.engine l.fn.host
      → (now : Session) × StandsFor g.H.Host.view g.K.Keep.holds g.K.Keep.live ode now l.engine l.host;
  leaves : HostCalls ⊥ ⊥ (g.H.Host.view l.fn.host) (g.H.Host.view l.host);
  live : IsLive g.K.Keep.live l.engine;
  empty : l.engine.log ≡ Some [];
  quiet : l.engine.quiet ≡ true;
  reads_on : IsTrue (is_live l.reader);
  reads : RoseIf ⊥ (g.S.Source.faults l.fn.source) (g.S.Source.faults l.source);
}

abbrev pub decreases-pieces : goal.decreases-pieces
decreases-pieces g l = allowed l.reader
