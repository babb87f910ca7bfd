use Rattle.std.proofs.Common.{◌≡◌, Bool, IsTrue, ℕ, List, Some}
use Rattle.ode_engine.specs.Serving.{IsLive, StandsFor}
use Rattle.ode_host.specs.Causes.{RoseIf}
use Rattle.ode_host.specs.Host.{HostCalls, LeavesOnly}
use Rattle.ode_language.specs.Languages.{ode}
use Rattle.ode_machine.specs.Moments.{IsAfterSome}
use Rattle.ode_machine.specs.Runs.{Item}
use Rattle.ode_machine.specs.Sessions.{Session}
use Rattle.ode_script.specs.Cutting.{Pieces, pieces}
use Rattle.ode_script.specs.Left.{HasPieces, allowed, is_live}
use Rattle.ode_transact.specs.Resting.{HoldsBy}
use Rattle.ode_trace.specs.Hearing.{heard_items}
use Rattle.ode_trace.specs.Running.{Runs}
use Rattle.ode_value.specs.Language.{ListWorld}
use Rattle.ode_trace.proofs.run.run_pieces.Given as goal

-- what is done so far and the run of what is left are the run of the whole, and no stop so far left anything else
abbrev pub invariant-pieces : goal.invariant-pieces
invariant-pieces g l = record {
  whole : (quiet : Bool) (w : ListWorld) (all : List Item) (script text : List ℕ) → g.S.Source.left l.fn.source ≡ Some script
      → Runs g.H.Host.view g.K.Keep.holds g.K.Keep.live quiet (pieces script) all w text (pieces script) l.fn.engine l.fn.host l.fn.tally
      → (ps : Pieces) × HasPieces l.reader (g.S.Source.left l.source) ps × Runs g.H.Host.view g.K.Keep.holds g.K.Keep.live quiet (pieces script) all w text ps l.engine l.host l.tally;
  moments : (quiet : Bool) (w : ListWorld) (all : List Item) (script text : List ℕ) → g.S.Source.left l.fn.source ≡ Some script
      → Runs g.H.Host.view g.K.Keep.holds g.K.Keep.live quiet (pieces script) all w text (pieces script) l.fn.engine l.fn.host l.fn.tally
      → LeavesOnly (g.H.Host.view l.fn.host) (g.H.Host.view l.host) (IsAfterSome (HoldsBy ode g.K.Keep.means) (heard_items quiet all) w text);
  stands : (session : Session) → StandsFor g.H.Host.view g.K.Keep.holds g.K.Keep.live ode session l.fn.engine l.fn.host →
      (now : Session) × StandsFor g.H.Host.view g.K.Keep.holds g.K.Keep.live ode now l.engine l.host;
  leaves : HostCalls ⊥ ⊥ (g.H.Host.view l.fn.host) (g.H.Host.view l.host);
  live : IsLive g.K.Keep.live l.engine;
  reads_on : IsTrue (is_live l.reader);
  reads : RoseIf ⊥ (g.S.Source.faults l.fn.source) (g.S.Source.faults l.source);
}

abbrev pub decreases-pieces : goal.decreases-pieces
decreases-pieces g l = allowed l.reader
