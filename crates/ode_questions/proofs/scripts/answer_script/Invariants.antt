use Rattle.std.proofs.Common.{◌≡◌, IsTrue, ℕ, List, Some, map}
use Rattle.ode_heap.specs.Answering.{class_of}
use Rattle.ode_heap_laws.specs.Few.{HoldsCounted}
use Rattle.ode_host.specs.Causes.{RoseIf}
use Rattle.ode_host.specs.Host.{HostCalls, Spares}
use Rattle.ode_keep.specs.Entries.{Entries}
use Rattle.ode_script.specs.Cutting.{Pieces, pieces}
use Rattle.ode_script.specs.Left.{HasPieces, allowed, is_live}
use Rattle.ode_value.specs.Language.{Language, ListWorld}
use Rattle.ode_questions.specs.Steps.{SoFar}
use Rattle.ode_questions.proofs.scripts.answer_script.Given as goal

-- the pieces before those that are left were answered, and the records are held still; nothing was written, and no call failed
abbrev pub invariant-pieces : goal.invariant-pieces
invariant-pieces g l = record {
  so_far : (lang : Language) (entries : Entries) (w : ListWorld) (bytes text : List ℕ) → g.S.Source.left l.fn.script ≡ Some bytes → (g.H.Host.view l.fn.host).text ≡ Some text
      → HoldsCounted lang entries w → g.K.Keep.holds l.fn.heap (g.H.Host.view l.fn.host) entries → l.classes ≡ map class_of w.bones.classes
      → (left : Pieces) × HasPieces l.reader (g.S.Source.left l.script) left × SoFar l.asked w.bones (pieces bytes) text left l.refused (g.H.Host.view l.host);
  holds : (lang : Language) (entries : Entries) (w : ListWorld) → HoldsCounted lang entries w → g.K.Keep.holds l.fn.heap (g.H.Host.view l.fn.host) entries → l.classes ≡ map class_of w.bones.classes
      → g.K.Keep.holds l.heap (g.H.Host.view l.host) entries;
  live : IsTrue (g.K.Keep.live l.heap);
  spares : Spares (g.H.Host.view l.fn.host) (g.H.Host.view l.host);
  quiet : HostCalls ⊥ ⊥ (g.H.Host.view l.fn.host) (g.H.Host.view l.host);
  reads_on : IsTrue (is_live l.reader);
  reads : RoseIf ⊥ (g.S.Source.faults l.fn.script) (g.S.Source.faults l.script);
}

abbrev pub decreases-pieces : goal.decreases-pieces
decreases-pieces g l = allowed l.reader
