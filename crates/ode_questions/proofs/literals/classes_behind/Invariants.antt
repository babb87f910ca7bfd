use Rattle.std.proofs.Common.{◌≡◌, IsTrue, None, drop}
use Rattle.ode_heap_laws.specs.Few.{HoldsCounted}
use Rattle.ode_keep.specs.Entries.{Entries}
use Rattle.ode_machine.specs.Refusals.{classes_behind}
use Rattle.ode_run_frame.specs.Knowing.{Since}
use Rattle.ode_value.specs.Language.{Language, ListWorld}
use Rattle.ode_questions.proofs.LiteralLaws.{with_more}
use Rattle.ode_questions.proofs.literals.classes_behind.Given as goal

-- the classes so far and those of what is left are all; nothing was done but looks, and the keeper may be used
abbrev pub invariant-loop-of : goal.invariant-loop-of
invariant-loop-of g l = record {
  told : (lang : Language) (entries : Entries) (w : ListWorld) → HoldsCounted lang entries w → g.K.Keep.holds l.fn.heap (g.H.Host.view l.fn.host) entries
      → (classes_behind w.bones l.refs ≡ with_more l.classes (classes_behind w.bones (drop l.of-index l.refs))) × g.K.Keep.holds l.heap (g.H.Host.view l.host) entries;
  live : IsTrue (g.K.Keep.live l.heap);
  since : Since (g.H.Host.view l.fn.host) (g.H.Host.view l.host) (g.K.Keep.live l.heap) None;
}
