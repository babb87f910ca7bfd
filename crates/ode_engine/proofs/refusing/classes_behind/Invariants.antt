use Rattle.std.proofs.Common.{◌≡◌, drop, true}
use Rattle.ode_engine.proofs.RefusingLaws.{with_more}
use Rattle.ode_engine.proofs.ServeLaws.{AreQuiet}
use Rattle.ode_machine.specs.Refusals.{classes_behind}
use Rattle.ode_transact.specs.Contexts.{ContextRuns, parts_of}
use Rattle.ode_value.specs.Language.{Language, ListTx, ListWorld}
use Rattle.ode_engine.proofs.refusing.classes_behind.Given as goal

-- the classes so far and those of what is left are all, and the context still runs; nothing was done but looks, and the keeper may be used
abbrev pub invariant-loop-of : goal.invariant-loop-of
invariant-loop-of g l = record {
  told : (lang : Language) (w : ListWorld) (t : ListTx) → ContextRuns g.H.Host.view g.K.Keep.holds g.K.Keep.live lang w l.fn.ctx l.fn.host t
      → (classes_behind t.now.bones l.refs ≡ with_more l.classes (classes_behind t.now.bones (drop l.of-index l.refs)))
      × ContextRuns g.H.Host.view g.K.Keep.holds g.K.Keep.live lang w l.ctx l.host t;
  live : g.K.Keep.live l.ctx.heap ≡ true;
  quiet : AreQuiet (g.H.Host.view l.fn.host) (g.H.Host.view l.host);
  same : parts_of l.ctx ≡ parts_of l.fn.ctx;
}
