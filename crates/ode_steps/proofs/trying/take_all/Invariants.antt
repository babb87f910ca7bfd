use Rattle.std.proofs.Common.{◌≡◌, drop, true}
use Rattle.ode_engine.proofs.ServeLaws.{AreQuiet}
use Rattle.ode_holders.specs.Opens.{taken_all}
use Rattle.ode_language.specs.Languages.{ode}
use Rattle.ode_machine.specs.Interleaving.{takes}
use Rattle.ode_transact.specs.Contexts.{ContextRuns, parts_of}
use Rattle.ode_value.specs.Acts.{each, reached}
use Rattle.ode_value.specs.Language.{ListTx, ListWorld}
use Rattle.ode_steps.proofs.trying.take_all.Given as goal

-- what is left of the statements leads from here to where all of them do; nothing was done but looks, and the keeper may be used
abbrev pub invariant-loop-one : goal.invariant-loop-one
invariant-loop-one g l = record {
  told : (w : ListWorld) (x : ListTx) → ContextRuns g.H.Host.view g.K.Keep.holds g.K.Keep.live ode w l.fn.ctx l.fn.host x
      → (y : ListTx) × ContextRuns g.H.Host.view g.K.Keep.holds g.K.Keep.live ode w l.ctx l.host y
      × (reached (each takes (taken_all (drop l.one-index l.taken)) y) ≡ reached (each takes (taken_all l.taken) x));
  live : g.K.Keep.live l.ctx.heap ≡ true;
  quiet : AreQuiet (g.H.Host.view l.fn.host) (g.H.Host.view l.host);
  same : parts_of l.ctx ≡ parts_of l.fn.ctx;
}
