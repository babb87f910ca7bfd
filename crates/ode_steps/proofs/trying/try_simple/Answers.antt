use Rattle.std.proofs.Common.{◌≡◌, ◌∙◌, refl, subst, sym, true}
use Rattle.std.proofs.lemmas.Result.{IfOk-weaker}
use Rattle.ode_language.specs.Languages.{ode}
use Rattle.ode_machine.specs.Interleaving.{literal_objects}
use Rattle.ode_transact.specs.Contexts.{ContextRuns}
use Rattle.ode_schema.specs.Parts.{AreFit}
use Rattle.ode_steps.proofs.TryLaws.{looked_runs}
use Rattle.ode_transact.proofs.DamageLaws.{damaged_so}
use Rattle.ode_value.specs.Transactions.{looking}
use Rattle.ode_steps.proofs.trying.try_simple.Goals as goal

pub try_looked-requires-clause-live : goal.try_looked-requires-clause-live
try_looked-requires-clause-live g c = subst (λ k. g.K.Keep.live k ≡ true) (sym c.look_at_literals.ensures.keeper) c.requires.live

pub try_looked-requires-clause-fit : goal.try_looked-requires-clause-fit
try_looked-requires-clause-fit g c = subst AreFit (sym c.look_at_literals.ensures.same) c.requires.fit

pub returns-in-Ok-clause-tried : goal.returns-in-Ok-clause-tried
returns-in-Ok-clause-tried g c w x own is runs =
    let ids = literal_objects ode c.args.s.now in
    c.try_looked.ensures.tried w x own is (looked_runs (λ ctx. ContextRuns g.H.Host.view g.K.Keep.holds g.K.Keep.live ode w ctx c.args.host.now (looking ids x)) c.args.ctx c.look_at_literals.new.ctx ids ids refl c.in-Ok.ensures.looked (c.contexts_look.ensures ode w c.args.ctx c.args.host.now x ids runs))

pub returns-in-Ok-clause-parts : goal.returns-in-Ok-clause-parts
returns-in-Ok-clause-parts g c = IfOk-weaker c.try_looked.result _ _ (λ t is. is ∙ c.look_at_literals.ensures.same) c.try_looked.ensures.parts

pub returns-in-Ok-clause-undamaged : goal.returns-in-Ok-clause-undamaged
returns-in-Ok-clause-undamaged g c =
    damaged_so c.try_looked.result _ _ (λ never w x runs.
    let ids = literal_objects ode c.args.s.now in
    never w (looking ids x) (looked_runs (λ ctx. ContextRuns g.H.Host.view g.K.Keep.holds g.K.Keep.live ode w ctx c.args.host.now (looking ids x)) c.args.ctx c.look_at_literals.new.ctx ids ids refl c.in-Ok.ensures.looked (c.contexts_look.ensures ode w c.args.ctx c.args.host.now x ids runs))) c.try_looked.ensures.undamaged
