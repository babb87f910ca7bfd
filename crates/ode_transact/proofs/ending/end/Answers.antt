use Rattle.std.proofs.Common.{rules, ◌∙◌, refl}
use Rattle.ode_good_laws.specs.Well.{IsWell}
use Rattle.ode_host.proofs.Moments.{joined}
use Rattle.ode_machine.specs.Moments.{LeavesSettling}
use Rattle.ode_opened.specs.declared.opened.Opened.{Opened}
use Rattle.ode_run.specs.Contexts.{ContextRuns}
use Rattle.ode_transact.proofs.BeginLaws.{damaged_before}
use Rattle.ode_transact.proofs.DamageLaws.{damaged_so}
use Rattle.ode_transact.proofs.EndingLaws.{before_leaves, fails_as, looks_leave, looks_then, none_rose, parts_behind, printed_behind}
use Rattle.ode_transact.proofs.LogLaws.{disk_looks}
use Rattle.ode_transact.specs.Output.{heard_of}
use Rattle.ode_transact.specs.Resting.{HoldsBy}
use Rattle.ode_transact.specs.Working.{settled_by}
use Rattle.ode_transact.specs.declared.ending.Prepared.{Prepared}
use Rattle.ode_transact.proofs.ending.end.Goals as goal
use Rattle.ode_value.specs.Language.{Language, ListTx, ListWorld}

pub returns-in_err-prepared-clause-any_moment : goal.returns-in_err-prepared-clause-any_moment
returns-in_err-prepared-clause-any_moment g c = λ l w t said well runs behind printed.
    let s = heard_of c.args.output.now.quiet (settled_by c.args.ending t) in
    looks_leave (g.H.Host.view c.args.host.now) _ (LeavesSettling (HoldsBy l g.K.Keep.means) w s.0 said s.1)
    (before_leaves l g.K.Keep.means runs.entries w s.0 said s.1 (g.H.Host.view c.args.host.now) (g.met.K.Keep.stands c.args.ctx.heap c.args.host.now runs.entries runs.context.state.records)
    (g.met.H.Host.text_stands c.args.host.now) printed runs.world well.ones)
    c.prepare.ensures.looks

pub returns-in_err-prepared-clause-leaves : goal.returns-in_err-prepared-clause-leaves
returns-in_err-prepared-clause-leaves g c =
    fails_as c.prepare.result c.from_residual.result c.in_err-prepared.field-0.0 _ _ (search rules) (search rules) c.prepare.ensures.looks c.prepare.ensures.cause c.prepare.ensures.silent

pub returns-in_err-prepared-clause-undamaged : goal.returns-in_err-prepared-clause-undamaged
returns-in_err-prepared-clause-undamaged g c =
    let Before : Type 0 = (l : Language) (w : ListWorld) (t : ListTx) → ContextRuns g.H.Host.view g.K.Keep.holds g.K.Keep.live l w c.args.ctx c.args.host.now t → ⊥ in
    let Undamaged : Type 0 = (l : Language) (w : ListWorld) (t : ListTx) → ContextRuns g.H.Host.view g.K.Keep.holds g.K.Keep.live l w c.args.ctx c.args.host.now t → IsWell l (settled_by c.args.ending t).0 → ⊥ in
    damaged_before Prepared (Opened g.row.K.Denot) c.from_residual.result c.in_err-prepared.field-0.0 (search rules) Before Undamaged (λ damaged l w t runs well. damaged l w t runs) c.in_err-prepared.ensures.undamaged

pub returns-clause-done : goal.returns-clause-done
returns-clause-done g c = λ l w t runs well. c.conclude.ensures.done l w t c.args.ending (c.in_ok-prepared.ensures.prepared l w t runs) well

pub returns-clause-printed : goal.returns-clause-printed
returns-clause-printed g c = λ l w t runs.
    printed_behind c.conclude.result _ _ (g.H.Host.view c.args.host.now) (g.H.Host.view c.prepare.new.host) (g.H.Host.view c.conclude.new.host) c.prepare.ensures.looks refl
    (c.conclude.ensures.printed l w t c.args.ending (c.in_ok-prepared.ensures.prepared l w t runs))

pub returns-clause-counts : goal.returns-clause-counts
returns-clause-counts g c = λ l w t runs. c.conclude.ensures.counts l w t c.args.ending (c.in_ok-prepared.ensures.prepared l w t runs)

pub returns-clause-any_moment : goal.returns-clause-any_moment
returns-clause-any_moment g c = λ l w t said well runs behind printed.
    let s = heard_of c.args.output.now.quiet (settled_by c.args.ending t) in
    joined (g.H.Host.view c.args.host.now) (g.H.Host.view c.prepare.new.host) (g.H.Host.view c.conclude.new.host) (LeavesSettling (HoldsBy l g.K.Keep.means) w s.0 said s.1)
    (looks_leave (g.H.Host.view c.args.host.now) _ (LeavesSettling (HoldsBy l g.K.Keep.means) w s.0 said s.1)
    (before_leaves l g.K.Keep.means runs.entries w s.0 said s.1 (g.H.Host.view c.args.host.now) (g.met.K.Keep.stands c.args.ctx.heap c.args.host.now runs.entries runs.context.state.records)
    (g.met.H.Host.text_stands c.args.host.now) printed runs.world well.ones)
    c.prepare.ensures.looks)
    (c.conclude.ensures.any_moment l w t c.args.ending said well (c.in_ok-prepared.ensures.prepared l w t runs) behind (c.prepare.ensures.looks.text ∙ printed))

pub returns-clause-parts : goal.returns-clause-parts
returns-clause-parts g c = parts_behind c.conclude.result _ _ c.prepare.ensures.same c.conclude.ensures.parts

pub returns-clause-leaves : goal.returns-clause-leaves
returns-clause-leaves g c =
    looks_then _ _ (g.H.Host.view c.args.host.now) (g.H.Host.view c.prepare.new.host) (g.H.Host.view c.conclude.new.host) c.prepare.ensures.looks
    (none_rose _ _ _ (λ failed. cc (failed)) c.in_ok-prepared.ensures.cause)
    c.conclude.ensures.leaves

pub returns-clause-undamaged : goal.returns-clause-undamaged
returns-clause-undamaged g c =
    let Undamaged : Type 0 = (l : Language) (w : ListWorld) (t : ListTx) → ContextRuns g.H.Host.view g.K.Keep.holds g.K.Keep.live l w c.args.ctx c.args.host.now t → IsWell l (settled_by c.args.ending t).0 → ⊥ in
    damaged_so c.conclude.result _ Undamaged (λ damaged l w t runs well. damaged l w t c.args.ending (c.in_ok-prepared.ensures.prepared l w t runs) well) c.conclude.ensures.undamaged

pub returns-clause-logs : goal.returns-clause-logs
returns-clause-logs g c = λ l w t entries runs well disk.
    c.conclude.ensures.logs l w t c.args.ending entries (c.in_ok-prepared.ensures.prepared l w t runs) well (disk_looks g.K.Keep.means entries (g.H.Host.view c.args.host.now) (g.H.Host.view c.prepare.new.host) c.prepare.ensures.looks disk)
