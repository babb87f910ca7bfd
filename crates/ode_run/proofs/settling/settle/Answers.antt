use Rattle.std.proofs.Common.{true, false, rules}
use Rattle.std.proofs.lemmas.Result.{IfOk-weaker}
use Rattle.ode_run.proofs.MetLaws.{left_met}
use Rattle.ode_run.proofs.ServeLaws.{usable_behind, usable_too}
use Rattle.ode_run.proofs.SettleLaws.{leaves_behind, leaves_too, numbered_by, points_stored, runs_stored, settled_by}
use Rattle.ode_run.proofs.settling.settle.Goals as goal
use Rattle.ode_run.specs.Contexts.{tables_of, tx_of}
use Rattle.ode_run.specs.Knowing.{beside}
use Rattle.ode_value.specs.Pasts.{lists}
use Rattle.ode_value.specs.Settling.{abort, commit}
use Rattle.ode_value.specs.Texts.{aborted_line, committed_line}
use Rattle.ode_keep.specs.Entries.{applied}

pub returns-clause-commit : goal.returns-clause-commit
returns-clause-commit g c = λ l w x is kept.
    let first = is.world.world.stored.world in
    let before = c.args.ctx.now in
    let after = c.end.new.ctx in
    let left = c.in_ok-end.ensures.leaves is.entries first is.context in
    let known = left.stays.state.known in
    let law = g.met.K.Keep.stands before.heap c.args.host.now is.entries is.context.state.records in
    let rising = g.met.K.Keep.rising law.0 is.entries law.2 in
    let points = points_stored g.H.Host.view g.K.Keep.holds g.K.Keep.live l w before after c.args.host.now x is true c.args.kept kept (c.in_ok-end.ensures.acts is.entries first is.context) in
    IfOk-weaker c.changes.result _ _ (λ batch stands.
    settled_by g.H.Host.view g.K.Keep.holds g.K.Keep.live l w before after c.args.host.now x is after.classes after.overlay (applied batch is.entries) after.text (committed_line w.bones.transaction) (commit lists x) left.stays.classes
    (c.transactions_settle_over_records.ensures.commit l is.entries batch w is.world before.overlay after.overlay (beside first before.deferred before.text before.budget) (beside first after.deferred after.text after.budget) x
    rising (runs_stored g.H.Host.view g.K.Keep.holds g.K.Keep.live l w before after c.args.host.now x is) points known.viewed.over known.remembers (numbered_by first.bones.classes first after.overlay (beside first after.deferred after.text after.budget) known.numbered) known.formed (stands is.entries))) c.changes.ensures.stands

pub returns-clause-abort : goal.returns-clause-abort
returns-clause-abort g c = λ l w x is reason kept.
    let first = is.world.world.stored.world in
    let before = c.args.ctx.now in
    let after = c.end.new.ctx in
    let left = c.in_ok-end.ensures.leaves is.entries first is.context in
    let known = left.stays.state.known in
    let law = g.met.K.Keep.stands before.heap c.args.host.now is.entries is.context.state.records in
    let rising = g.met.K.Keep.rising law.0 is.entries law.2 in
    let points = points_stored g.H.Host.view g.K.Keep.holds g.K.Keep.live l w before after c.args.host.now x is false c.args.kept kept (c.in_ok-end.ensures.acts is.entries first is.context) in
    IfOk-weaker c.changes.result _ _ (λ batch stands.
    settled_by g.H.Host.view g.K.Keep.holds g.K.Keep.live l w before after c.args.host.now x is after.classes after.overlay (applied batch is.entries) after.text (aborted_line w.bones.transaction reason) (abort lists reason x) left.stays.classes
    (c.transactions_settle_over_records.ensures.abort l is.entries batch w is.world before.overlay after.overlay (beside first before.deferred before.text before.budget) (beside first after.deferred after.text after.budget) reason x
    rising (runs_stored g.H.Host.view g.K.Keep.holds g.K.Keep.live l w before after c.args.host.now x is) points known.viewed.over known.remembers (numbered_by first.bones.classes first after.overlay (beside first after.deferred after.text after.budget) known.numbered) known.formed (stands is.entries))) c.changes.ensures.stands

pub returns-clause-leaves : goal.returns-clause-leaves
returns-clause-leaves g c = λ entries first context.
    leaves_behind _ (g.H.Host.view c.args.host.now) (g.H.Host.view c.end.new.host) tt c.changes.result c.changes.ensures.memory (c.in_ok-end.ensures.leaves entries first context)

pub returns-in_err-end-clause-leaves : goal.returns-in_err-end-clause-leaves
returns-in_err-end-clause-leaves g c = λ entries first context.
    leaves_too _ (g.H.Host.view c.args.host.now) (g.H.Host.view c.end.new.host) c.end.result c.from_residual.result c.in_err-end.field-0.0 (search rules) (search rules) (c.end.ensures.leaves entries first context)

pub returns-clause-acts : goal.returns-clause-acts
returns-clause-acts g c = λ entries first context. IfOk-weaker c.changes.result _ _ (λ batch stands. c.in_ok-end.ensures.acts entries first context) c.changes.ensures.stands

pub returns-clause-faults : goal.returns-clause-faults
returns-clause-faults g c = λ usable.
    usable_behind (g.K.Keep.live c.end.new.ctx.heap) (g.H.Host.view c.args.host.now) (g.H.Host.view c.end.new.host) tt c.changes.result c.changes.ensures.memory (c.in_ok-end.ensures.faults usable)

pub returns-in_err-end-clause-faults : goal.returns-in_err-end-clause-faults
returns-in_err-end-clause-faults g c = λ usable.
    usable_too (g.K.Keep.live c.end.new.ctx.heap) (g.H.Host.view c.args.host.now) (g.H.Host.view c.end.new.host) c.end.result c.from_residual.result c.in_err-end.field-0.0 (search rules) (search rules) (c.end.ensures.faults usable)

pub returns-clause-met : goal.returns-clause-met
returns-clause-met g c = λ l w x ending is kept.
    let first = is.world.world.stored.world in
    let before = c.args.ctx.now in
    let left = left_met (tables_of before) (tx_of first before) x is.runs (tx_of first c.end.new.ctx) ending c.args.kept (c.in_ok-end.ensures.acts is.entries first is.context) kept in
    IfOk-weaker c.changes.result _ _ (λ batch stands. left) c.changes.ensures.stands
