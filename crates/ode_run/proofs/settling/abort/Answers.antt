use Rattle.std.proofs.Common.{◌≡◌, ◌∙◌, IfOk, ap, refl, subst}
use Rattle.ode_run.proofs.ContextLaws.{stays_context}
use Rattle.ode_run.proofs.ServeLaws.{usable_taken}
use Rattle.ode_run.proofs.SettleLaws.{points_behind, taken_context}
use Rattle.ode_run.proofs.settling.abort.Goals as goal
use Rattle.ode_run.specs.Contexts.{IsContext, LeavesOpen, tables_in, tables_of, tx_of}
use Rattle.ode_run.specs.Knowing.{beside}
use Rattle.ode_run.specs.declared.context.Ctx.{Ctx}
use Rattle.ode_schema.specs.Parts.{Parts}
use Rattle.ode_value.specs.Firings.{whole_list}
use Rattle.ode_value.specs.Pasts.{numbers}
use Rattle.ode_value.specs.Settling.{posted}
use Rattle.ode_value.specs.declared.event.Kind.TheVariants.{TAbort}

pub returns-clause-acts : goal.returns-clause-acts
returns-clause-acts g c = λ entries first context.
    let before = c.args.ctx.now in
    let back = c.take_back.new.ctx in
    let after : Ctx g.row.K.Denot = record { classes = back.classes; tables = back.tables; alphabets = back.alphabets; maps = back.maps; heap = c.abort_over.new.heap; overlay = c.abort_over.new.overlay; deferred = c.abort_over.new.deferred; text = c.abort_over.new.text; depth = back.depth; budget = c.abort_over.new.budget; bytes = back.bytes } in
    let known = c.rewinds_known.ensures first.bones.classes first (beside first before.deferred before.text before.budget) entries before.overlay context.state.known (tables_of before) in
    let taken = taken_context g.H.Host.view g.K.Keep.holds g.K.Keep.live entries first before back c.args.host.now c.take_back.new.host context c.in_ok-take_back.ensures.acts c.take_back.ensures.host known.1 in
    points_behind g.H.Host.view g.K.Keep.holds g.K.Keep.live entries first before back c.args.host.now c.take_back.new.host context c.in_ok-take_back.ensures.acts after c.abort_over.result known.0
    (subst (λ (p : Parts). IfOk c.abort_over.result (λ _. tx_of first after ≡ posted (numbers (tables_in p)) (whole_list (numbers (tables_in p))) TAbort (tx_of first back))) c.new-program.ensures
    (c.abort_over.ensures.acts entries first (ap (λ (p : Parts). p.classes) c.new-program.ensures ∙ taken.classes) taken.state))

pub returns-clause-leaves : goal.returns-clause-leaves
returns-clause-leaves g c = λ entries first context.
    let before = c.args.ctx.now in
    let back = c.take_back.new.ctx in
    let after : Ctx g.row.K.Denot = record { classes = back.classes; tables = back.tables; alphabets = back.alphabets; maps = back.maps; heap = c.abort_over.new.heap; overlay = c.abort_over.new.overlay; deferred = c.abort_over.new.deferred; text = c.abort_over.new.text; depth = back.depth; budget = c.abort_over.new.budget; bytes = back.bytes } in
    let known = c.rewinds_known.ensures first.bones.classes first (beside first before.deferred before.text before.budget) entries before.overlay context.state.known (tables_of before) in
    let taken = taken_context g.H.Host.view g.K.Keep.holds g.K.Keep.live entries first before back c.args.host.now c.take_back.new.host context c.in_ok-take_back.ensures.acts c.take_back.ensures.host known.1 in
    subst (λ (h : g.row.H.Denot). LeavesOpen c.abort_over.result (IsContext g.H.Host.view g.K.Keep.holds g.K.Keep.live entries first after c.abort_over.new.host) (g.H.Host.view h) (g.H.Host.view c.abort_over.new.host)) c.take_back.ensures.host
    (stays_context g.H.Host.view g.K.Keep.holds g.K.Keep.live entries first c.abort_over.result (g.H.Host.view c.take_back.new.host) back after c.take_back.new.host c.abort_over.new.host taken refl refl
    (c.abort_over.ensures.leaves entries first (ap (λ (p : Parts). p.classes) c.new-program.ensures ∙ taken.classes) taken.state))

pub returns-clause-faults : goal.returns-clause-faults
returns-clause-faults g c = λ usable.
    usable_taken g.H.Host.view g.K.Keep.live c.args.host.now c.take_back.new.host c.take_back.ensures.host c.args.ctx.now c.take_back.new.ctx c.in_ok-take_back.ensures.acts c.abort_over.result (g.K.Keep.live c.abort_over.new.heap) (g.H.Host.view c.abort_over.new.host) usable c.abort_over.ensures.faults
