use Rattle.std.proofs.Common.{rules, ◌∙◌, ap, sym}
use Rattle.ode_run.specs.Knowing.{deferred_as}
use Rattle.ode_schema.specs.Parts.{trigger_under}
use Rattle.ode_states.specs.declared.fired.Fired.{Fired}
use Rattle.ode_transact.proofs.EntryLaws.{classes_now, fires_none, fires_some, none_of, some_of}
use Rattle.ode_transact.proofs.GoesLaws.{aborted_here, goes_as, goes_by}
use Rattle.ode_transact.proofs.UsableLaws.{aborted_usable, wanted_usable}
use Rattle.ode_transact.proofs.working.fire_entry.Goals as goal
use Rattle.ode_transact.specs.Working.{entry_of}
use Rattle.ode_value.specs.Executing.{first_actions}
use Rattle.ode_value.specs.Pasts.{lists}
use Rattle.ode_value.specs.Posting.{runs}
use Rattle.ode_value.specs.declared.reason.Reason.TheVariants.{NoObject}

pub returns-then-not-is_declared-clause-goes : goal.returns-then-not-is_declared-clause-goes
returns-then-not-is_declared-clause-goes g c = λ l w x is.
    let ctx = c.args.ctx.now in
    let e = entry_of c.args.entry.now in
    aborted_here (Unit {0}) _ _ (NoObject 0) x
    (fires_none ctx.classes x (classes_now g.H.Host.view g.K.Keep.holds g.K.Keep.live l w ctx c.args.host.now x is) e (none_of (trigger_under ctx.classes e.class e.trigger) (sym c.is_declared.ensures ∙ c.if-not-is_declared.true))) is

pub returns-then-not-is_declared-clause-faults : goal.returns-then-not-is_declared-clause-faults
returns-then-not-is_declared-clause-faults g c = λ usable. aborted_usable (Unit {0}) (NoObject 0) _ _ usable

pub returns-in_err-f-clause-faults : goal.returns-in_err-f-clause-faults
returns-in_err-f-clause-faults g c = λ usable. wanted_usable c.from_residual.result _ _ (search rules) usable

pub returns-clause-goes : goal.returns-clause-goes
returns-clause-goes g c = λ l w x is.
    let ctx = c.args.ctx.now in
    let e = entry_of c.args.entry.now in
    let there = some_of (trigger_under ctx.classes e.class e.trigger) (sym c.is_declared.ensures ∙ c.if-not-is_declared.false) in
    let act = fires_some ctx.classes x (classes_now g.H.Host.view g.K.Keep.holds g.K.Keep.live l w ctx c.args.host.now x is) e there.0 there.1 in
    let fired = ap (λ (f : Fired). runs (first_actions lists) (deferred_as ctx.classes (e.object, f)) x) (sym c.in_ok-f.ensures) in
    goes_as c.fire_now.result _ _ _ (act ∙ fired)
    (goes_by g.H.Host.view g.K.Keep.holds g.K.Keep.live l w c.fire_now.result _ ctx c.fire_now.new.ctx c.args.host.now c.fire_now.new.host x is (c.fire_now.ensures.runs l w x is) c.fire_now.ensures.leaves)
