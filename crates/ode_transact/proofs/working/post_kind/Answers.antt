use Rattle.std.proofs.Common.{rules, ◌∙◌, None, Some, sym}
use Rattle.ode_transact.proofs.EntryLaws.{classes_now, kind_there}
use Rattle.ode_transact.proofs.GoesLaws.{aborted_here, goes_as, goes_by}
use Rattle.ode_transact.proofs.UsableLaws.{aborted_usable, wanted_usable}
use Rattle.ode_transact.proofs.working.post_kind.Goals as goal
use Rattle.ode_value.specs.declared.reason.Reason.TheVariants.{NoObject}

pub returns-in_err-kind-clause-faults : goal.returns-in_err-kind-clause-faults
returns-in_err-kind-clause-faults g c = λ usable. wanted_usable c.from_residual.result _ _ (search rules) usable

pub returns-in-Some-clause-goes : goal.returns-in-Some-clause-goes
returns-in-Some-clause-goes g c = λ l w x is touched.
    let ctx = c.args.ctx.now in
    let act = kind_there ctx.classes x (classes_now g.H.Host.view g.K.Keep.holds g.K.Keep.live l w ctx c.args.host.now x is) c.args.id c.args.place c.args.class (Some c.in-Some.kind) (sym c.in-Some.is ∙ c.in_ok-kind.ensures) in
    goes_as c.post.result _ _ _ act (goes_by g.H.Host.view g.K.Keep.holds g.K.Keep.live l w c.post.result _ ctx c.post.new.ctx c.args.host.now c.post.new.host x is (c.post.ensures.runs l w x is touched) c.post.ensures.leaves)

pub returns-in-None-clause-goes : goal.returns-in-None-clause-goes
returns-in-None-clause-goes g c = λ l w x is touched.
    let ctx = c.args.ctx.now in
    aborted_here (Unit {0}) _ _ (NoObject 0) x
    (kind_there ctx.classes x (classes_now g.H.Host.view g.K.Keep.holds g.K.Keep.live l w ctx c.args.host.now x is) c.args.id c.args.place c.args.class None (sym c.in-None.is ∙ c.in_ok-kind.ensures)) is

pub returns-in-None-clause-faults : goal.returns-in-None-clause-faults
returns-in-None-clause-faults g c = λ usable. aborted_usable (Unit {0}) (NoObject 0) _ _ usable
