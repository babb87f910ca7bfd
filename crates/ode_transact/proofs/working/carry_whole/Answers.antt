use Rattle.std.proofs.Common.{rules}
use Rattle.ode_run.specs.Contexts.{ContextRuns}
use Rattle.ode_transact.proofs.GoesLaws.{goes_by, goes_then, stops}
use Rattle.ode_transact.proofs.UsableLaws.{stops_usable, then_usable}
use Rattle.ode_transact.proofs.working.carry_whole.Goals as goal
use Rattle.ode_transact.specs.Working.{work_of}
use Rattle.ode_value.specs.Completing.{completes}
use Rattle.ode_value.specs.Pasts.{lists}

pub returns-in_err-carry-clause-goes : goal.returns-in_err-carry-clause-goes
returns-in_err-carry-clause-goes g c = λ l w x is.
    stops (Unit {0}) (Unit {0}) c.from_residual.result c.in_err-carry.field-0.0 (search rules) _ (work_of c.args.work lists x) (λ _. completes lists) (c.in_err-carry.ensures.goes l w x is)

pub returns-in_err-carry-clause-faults : goal.returns-in_err-carry-clause-faults
returns-in_err-carry-clause-faults g c = λ usable.
    stops_usable (Unit {0}) (Unit {0}) c.from_residual.result c.in_err-carry.field-0.0 (search rules) _ _ _ (c.in_err-carry.ensures.faults usable)

pub returns-clause-goes : goal.returns-clause-goes
returns-clause-goes g c = λ l w x is.
    goes_then c.in_ok-carry.field-0 c.complete.result (ContextRuns g.H.Host.view g.K.Keep.holds g.K.Keep.live l w c.carry.new.ctx c.carry.new.host) _ (work_of c.args.work lists x) (λ _. completes lists)
    (c.in_ok-carry.ensures.goes l w x is)
    (λ y at now. goes_by g.H.Host.view g.K.Keep.holds g.K.Keep.live l w c.complete.result _ c.carry.new.ctx c.complete.new.ctx c.carry.new.host c.complete.new.host y now (c.complete.ensures.runs l w y now) c.complete.ensures.leaves)

pub returns-clause-faults : goal.returns-clause-faults
returns-clause-faults g c = λ usable.
    then_usable c.in_ok-carry.field-0 c.complete.result _ _ _ (g.H.Host.view c.carry.new.host) _ (c.in_ok-carry.ensures.faults usable) c.complete.ensures.faults
