use Rattle.std.proofs.Common.{subst, sym}
use Rattle.ode_run.specs.Contexts.{ContextRuns}
use Rattle.ode_transact.proofs.GoesLaws.{goes_by}
use Rattle.ode_transact.proofs.UsableLaws.{done_usable}
use Rattle.ode_transact.proofs.working.carry.Goals as goal
use Rattle.ode_transact.specs.Going.{Goes}
use Rattle.ode_transact.specs.Working.{work_of}
use Rattle.ode_transact.specs.declared.work.Work.{Work}
use Rattle.ode_value.specs.Pasts.{lists}

pub returns-in-Statement-clause-goes : goal.returns-in-Statement-clause-goes
returns-in-Statement-clause-goes g c = λ l w x is.
    subst (λ (k : Work). Goes c.exec.result (ContextRuns g.H.Host.view g.K.Keep.holds g.K.Keep.live l w c.exec.new.ctx c.exec.new.host) (work_of k lists x)) (sym c.in-Statement.is)
    (goes_by g.H.Host.view g.K.Keep.holds g.K.Keep.live l w c.exec.result _ c.args.ctx.now c.exec.new.ctx c.args.host.now c.exec.new.host x is (c.exec.ensures.runs l w x is) c.exec.ensures.leaves)

pub returns-in-Entry-clause-goes : goal.returns-in-Entry-clause-goes
returns-in-Entry-clause-goes g c = λ l w x is.
    subst (λ (k : Work). Goes c.run_entry.result (ContextRuns g.H.Host.view g.K.Keep.holds g.K.Keep.live l w c.run_entry.new.ctx c.run_entry.new.host) (work_of k lists x)) (sym c.in-Entry.is)
    (c.run_entry.ensures.goes l w x is)

pub returns-in-Tick-clause-goes : goal.returns-in-Tick-clause-goes
returns-in-Tick-clause-goes g c = λ l w x is.
    subst (λ (k : Work). Goes c.run_tick.result (ContextRuns g.H.Host.view g.K.Keep.holds g.K.Keep.live l w c.run_tick.new.ctx c.run_tick.new.host) (work_of k lists x)) (sym c.in-Tick.is)
    (c.run_tick.ensures.goes l w x is)

pub returns-in-Move-clause-faults : goal.returns-in-Move-clause-faults
returns-in-Move-clause-faults g c = λ usable. done_usable tt _ _ usable
