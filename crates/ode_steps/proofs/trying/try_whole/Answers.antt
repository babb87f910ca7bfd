use Rattle.ode_language.specs.Languages.{ode}
use Rattle.ode_engine.proofs.FaultLaws.{damaged_as}
use Rattle.ode_transact.specs.Contexts.{ContextRuns}
use Rattle.ode_steps.proofs.LookLaws.{rose_error, rose_ok}
use Rattle.ode_steps.proofs.TryLaws.{tried_ends}
use Rattle.ode_steps.proofs.trying.try_whole.Goals as goal

pub returns-in-Ok-clause-tried : goal.returns-in-Ok-clause-tried
returns-in-Ok-clause-tried g c w x before runs =
    tried_ends before (λ ctx. ContextRuns g.H.Host.view g.K.Keep.holds g.K.Keep.live ode w ctx c.run.new.host) c.run.new.ctx c.in-Ok.ending _ (c.in-Ok.ensures.runs ode w x runs)

pub returns-in-Ok-clause-usable : goal.returns-in-Ok-clause-usable
returns-in-Ok-clause-usable g c = c.in-Ok.ensures.usable c.requires.live

pub returns-in-Ok-clause-looks : goal.returns-in-Ok-clause-looks
returns-in-Ok-clause-looks g c = c.in-Ok.ensures.looks c.requires.live

pub returns-in-Ok-clause-cause : goal.returns-in-Ok-clause-cause
returns-in-Ok-clause-cause g c = rose_ok _ _ _ _ (λ is. cc (is)) (c.in-Ok.ensures.cause c.requires.live)

pub returns-in-Err-clause-looks : goal.returns-in-Err-clause-looks
returns-in-Err-clause-looks g c = c.in-Err.ensures.looks c.requires.live

pub returns-in-Err-clause-cause : goal.returns-in-Err-clause-cause
returns-in-Err-clause-cause g c = rose_error c.in-Err.error _ _ _ (λ is. cc (is)) (λ is. cc (is)) (c.in-Err.ensures.cause c.requires.live)

pub returns-in-Err-clause-silent : goal.returns-in-Err-clause-silent
returns-in-Err-clause-silent g c = λ is. c.in-Err.ensures.silent (cc (is))

pub returns-in-Err-clause-undamaged : goal.returns-in-Err-clause-undamaged
returns-in-Err-clause-undamaged g c = damaged_as c.in-Err.error _ _ c.in-Err.ensures.undamaged (λ never w x runs. never ode w x runs)
