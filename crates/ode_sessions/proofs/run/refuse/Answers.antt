use Rattle.std.proofs.Common.{Bool, true}
use Rattle.std.proofs.lemmas.Result.{err_from_is_err_and}
use Rattle.ode_ends.proofs.CallLaws.{answer_quiet, damage_as, error_told, quiet_answer}
use Rattle.ode_sessions.proofs.run.refuse.Goals as goal

pub returns-clause-leaves : goal.returns-clause-leaves
returns-clause-leaves g c = quiet_answer true _ _ (answer_quiet tt _ _ c.in_ok-say.ensures.leaves)

pub returns-in_err-say-clause-leaves : goal.returns-in_err-say-clause-leaves
returns-in_err-say-clause-leaves g c =
    let p = err_from_is_err_and c.from_residual.result c.from_residual.ensures.1 in
    rw (p.1, p.2) (error_told (Unit {0}) Bool _ _ _ c.in_err-say.ensures.leaves)

pub returns-in_err-say-clause-sound : goal.returns-in_err-say-clause-sound
returns-in_err-say-clause-sound g c =
    let p = err_from_is_err_and c.from_residual.result c.from_residual.ensures.1 in
    rw (p.1, p.2) (damage_as (Unit {0}) Bool _ ⊥ c.in_err-say.ensures.sound)
