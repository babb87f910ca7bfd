use Rattle.std.proofs.lemmas.Result.{err_from_is_err_and}
use Rattle.ode_passes.specs.Walking.{within}
use Rattle.ode_value.specs.Keys.{entry_kind}
use Rattle.ode_value.specs.Limits.{queue_limit}
use Rattle.ode_opening_objects.proofs.Checking.{queue_goes, queue_stops}
use Rattle.ode_opening_objects.proofs.objects.check_queue.Goals as goal

pub returns-in_err-walk-clause-meant : goal.returns-in_err-walk-clause-meant
unfolding queue_limit
returns-in_err-walk-clause-meant g c = λ entries holds.
    let p = err_from_is_err_and c.from_residual.result c.from_residual.ensures.1 in
    rw (p.1, p.2) (queue_stops (within entry_kind entry_kind entries) queue_limit c.args.course c.walk.new.pass c.in_err-walk.field-0.0 (c.in_err-walk.ensures.meant entries holds))

pub returns-clause-meant : goal.returns-clause-meant
unfolding queue_limit
returns-clause-meant g c = λ entries holds.
    queue_goes (within entry_kind entry_kind entries) queue_limit c.args.course c.walk.new.pass (c.in_ok-walk.ensures.meant entries holds)
