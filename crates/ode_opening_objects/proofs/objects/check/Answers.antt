use Rattle.std.proofs.lemmas.Result.{err_from_is_err_and}
use Rattle.ode_passes.specs.Walking.{within}
use Rattle.ode_opening_objects.proofs.Checking.{check_goes, check_stops}
use Rattle.ode_opening_objects.proofs.objects.check.Goals as goal

pub returns-in_err-walk-clause-meant : goal.returns-in_err-walk-clause-meant
returns-in_err-walk-clause-meant g c = λ entries holds.
    let p = err_from_is_err_and c.from_residual.result c.from_residual.ensures.1 in
    rw (p.1, p.2) (check_stops (within c.args.kind c.args.kind entries) (record { rule = c.args.rule; course = c.args.course }) c.walk.new.pass c.in_err-walk.field-0.0
    (c.in_err-walk.ensures.meant entries holds))

pub returns-clause-meant : goal.returns-clause-meant
returns-clause-meant g c = λ entries holds.
    check_goes (within c.args.kind c.args.kind entries) (record { rule = c.args.rule; course = c.args.course }) c.walk.new.pass (c.in_ok-walk.ensures.meant entries holds)
