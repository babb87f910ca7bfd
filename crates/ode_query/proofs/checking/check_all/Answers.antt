use Rattle.std.proofs.Common.{arith}
use Rattle.std.proofs.lemmas.Result.{err_from_is_err_and}
use Rattle.ode_query.proofs.EachLaws.{each_end, each_stop}
use Rattle.ode_query.proofs.checking.check_all.Goals as goal
use Rattle.ode_types.specs.Checks.{each}
use Rattle.ode_types.specs.Variables.{shown_checked}

pub returns-in_err-next : goal.returns-in_err-next
returns-in_err-next c =
    let check = shown_checked c.args.known.now c.args.literals.now c.args.variables.now in
    let p = err_from_is_err_and c.from_residual.result c.from_residual.ensures.1 in
    rw (p.1, p.2) (each_stop check (each check c.args.es.now) c.loop-e.checked c.args.es.now c.loop-e.e-index c.e-item.result c.in_err-next.field-0.0
    c.loop-e-test.true c.e-item.is c.loop-e.invariant c.in_err-next.ensures)

pub returns : goal.returns
returns c =
    let check = shown_checked c.args.known.now c.args.literals.now c.args.variables.now in
    each_end check (each check c.args.es.now) c.loop-e.checked c.args.es.now c.loop-e.e-index (omega arith) c.loop-e.invariant
