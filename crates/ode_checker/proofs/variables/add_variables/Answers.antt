use Rattle.std.proofs.Common.{arith}
use Rattle.std.proofs.lemmas.Result.{err_from_is_err_and}
use Rattle.ode_types.specs.Checks.{through}
use Rattle.ode_types.specs.Variables.{with_variable}
use Rattle.ode_types.proofs.TurnLaws.{through-end, through-stop}
use Rattle.ode_checker.proofs.variables.add_variables.Goals as goal

pub returns-in_err-add_variable : goal.returns-in_err-add_variable
returns-in_err-add_variable c =
    let check = with_variable c.args.known.now in
    let p = err_from_is_err_and c.from_residual.result c.from_residual.ensures.1 in
    rw (p.1, p.2) (through-stop check (through check c.args.variables.now c.args.over.now) c.loop-range.variables c.add_variable.new.variables c.add_variable.new.variables c.args.over.now c.loop-range.range-index c.range-item.result c.in_err-add_variable.field-0.0
    c.loop-range-test.true c.range-item.is c.loop-range.invariant c.in_err-add_variable.ensures)

pub returns : goal.returns
returns c =
    let check = with_variable c.args.known.now in
    through-end check (through check c.args.variables.now c.args.over.now) c.loop-range.variables c.args.over.now c.loop-range.range-index (omega arith) c.loop-range.invariant
