use Rattle.std.proofs.Common.{arith}
use Rattle.std.proofs.lemmas.Result.{err_from_is_err_and}
use Rattle.ode_types.specs.Checks.{through}
use Rattle.ode_types.proofs.TurnLaws.{through-end, through-stop}
use Rattle.ode_evolve.specs.Evolving.{knows_field}
use Rattle.ode_evolve.proofs.changing.needs_fields.Goals as goal

pub returns-in_err-needs_field : goal.returns-in_err-needs_field
returns-in_err-needs_field c =
    let check = knows_field c.args.seen.now in
    let p = err_from_is_err_and c.from_residual.result c.from_residual.ensures.1 in
    rw (p.1, p.2) (through-stop check (through check tt c.args.fields.now) tt tt tt c.args.fields.now c.loop-field.field-index c.field-item.result c.in_err-needs_field.field-0.0
    c.loop-field-test.true c.field-item.is c.loop-field.invariant c.in_err-needs_field.ensures)

pub returns : goal.returns
returns c =
    let check = knows_field c.args.seen.now in
    through-end check (through check tt c.args.fields.now) tt c.args.fields.now c.loop-field.field-index (omega arith) c.loop-field.invariant
