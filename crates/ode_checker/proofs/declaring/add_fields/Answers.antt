use Rattle.std.proofs.Common.{arith}
use Rattle.std.proofs.lemmas.Result.{err_from_is_err_and}
use Rattle.ode_types.specs.Checks.{through}
use Rattle.ode_types.specs.Declaring.{adds}
use Rattle.ode_types.proofs.TurnLaws.{through-end, through-stop}
use Rattle.ode_checker.proofs.declaring.add_fields.Goals as goal

pub returns-in_err-add_field : goal.returns-in_err-add_field
returns-in_err-add_field c =
    let check = adds c.args.known.now c.args.decl.now in
    let p = err_from_is_err_and c.from_residual.result c.from_residual.ensures.1 in
    rw (p.1, p.2) (through-stop check (through check c.args.draft.now c.args.added.now) c.loop-field.draft c.add_field.new.draft c.add_field.new.draft c.args.added.now c.loop-field.field-index c.field-item.result c.in_err-add_field.field-0.0
    c.loop-field-test.true c.field-item.is c.loop-field.invariant c.in_err-add_field.ensures)

pub returns : goal.returns
returns c =
    let check = adds c.args.known.now c.args.decl.now in
    through-end check (through check c.args.draft.now c.args.added.now) c.loop-field.draft c.args.added.now c.loop-field.field-index (omega arith) c.loop-field.invariant
