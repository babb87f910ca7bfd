use Rattle.std.proofs.Common.{arith}
use Rattle.std.proofs.lemmas.Result.{err_from_is_err_and}
use Rattle.ode_types.specs.Checks.{through}
use Rattle.ode_types.specs.Declaring.{declares}
use Rattle.ode_types.proofs.TurnLaws.{through-end, through-stop}
use Rattle.ode_checker.proofs.declaring.declare_all.Goals as goal

pub returns-in_err-declare : goal.returns-in_err-declare
returns-in_err-declare c =
    let check = declares c.args.known.now c.args.decl.now in
    let p = err_from_is_err_and c.from_residual.result c.from_residual.ensures.1 in
    rw (p.1, p.2) (through-stop check (through check c.args.draft.now c.args.members.now) c.loop-member.draft c.declare.new.draft c.declare.new.draft c.args.members.now c.loop-member.member-index c.member-item.result c.in_err-declare.field-0.0
    c.loop-member-test.true c.member-item.is c.loop-member.invariant c.in_err-declare.ensures)

pub returns : goal.returns
returns c =
    let check = declares c.args.known.now c.args.decl.now in
    through-end check (through check c.args.draft.now c.args.members.now) c.loop-member.draft c.args.members.now c.loop-member.member-index (omega arith) c.loop-member.invariant
