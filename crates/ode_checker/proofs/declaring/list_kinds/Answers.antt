use Rattle.std.proofs.Common.{arith}
use Rattle.std.proofs.lemmas.Result.{err_from_is_err_and}
use Rattle.ode_types.specs.Checks.{through}
use Rattle.ode_types.specs.Declaring.{lists}
use Rattle.ode_types.proofs.TurnLaws.{through-end, through-stop}
use Rattle.ode_checker.proofs.declaring.list_kinds.Goals as goal

pub returns-in_err-list_kind : goal.returns-in_err-list_kind
returns-in_err-list_kind c =
    let check = lists c.args.known.now c.args.decl.now in
    let p = err_from_is_err_and c.from_residual.result c.from_residual.ensures.1 in
    rw (p.1, p.2) (through-stop check (through check c.args.draft.now c.args.kinds.now) c.loop-kind.draft c.list_kind.new.draft c.list_kind.new.draft c.args.kinds.now c.loop-kind.kind-index c.kind-item.result c.in_err-list_kind.field-0.0
    c.loop-kind-test.true c.kind-item.is c.loop-kind.invariant c.in_err-list_kind.ensures)

pub returns : goal.returns
returns c =
    let check = lists c.args.known.now c.args.decl.now in
    through-end check (through check c.args.draft.now c.args.kinds.now) c.loop-kind.draft c.args.kinds.now c.loop-kind.kind-index (omega arith) c.loop-kind.invariant
