use Rattle.std.proofs.Common.{arith}
use Rattle.std.proofs.lemmas.Result.{err_from_is_err_and}
use Rattle.ode_types.specs.Checks.{through}
use Rattle.ode_types.proofs.TurnLaws.{through-end, through-stop}
use Rattle.ode_evolve.specs.Evolving.{declares_next}
use Rattle.ode_evolve.proofs.changing.declare_all.Goals as goal

pub returns-in_err-declare_next : goal.returns-in_err-declare_next
returns-in_err-declare_next c =
    let check = declares_next c.args.added.now in
    let p = err_from_is_err_and c.from_residual.result c.from_residual.ensures.1 in
    rw (p.1, p.2) (through-stop check (through check c.args.known.now c.args.decls.now) c.loop-decl.known c.declare_next.new.known c.declare_next.new.known c.args.decls.now c.loop-decl.decl-index c.decl-item.result c.in_err-declare_next.field-0.0
    c.loop-decl-test.true c.decl-item.is c.loop-decl.invariant c.in_err-declare_next.ensures)

pub returns : goal.returns
returns c =
    let check = declares_next c.args.added.now in
    through-end check (through check c.args.known.now c.args.decls.now) c.loop-decl.known c.args.decls.now c.loop-decl.decl-index (omega arith) c.loop-decl.invariant
