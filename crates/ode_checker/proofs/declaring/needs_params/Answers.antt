use Rattle.std.proofs.Common.{arith}
use Rattle.std.proofs.lemmas.Result.{err_from_is_err_and}
use Rattle.ode_checker.proofs.DeclaringLaws.{params-end, params-stop}
use Rattle.ode_checker.proofs.declaring.needs_params.Goals as goal

pub returns-in_err-needs_param : goal.returns-in_err-needs_param
returns-in_err-needs_param c =
    let p = err_from_is_err_and c.from_residual.result c.from_residual.ensures.1 in
    rw (p.1, p.2) (params-stop c.args.known.now c.args.decl.now c.args.params.now c.loop-i.i c.index-params-i.result c.in_err-needs_param.field-0.0
    c.loop-i-test.true c.index-params-i.is c.loop-i.invariant c.in_err-needs_param.ensures)

pub returns : goal.returns
returns c = params-end c.args.known.now c.args.decl.now c.args.params.now c.loop-i.i (omega arith) c.loop-i.invariant
