use Rattle.std.proofs.lemmas.Result.{err_from_is_err_and}
use Rattle.ode_codec.specs.Formats.{behind}
use Rattle.ode_codec.specs.Values.{values_in}
use Rattle.ode_codec.proofs.Loop.{has_passed, passes_no_more, passes_on}
use Rattle.ode_codec.proofs.skipping.skip_values.Goals as goal

pub returns-in_err-rest : goal.returns-in_err-rest
returns-in_err-rest c =
    let p = err_from_is_err_and c.from_residual.result c.from_residual.ensures.1 in
    rw p.1 (passes_no_more c.args.count c.loop.counter c.loop.rest.now (behind (values_in c.args.count c.args.bytes.now)) c.loop-test.true c.in_err-rest.ensures c.loop.invariant)

pub loop-preserved : goal.loop-preserved
loop-preserved c =
    passes_on c.args.count c.loop.counter c.loop.rest.now c.in_ok-rest.rest.now (behind (values_in c.args.count c.args.bytes.now)) c.loop-test.true c.in_ok-rest.ensures c.loop.invariant

pub returns : goal.returns
returns c = has_passed c.args.count c.loop.counter c.loop.rest.now (behind (values_in c.args.count c.args.bytes.now)) c.loop-test.false c.loop.invariant
