use Rattle.std.proofs.lemmas.Result.{err_from_is_err_and}
use Rattle.ode_codec.specs.Values.{values_in}
use Rattle.ode_codec.proofs.Loop.{goes_on, ends, is_done}
use Rattle.ode_codec.proofs.values.read_values.Goals as goal

pub returns-in_err-value : goal.returns-in_err-value
returns-in_err-value c =
    let p = err_from_is_err_and c.from_residual-in_err-value.result c.from_residual-in_err-value.ensures.1 in
    rw (p.1, p.2) (ends c.in_err-value.field-0.0 c.loop.values c.args.count c.loop.counter c.loop.rest.now (values_in c.args.count c.args.bytes.now) c.loop-test.true c.in_err-value.ensures c.loop.invariant)

pub loop-preserved : goal.loop-preserved
loop-preserved c =
    rw (c.in_ok-push.ensures.ok) (goes_on c.loop.values c.args.count c.loop.counter c.loop.rest.now c.in_ok-value.value c.in_ok-value.after.now (values_in c.args.count c.args.bytes.now) c.loop-test.true c.in_ok-value.ensures c.loop.invariant)

pub returns : goal.returns
returns c = is_done c.loop.values c.args.count c.loop.counter c.loop.rest.now (values_in c.args.count c.args.bytes.now) c.loop-test.false c.loop.invariant
