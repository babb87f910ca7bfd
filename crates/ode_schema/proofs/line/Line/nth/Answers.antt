use Rattle.std.proofs.Common.{arith, rules}
use Rattle.ode_schema.proofs.Lines.{nth_ends, nth_goes, nth_is}
use Rattle.ode_schema.proofs.line.Line.nth.Goals as goal

pub returns-in_err-next-clause-nth : goal.returns-in_err-next-clause-nth
returns-in_err-next-clause-nth c =
    let none = nth_ends c.args.self c.loop-passed.self c.args.at c.loop-passed._passed c.loop-passed.invariant c.in_err-next.ensures.next c.loop-passed-test.true in
    search rules

pub loop-passed-preserved : goal.loop-passed-preserved
loop-passed-preserved c =
    nth_goes c.args.self c.loop-passed.self c.next.new.self c.in_ok-next.field-0.now c.loop-passed._passed c.loop-passed.invariant c.in_ok-next.ensures.next

pub returns-clause-nth : goal.returns-clause-nth
returns-clause-nth c =
    nth_is c.args.self c.loop-passed.self c.next-2.new.self _ c.args.at c.loop-passed._passed c.loop-passed.invariant c.next-2.ensures.next
    (omega (arith, c.loop-passed-test.false, c.loop-passed.auto._passed-end))
