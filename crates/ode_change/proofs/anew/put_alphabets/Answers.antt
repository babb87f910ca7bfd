use Rattle.std.proofs.Common.{arith}
use Rattle.ode_change.proofs.Gathers.{alphabets_done, alphabets_next}
use Rattle.ode_change.proofs.anew.put_alphabets.Goals as goal

pub loop-trigger-preserved : goal.loop-trigger-preserved
loop-trigger-preserved c =
    alphabets_next c.args.alphabets.now c.loop-trigger.alphabets c.push.new.self c.args.triggers.now c.loop-trigger.trigger-index c.trigger-item.result c.in_ok-alphabet.alphabet c.loop-trigger-test.true c.trigger-item.is
    c.loop-trigger.invariant c.in_ok-alphabet.ensures.is c.in_ok-push.ensures.ok

pub returns-clause-is : goal.returns-clause-is
returns-clause-is c = alphabets_done c.args.alphabets.now c.loop-trigger.alphabets c.args.triggers.now c.loop-trigger.trigger-index (omega (arith, c.loop-trigger-test.false)) c.loop-trigger.invariant
