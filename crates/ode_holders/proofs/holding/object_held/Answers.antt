use Rattle.ode_holders.proofs.HeldLaws.{held_here, none_here}
use Rattle.ode_holders.proofs.holding.object_held.Goals as goal

pub returns-in-Some : goal.returns-in-Some
returns-in-Some c =
    held_here c.args.session c.args.sessions.now c.args.ids.now c.loop-id.id-index _ c.loop-id-test.true c.who_looked.result c.who_looked.ensures c.in-Some.other c.in-Some.is c.loop-id.invariant

pub loop-id-preserved : goal.loop-id-preserved
loop-id-preserved c =
    none_here c.args.session c.args.sessions.now c.args.ids.now c.loop-id.id-index _ c.loop-id-test.true c.who_looked.result c.who_looked.ensures c.in_default.is c.loop-id.invariant
