use Rattle.ode_walk.proofs.FrontLaws.{front_step}
use Rattle.ode_walk.proofs.reaching.step.Goals as goal

pub returns-clause-front : goal.returns-clause-front
returns-clause-front c =
    front_step c.args.table.now c.args.front.now.states c.args.front.now.seen c.args.head c.args.symbol c.next-q.result c.add.new.front.states c.add.new.front.seen
    c.requires.head c.requires.front c.requires.symbol (rw c.as_slice.ensures at c.next-q.ensures.value) c.next-q.ensures.state c.in_ok-add.ensures.known c.in_ok-add.ensures.new
