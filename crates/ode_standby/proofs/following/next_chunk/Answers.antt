use Rattle.ode_standby.proofs.FollowLaws.{read_long}
use Rattle.ode_standby.proofs.following.next_chunk.Goals as goal

pub returns-then-count-room-clause-bytes : goal.returns-then-count-room-clause-bytes
returns-then-count-room-clause-bytes g c left told =
    read_long (g.S.Source.left c.args.source.now) (g.S.Source.left c.read.new.self) left c.read.new.to c.in-Ok.count _ told c.in-Ok.ensures.bytes.0 c.in-Ok.ensures.bound.0 c.if-count-room.true
