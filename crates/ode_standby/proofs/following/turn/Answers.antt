use Rattle.std.proofs.Common.{take, arith}
use Rattle.std.proofs.lemmas.List.{length-take-le}
use Rattle.ode_host.proofs.Moments.{weaker}
use Rattle.ode_standby.proofs.FollowLaws.{all_came, fed_ends, fed_leaves, fed_long, fed_on, fed_stops, front_came, full_at, long_came, next_sound, stopped_sound}
use Rattle.ode_standby.specs.Taking.{from}
use Rattle.ode_standby.proofs.following.turn.Goals as goal

pub returns-in-End-clause-goes : goal.returns-in-End-clause-goes
returns-in-End-clause-goes g c most start bytes limit fed =
    let ended = c.in-End.ensures.bytes fed.more fed.told in
    fed_ends most start bytes (g.S.Source.left c.args.source.now) c.args.standby.now.stream c.args.applied (λ after. g.K.Keep.holds c.args.standby.now.heap (g.H.Host.view c.args.host.now) after) fed
    (g.S.Source.left c.next_chunk.new.source) c.skipped.result c.rest.result ended.0 ended.1 c.skipped.ensures c.rest.ensures

pub returns-then-is_long-clause-goes : goal.returns-then-is_long-clause-goes
returns-then-is_long-clause-goes g c most start bytes limit fed =
    let chunk = c.next_chunk.new.to in
    let count = c.in-Bytes.count in
    let came = long_came fed.more (g.S.Source.left c.next_chunk.new.source) chunk count c.in-Bytes.is_long c.if-is_long.true (c.in-Bytes.ensures.bytes fed.more fed.told) in
    let full = full_at c.taken.result count c.in-Bytes.is_long c.if-is_long.true c.in-Bytes.ensures.further in
    fed_long most start bytes (g.S.Source.left c.args.source.now) c.args.standby.now.stream c.args.applied (λ after. g.K.Keep.holds c.args.standby.now.heap (g.H.Host.view c.args.host.now) after) fed
    (take count chunk) came.0 came.1 (g.S.Source.left c.next_chunk.new.source) c.feed.new.self.stream c.in-Ok.more (λ after. g.K.Keep.holds c.feed.new.self.heap (g.H.Host.view c.feed.new.host) after) came.2
    (omega (arith, full, c.taken.ensures, length-take-le count chunk c.in-Bytes.ensures.within.0)) (c.in-Ok.ensures.feeds most fed.reached.entries fed.reached.next limit fed.holds fed.next)

pub returns-else-is_long-clause-goes : goal.returns-else-is_long-clause-goes
returns-else-is_long-clause-goes g c most start bytes limit fed =
    let chunk = c.next_chunk.new.to in
    let count = c.in-Bytes.count in
    let came = all_came fed.more (g.S.Source.left c.next_chunk.new.source) chunk count c.in-Bytes.is_long c.if-is_long.false (c.in-Bytes.ensures.bytes fed.more fed.told) in
    fed_on most start bytes (g.S.Source.left c.args.source.now) c.args.standby.now.stream c.args.applied (λ after. g.K.Keep.holds c.args.standby.now.heap (g.H.Host.view c.args.host.now) after) fed
    (take count chunk) came.0 came.1 (g.S.Source.left c.next_chunk.new.source) c.feed.new.self.stream c.in-Ok.more (λ after. g.K.Keep.holds c.feed.new.self.heap (g.H.Host.view c.feed.new.host) after) came.2
    (c.in-Ok.ensures.feeds most fed.reached.entries fed.reached.next limit fed.holds fed.next) c.in-Ok.ensures.taken

pub returns-in-Err-clause-goes : goal.returns-in-Err-clause-goes
returns-in-Err-clause-goes g c most start bytes limit fed =
    let chunk = c.next_chunk.new.to in
    let count = c.in-Bytes.count in
    let came = front_came fed.more (g.S.Source.left c.next_chunk.new.source) chunk count c.in-Bytes.is_long (c.in-Bytes.ensures.bytes fed.more fed.told) in
    fed_stops most start bytes (g.S.Source.left c.args.source.now) c.args.standby.now.stream c.args.applied (λ after. g.K.Keep.holds c.args.standby.now.heap (g.H.Host.view c.args.host.now) after) fed
    (take count chunk) came.0 came.1 (g.S.Source.left c.next_chunk.new.source) c.feed.new.self.stream (λ after. g.K.Keep.holds c.feed.new.self.heap (g.H.Host.view c.feed.new.host) after) c.in-Err.error
    (omega (arith, c.in-Bytes.ensures.within.1, c.taken.ensures, length-take-le count chunk c.in-Bytes.ensures.within.0)) (c.in-Err.ensures.feeds most fed.reached.entries fed.reached.next limit fed.holds fed.next)

pub returns-then-is_long-clause-any_moment : goal.returns-then-is_long-clause-any_moment
returns-then-is_long-clause-any_moment g c most start bytes limit fed =
    let chunk = c.next_chunk.new.to in
    let count = c.in-Bytes.count in
    let came = front_came fed.more (g.S.Source.left c.next_chunk.new.source) chunk count c.in-Bytes.is_long (c.in-Bytes.ensures.bytes fed.more fed.told) in
    weaker (g.H.Host.view c.args.host.now) (g.H.Host.view c.feed.new.host) _ _
    (λ image out l.
    fed_leaves most start bytes (g.S.Source.left c.args.source.now) c.args.standby.now.stream c.args.applied (λ after. g.K.Keep.holds c.args.standby.now.heap (g.H.Host.view c.args.host.now) after) fed
    (take count chunk) came.0 came.1 g.K.Keep.means (g.H.Host.view c.args.host.now) image out l)
    (c.in-Ok.ensures.any_moment most fed.reached.entries fed.reached.next limit fed.holds fed.next)

pub returns-else-is_long-clause-any_moment : goal.returns-else-is_long-clause-any_moment
returns-else-is_long-clause-any_moment g c most start bytes limit fed =
    let chunk = c.next_chunk.new.to in
    let count = c.in-Bytes.count in
    let came = front_came fed.more (g.S.Source.left c.next_chunk.new.source) chunk count c.in-Bytes.is_long (c.in-Bytes.ensures.bytes fed.more fed.told) in
    weaker (g.H.Host.view c.args.host.now) (g.H.Host.view c.feed.new.host) _ _
    (λ image out l.
    fed_leaves most start bytes (g.S.Source.left c.args.source.now) c.args.standby.now.stream c.args.applied (λ after. g.K.Keep.holds c.args.standby.now.heap (g.H.Host.view c.args.host.now) after) fed
    (take count chunk) came.0 came.1 g.K.Keep.means (g.H.Host.view c.args.host.now) image out l)
    (c.in-Ok.ensures.any_moment most fed.reached.entries fed.reached.next limit fed.holds fed.next)

pub returns-in-Err-clause-any_moment : goal.returns-in-Err-clause-any_moment
returns-in-Err-clause-any_moment g c most start bytes limit fed =
    let chunk = c.next_chunk.new.to in
    let count = c.in-Bytes.count in
    let came = front_came fed.more (g.S.Source.left c.next_chunk.new.source) chunk count c.in-Bytes.is_long (c.in-Bytes.ensures.bytes fed.more fed.told) in
    weaker (g.H.Host.view c.args.host.now) (g.H.Host.view c.feed.new.host) _ _
    (λ image out l.
    fed_leaves most start bytes (g.S.Source.left c.args.source.now) c.args.standby.now.stream c.args.applied (λ after. g.K.Keep.holds c.args.standby.now.heap (g.H.Host.view c.args.host.now) after) fed
    (take count chunk) came.0 came.1 g.K.Keep.means (g.H.Host.view c.args.host.now) image out l)
    (c.in-Err.ensures.any_moment most fed.reached.entries fed.reached.next limit fed.holds fed.next)

pub returns-else-is_long-clause-sound : goal.returns-else-is_long-clause-sound
returns-else-is_long-clause-sound g c most limit has =
    next_sound most has.next c.args.standby.now.stream.start has.entries _ c.args.standby.now.stream c.feed.new.self.stream c.in-Ok.more
    (λ after. g.K.Keep.holds c.feed.new.self.heap (g.H.Host.view c.feed.new.host) after) has.told (c.in-Ok.ensures.feeds most has.entries has.next limit has.holds has.told)

pub returns-in-Err-clause-sound : goal.returns-in-Err-clause-sound
returns-in-Err-clause-sound g c most limit has =
    stopped_sound most (from has.entries has.next c.args.standby.now.stream.start) _ c.args.standby.now.stream c.feed.new.self.stream
    (λ after. g.K.Keep.holds c.feed.new.self.heap (g.H.Host.view c.feed.new.host) after) c.in-Err.error (c.in-Err.ensures.feeds most has.entries has.next limit has.holds has.told)
