use Rattle.std.proofs.Common.{◌++◌, Ok, Err}
use Rattle.std.proofs.lemmas.Result.{err_from_is_err_and}
use Rattle.ode_host.specs.Host.{LeavesOnly}
use Rattle.ode_standby.proofs.FeedLaws.{extended, feeds_extended, took_none}
use Rattle.ode_standby.specs.Taking.{LeavesSome, from}
use Rattle.ode_standby.proofs.standby.Standby.feed.Goals as goal

pub returns-in_err-extend-clause-feeds : goal.returns-in_err-extend-clause-feeds
returns-in_err-extend-clause-feeds g c most entries next limit held known =
    let p = err_from_is_err_and c.from_residual.result c.from_residual.ensures.1 in
    rw (p.1, p.2) (took_none most next c.args.self.now.stream.start entries (c.args.self.now.stream.begun.items ++ c.args.piece.now) (λ after. g.K.Keep.holds c.args.self.now.heap (g.H.Host.view c.args.host.now) after) held)

pub returns-in_err-applied-clause-feeds : goal.returns-in_err-applied-clause-feeds
returns-in_err-applied-clause-feeds g c most entries next limit held known =
    let p = err_from_is_err_and c.from_residual-in_err-applied.result c.from_residual-in_err-applied.ensures.1 in
    rw (p.1, p.2) (feeds_extended c.args.piece.now c.args.self.now.stream c.extend.new.self c.in_ok-extend.ensures.ok c.in_ok-extend.ensures.start most next entries
    (λ after. g.K.Keep.holds c.take.new.self.heap (g.H.Host.view c.take.new.host) after) c.take.new.self.stream c.in_ok-extend.ensures.skipped (Err c.in_err-applied.field-0.0)
    (c.in_err-applied.ensures.feeds most entries next limit held known))

pub returns-in_err-applied-clause-any_moment : goal.returns-in_err-applied-clause-any_moment
returns-in_err-applied-clause-any_moment g c most entries next limit held known =
    extended c.args.piece.now c.args.self.now.stream c.extend.new.self c.in_ok-extend.ensures.ok c.in_ok-extend.ensures.start
    (λ n l. LeavesOnly (g.H.Host.view c.args.host.now) (g.H.Host.view c.take.new.host) (LeavesSome g.K.Keep.means most (from entries next n) l (g.H.Host.view c.args.host.now)))
    (c.in_err-applied.ensures.any_moment most entries next limit held known)

pub returns-clause-feeds : goal.returns-clause-feeds
returns-clause-feeds g c most entries next limit held known =
    feeds_extended c.args.piece.now c.args.self.now.stream c.extend.new.self c.in_ok-extend.ensures.ok c.in_ok-extend.ensures.start most next entries
    (λ after. g.K.Keep.holds c.take.new.self.heap (g.H.Host.view c.take.new.host) after) c.take.new.self.stream c.in_ok-extend.ensures.skipped (Ok c.in_ok-applied.applied)
    (c.in_ok-applied.ensures.feeds most entries next limit held known)

pub returns-clause-any_moment : goal.returns-clause-any_moment
returns-clause-any_moment g c most entries next limit held known =
    extended c.args.piece.now c.args.self.now.stream c.extend.new.self c.in_ok-extend.ensures.ok c.in_ok-extend.ensures.start
    (λ n l. LeavesOnly (g.H.Host.view c.args.host.now) (g.H.Host.view c.take.new.host) (LeavesSome g.K.Keep.means most (from entries next n) l (g.H.Host.view c.args.host.now)))
    (c.in_ok-applied.ensures.any_moment most entries next limit held known)
