use Rattle.std.proofs.Common.{length}
use Rattle.std.proofs.lemmas.Result.{on_ok_weaker}
use Rattle.ode_host.specs.Host.{LeavesTorn}
use Rattle.ode_host.proofs.Moments.{write_leaves, write_leaves_now, looks_on, wrote_stands}
use Rattle.ode_host.proofs.synced.write_synced.Goals as goal

pub returns-clause-stands : goal.returns-clause-stands
returns-clause-stands g c =
    on_ok_weaker c.sync.result
    (λ durable file tells.
    let w = c.in_ok-write_at.ensures in
    wrote_stands c.args.at c.args.from.now file (g.H.Host.view c.args.host.now) (g.H.Host.view c.write_at.new.self) (g.H.Host.view c.sync.new.self) tells w.writes w.done c.sync.ensures.looks durable)
    c.sync.ensures.durable

pub returns-clause-any_moment : goal.returns-clause-any_moment
returns-clause-any_moment g c file stands =
    let view = g.H.Host.view in
    let law = g.met.H.Host.text_stands c.args.host.now in
    let wrote = write_leaves c.args.at c.args.from.now file (view c.args.host.now) (view c.write_at.new.self) law stands c.write_at.ensures.writes in
    let now = write_leaves_now c.args.at c.args.from.now file (view c.args.host.now) (view c.write_at.new.self) law stands c.write_at.ensures.writes in
    looks_on (view c.args.host.now) (view c.write_at.new.self) (view c.sync.new.self) (LeavesTorn c.args.at (length c.args.from.now) file (view c.args.host.now)) wrote now c.sync.ensures.looks
