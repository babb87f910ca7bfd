use Rattle.std.proofs.lemmas.Result.{on_ok_weaker}
use Rattle.ode_host.proofs.Moments.{looks_on, tells_looks}
use Rattle.ode_pagemap.specs.Placing.{LeavesBeside}
use Rattle.ode_pagemap.proofs.placing.place_images.Goals as goal

pub returns-clause-placed : goal.returns-clause-placed
returns-clause-placed g c =
    on_ok_weaker c.sync.result
    (λ durable file tells short.
    let mid = g.H.Host.view c.write_images.new.host in
    let new = g.H.Host.view c.sync.new.self in
    let made = c.in_ok-write_images.ensures.placed file tells short in
    (made.0, record { tells = tells_looks made.0 mid new c.sync.ensures.looks made.1; only = durable made.0 made.1 }, made.2))
    c.sync.ensures.durable

pub returns-clause-any_moment : goal.returns-clause-any_moment
returns-clause-any_moment g c file stands =
    let old = g.H.Host.view c.args.host.now in
    let mid = g.H.Host.view c.write_images.new.host in
    let new = g.H.Host.view c.sync.new.self in
    looks_on old mid new (LeavesBeside c.args.images.now file old) (c.write_images.ensures.any_moment file stands) (c.write_images.ensures.now file stands) c.sync.ensures.looks
