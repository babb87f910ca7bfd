use Rattle.ode_host.proofs.Moments.{joined, weaker}
use Rattle.ode_migrate.proofs.Moved.{change_leaves, changed_to, may_replace}
use Rattle.ode_migrate.proofs.moving.move_to_pages.Goals as goal

pub returns-in_err-stage-clause-any_moment : goal.returns-in_err-stage-clause-any_moment
returns-in_err-stage-clause-any_moment g c entries stand cut = c.stage.ensures.any_moment c.args.header.now entries stand

pub returns-in-Ok-clause-moved : goal.returns-in-Ok-clause-moved
returns-in-Ok-clause-moved g c entries stand cut =
    let older = c.args.header.now in
    let payload = c.args.frame.now.payload in
    let mid = g.H.Host.view c.stage.new.host in
    let staged = c.in_ok-stage.ensures.staged older entries stand in
    let changed = rw c.paged-next.ensures.paged at c.in-Ok.ensures.changed in
    let done = changed staged.stand.file older (may_replace older entries payload mid staged cut) staged.stand.stands in
    changed_to older entries payload mid staged cut (g.H.Host.view c.change_header.new.host) done.0 done.1 done.2

pub returns-in-Ok-clause-any_moment : goal.returns-in-Ok-clause-any_moment
returns-in-Ok-clause-any_moment g c entries stand cut =
    let older = c.args.header.now in
    let payload = c.args.frame.now.payload in
    let old = g.H.Host.view c.args.host.now in
    let mid = g.H.Host.view c.stage.new.host in
    let staged = c.in_ok-stage.ensures.staged older entries stand in
    let left = rw c.paged-next.ensures.paged at c.change_header.ensures.any_moment in
    joined _ _ _ _ (c.stage.ensures.any_moment older entries stand)
    (weaker _ _ _ _ (change_leaves older entries payload mid staged cut old c.stage.ensures.leaves.text)
    (left staged.stand.file older (may_replace older entries payload mid staged cut) staged.stand.stands))

pub returns-in-Err-clause-any_moment : goal.returns-in-Err-clause-any_moment
returns-in-Err-clause-any_moment g c entries stand cut =
    let older = c.args.header.now in
    let payload = c.args.frame.now.payload in
    let old = g.H.Host.view c.args.host.now in
    let mid = g.H.Host.view c.stage.new.host in
    let staged = c.in_ok-stage.ensures.staged older entries stand in
    let left = rw c.paged-next.ensures.paged at c.change_header.ensures.any_moment in
    joined _ _ _ _ (c.stage.ensures.any_moment older entries stand)
    (weaker _ _ _ _ (change_leaves older entries payload mid staged cut old c.stage.ensures.leaves.text)
    (left staged.stand.file older (may_replace older entries payload mid staged cut) staged.stand.stands))
