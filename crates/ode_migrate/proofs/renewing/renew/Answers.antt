use Rattle.ode_host.proofs.Moments.{weaker}
use Rattle.ode_migrate.proofs.Renewed.{change_leaves, changed_to, may_replace}
use Rattle.ode_migrate.proofs.renewing.renew.Goals as goal

pub returns-in-Ok-clause-renewed : goal.returns-in-Ok-clause-renewed
returns-in-Ok-clause-renewed g c file entries stands counts has =
    let older = c.args.header.now in
    let changed = rw c.renewed-next.ensures.renewed at c.in-Ok.ensures.changed in
    let done = changed file older (may_replace older c.requires file entries counts has) stands in
    changed_to older c.requires file entries counts has (g.H.Host.view c.change_header.new.host) done.0 done.1 done.2

pub returns-in-Ok-clause-any_moment : goal.returns-in-Ok-clause-any_moment
returns-in-Ok-clause-any_moment g c file entries stands counts has =
    let older = c.args.header.now in
    let left = rw c.renewed-next.ensures.renewed at c.change_header.ensures.any_moment in
    weaker _ _ _ _ (change_leaves older c.requires file entries counts has (g.H.Host.view c.args.host.now)) (left file older (may_replace older c.requires file entries counts has) stands)

pub returns-in-Err-clause-any_moment : goal.returns-in-Err-clause-any_moment
returns-in-Err-clause-any_moment g c file entries stands counts has =
    let older = c.args.header.now in
    let left = rw c.renewed-next.ensures.renewed at c.change_header.ensures.any_moment in
    weaker _ _ _ _ (change_leaves older c.requires file entries counts has (g.H.Host.view c.args.host.now)) (left file older (may_replace older c.requires file entries counts has) stands)
