use Rattle.ode_paging.proofs.Handled.{damaged_more, if_ok, same_in_hand}
use Rattle.ode_paging.proofs.hand.Hand.put_somewhere.Goals as goal

pub returns-clause-put : goal.returns-clause-put
returns-clause-put g c =
    if_ok c.put_elsewhere.result c.put_elsewhere.ensures.put (λ page put pages now has.
    put pages now (same_in_hand (g.H.Host.view c.args.host.now) c.args.source.header.now c.args.source.images.now c.args.self.now c.put_in_named.new.self pages now has c.in_default.ensures.other))

pub returns-clause-damaged : goal.returns-clause-damaged
returns-clause-damaged g c =
    damaged_more _ c.put_elsewhere.result c.put_elsewhere.ensures.damaged (λ bad pages now has.
    bad pages now (same_in_hand (g.H.Host.view c.args.host.now) c.args.source.header.now c.args.source.images.now c.args.self.now c.put_in_named.new.self pages now has c.in_default.ensures.other))
