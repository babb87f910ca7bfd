use Rattle.std.proofs.Common.{None, Some}
use Rattle.ode_paging.proofs.Firsts.{first_above, first_least}
use Rattle.ode_pagemap.specs.Holding.{index}
use Rattle.ode_pagemap.proofs.InPages.{same_keys}
use Rattle.ode_pagemap.proofs.map.PageMap.keys_from.Goals as goal

pub returns-in-Some-clause-value : goal.returns-in-Some-clause-value
returns-in-Some-clause-value g c entries h =
    let keeper = c.args.self.now in
    first_least (index keeper) entries c.args.key (Some (c.in-Some.least, c.in-Some.field-0-1))
    (same_keys keeper (g.H.Host.view c.args._host.now) entries h) c.in-Some.ensures.first

pub returns-in-Some-clause-above : goal.returns-in-Some-clause-above
returns-in-Some-clause-above g c = first_above (index c.args.self.now) c.args.key c.in-Some.least c.in-Some.field-0-1 c.in-Some.ensures.first

pub returns-in-None-clause-value : goal.returns-in-None-clause-value
returns-in-None-clause-value g c entries h =
    let keeper = c.args.self.now in
    first_least (index keeper) entries c.args.key None (same_keys keeper (g.H.Host.view c.args._host.now) entries h) c.in-None.ensures.first
