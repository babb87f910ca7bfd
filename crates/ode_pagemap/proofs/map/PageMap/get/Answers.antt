use Rattle.std.proofs.Common.{sym}
use Rattle.ode_pagemap.proofs.InPages.{lacks}
use Rattle.ode_pagemap.proofs.map.PageMap.get.Goals as goal

pub returns-in-None-clause-value : goal.returns-in-None-clause-value
returns-in-None-clause-value g c entries h = sym (lacks c.args.self.now (g.H.Host.view c.args.host.now) entries h c.args.key (sym c.in-None.ensures))
