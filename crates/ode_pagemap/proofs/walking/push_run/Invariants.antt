use Rattle.std.proofs.Common.{length}
use Rattle.ode_pagemap.specs.Running.{Runs}
use Rattle.ode_pagemap.proofs.walking.push_run.Given as goal

abbrev pub invariant-leads : goal.invariant-leads
invariant-leads l = Runs l.number l.page l.fn.leads l.fn.rows.items l.rows.items l.leads

abbrev pub decreases-leads : goal.decreases-leads
decreases-leads l = length l.leads
