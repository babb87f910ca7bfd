use Rattle.std.proofs.Common.{arith}
use Rattle.ode_pagemap.proofs.Places.{filled_over}
use Rattle.ode_pagemap.proofs.placing.page_bytes.Goals as goal

pub returns-then-used-gt-PAGE_SIZE : goal.returns-then-used-gt-PAGE_SIZE
returns-then-used-gt-PAGE_SIZE c short = absurd (omega (arith, c.if-used-gt-PAGE_SIZE.true, short))

pub returns : goal.returns
returns c short = filled_over c.args.used.now c.put_over.new.to c.put_over.ensures
