use Rattle.std.proofs.Common.{◌+◌, Option, refl, subst}
use Rattle.ode_gate.specs.Changes.{WritesAtMost}
use Rattle.ode_journal.specs.Appends.{need_of}
use Rattle.ode_pagemap.specs.Steps.{bytes_before}
use Rattle.ode_pagemap.specs.declared.checkpoint.Checkpoint.{Checkpoint}
use Rattle.ode_pagemap.proofs.Committed.{holds_behind, left_on, of_lent}
use Rattle.ode_pagemap.proofs.Least.{none_lent}
use Rattle.ode_pagemap.proofs.Paged.{of_pages}
use Rattle.ode_pagemap.proofs.map.PageMap.write_out.Goals as goal

pub write_changes-requires-clause-form : goal.write_changes-requires-clause-form
write_changes-requires-clause-form g c = of_pages c.args.self.now.header c.args.self.now.form

pub returns-in-Ok-clause-done : goal.returns-in-Ok-clause-done
returns-in-Ok-clause-done g c changes entries is =
    let keeper = c.args.self.now in
    let view = g.H.Host.view c.args.host.now in
    let ready = c.args.ready.now in
    let same = c.as_ref-due.ensures.value in
    holds_behind keeper view changes entries ready is c.as_ref-due.result same _ (g.H.Host.view c.write_changes.new.host) refl refl
    (c.in-Ok.ensures.written is.images is.over is.pages is.later changes is.stand (of_lent keeper view changes entries ready is c.as_ref-due.result same) is.makes)

pub returns-in-Ok-clause-any_moment : goal.returns-in-Ok-clause-any_moment
returns-in-Ok-clause-any_moment g c changes entries is =
    let keeper = c.args.self.now in
    let view = g.H.Host.view c.args.host.now in
    let ready = c.args.ready.now in
    let same = c.as_ref-due.ensures.value in
    left_on keeper view changes entries ready is c.as_ref-due.result same keeper.header.format (g.H.Host.view c.write_changes.new.host)
    (c.in-Ok.ensures.any_moment is.images is.over is.pages is.later changes is.stand (of_lent keeper view changes entries ready is c.as_ref-due.result same) is.makes)

pub returns-in-Err-clause-any_moment : goal.returns-in-Err-clause-any_moment
returns-in-Err-clause-any_moment g c changes entries is =
    let keeper = c.args.self.now in
    let view = g.H.Host.view c.args.host.now in
    let ready = c.args.ready.now in
    let same = c.as_ref-due.ensures.value in
    left_on keeper view changes entries ready is c.as_ref-due.result same keeper.header.format (g.H.Host.view c.write_changes.new.host)
    (c.in-Err.ensures.any_moment is.images is.over is.pages is.later changes is.stand (of_lent keeper view changes entries ready is c.as_ref-due.result same) is.makes)

pub returns-in-Ok-clause-region : goal.returns-in-Ok-clause-region
returns-in-Ok-clause-region g c none = c.in-Ok.ensures.region (none_lent c.as_ref-due.result c.args.ready.now.due c.as_ref-due.ensures.value none)

pub returns-in-Ok-clause-puts : goal.returns-in-Ok-clause-puts
returns-in-Ok-clause-puts g c none = c.in-Ok.ensures.puts (none_lent c.as_ref-due.result c.args.ready.now.due c.as_ref-due.ensures.value none)

pub returns-in-Ok-clause-most : goal.returns-in-Ok-clause-most
returns-in-Ok-clause-most g c =
    let old = g.H.Host.view c.args.host.now in
    let new = g.H.Host.view c.write_changes.new.host in
    subst (λ (d : Option Checkpoint). WritesAtMost (bytes_before d + need_of c.args.ready.now.frame.payload) old new) c.as_ref-due.ensures.value c.in-Ok.ensures.most
