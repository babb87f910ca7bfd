use Rattle.std.proofs.Common.{[], ℕ, Bor, List, Option, ◌∙◌, ap, subst, sym}
use Rattle.std.proofs.lemmas.Result.{on_ok_weaker}
use Rattle.std.specs.Option.{IfSome, option_copied}
use Rattle.ode_host.proofs.Moments.{joined, weaker}
use Rattle.ode_host.specs.Host.{LeavesOnly}
use Rattle.ode_keep.specs.Keeping.{LeavesOldOrNew}
use Rattle.ode_paging.specs.Gathering.{gathered}
use Rattle.ode_paging.specs.Images.{Image}
use Rattle.ode_paging.specs.Meaning.{PagesMeanIn}
use Rattle.ode_pagemap.specs.declared.checkpoint.Checkpoint.{Checkpoint}
use Rattle.ode_pagemap.specs.Steps.{IsOf, LeavesPages, StandUnder, images_after}
use Rattle.ode_pagemap.proofs.Framing.{old_left, text_back}
use Rattle.ode_pagemap.proofs.Renewing.{laid_alone}
use Rattle.ode_pagemap.proofs.steps.write_changes.Goals as goal

pub returns-in-None-clause-region : goal.returns-in-None-clause-region
returns-in-None-clause-region g c none =
    on_ok_weaker c.add_frame.result (λ region images pages stand. region c.args.header.now images pages stand) c.add_frame.ensures.region

pub returns-in-None-clause-any_moment : goal.returns-in-None-clause-any_moment
returns-in-None-clause-any_moment g c images over pages later changes stand of makes = c.add_frame.ensures.any_moment c.args.header.now images over pages later changes stand makes

pub returns-in_err-header-in-Some-clause-any_moment : goal.returns-in_err-header-in-Some-clause-any_moment
returns-in_err-header-in-Some-clause-any_moment g c images over pages later changes stand of makes =
    let older = c.args.header.now in
    let old = g.H.Host.view c.args.host.now in
    let mid = g.H.Host.view c.make_checkpoint.new.host in
    let own = subst (λ (d : Option (Bor Checkpoint)). IfSome d (λ x. IsOf images pages x.now)) c.in-Some.is of in
    weaker old mid (LeavesPages older.format pages old) (LeavesOldOrNew (PagesMeanIn older.format) (gathered [] pages) changes old) (old_left older.format pages changes old)
    (c.make_checkpoint.ensures.any_moment c.args.journal.now images pages stand own)

pub returns-in_ok-header-in-Some-clause-any_moment : goal.returns-in_ok-header-in-Some-clause-any_moment
returns-in_ok-header-in-Some-clause-any_moment g c images over pages later changes stand of makes =
    let older = c.args.header.now in
    let old = g.H.Host.view c.args.host.now in
    let mid = g.H.Host.view c.make_checkpoint.new.host in
    let new = g.H.Host.view c.add_frame-in-Some.new.host in
    let own = subst (λ (d : Option (Bor Checkpoint)). IfSome d (λ x. IsOf images pages x.now)) c.in-Some.is of in
    let first = weaker old mid (LeavesPages older.format pages old) (LeavesOldOrNew (PagesMeanIn older.format) (gathered [] pages) changes old) (old_left older.format pages changes old)
    (c.make_checkpoint.ensures.any_moment c.args.journal.now images pages stand own) in
    let now = c.in_ok-header-in-Some.ensures.done c.args.journal.now images pages stand own in
    joined old mid new (LeavesOldOrNew (PagesMeanIn older.format) (gathered [] pages) changes old) first
    (weaker mid new (LeavesOldOrNew (PagesMeanIn older.format) (gathered [] pages) changes mid) (LeavesOldOrNew (PagesMeanIn older.format) (gathered [] pages) changes old)
    (text_back older.format (gathered [] pages) changes old mid c.make_checkpoint.ensures.leaves.text)
    (subst (λ (f : ℕ). LeavesOnly mid new (LeavesOldOrNew (PagesMeanIn f) (gathered [] pages) changes mid)) c.in_ok-header-in-Some.ensures.format
    (c.add_frame-in-Some.ensures.any_moment c.in_ok-header-in-Some.field-0 [] over pages later changes now makes)))

pub returns-in_ok-header-in-Some-clause-written : goal.returns-in_ok-header-in-Some-clause-written
returns-in_ok-header-in-Some-clause-written g c =
    on_ok_weaker c.add_frame-in-Some.result
    (λ added images over pages later changes stand of makes.
    let h = c.in_ok-header-in-Some.field-0 in
    let new = g.H.Host.view c.add_frame-in-Some.new.host in
    let own = subst (λ (d : Option (Bor Checkpoint)). IfSome d (λ x. IsOf images pages x.now)) c.in-Some.is of in
    let now = c.in_ok-header-in-Some.ensures.done c.args.journal.now images pages stand own in
    let alone = sym (ap (λ (d : Option (Bor Checkpoint)). images_after (option_copied d) over images) c.in-Some.is) in
    subst (λ (l : List Image). StandUnder h c.add_frame-in-Some.new.journal l later new) (laid_alone over makes.payload_is.rising ∙ alone) (added h [] over pages later changes now makes))
    c.add_frame-in-Some.ensures.added
