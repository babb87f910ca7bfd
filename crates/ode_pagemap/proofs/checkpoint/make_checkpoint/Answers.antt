use Rattle.std.proofs.Common.{◌∙◌, List, subst, sym}
use Rattle.ode_paging.specs.Images.{Image}
use Rattle.ode_pagemap.specs.Steps.{StandUnder}
use Rattle.ode_pagemap.proofs.Moving.{change_leaves, may_replace, moved_over}
use Rattle.ode_pagemap.proofs.checkpoint.make_checkpoint.Goals as goal

pub returns-in_err-stage-clause-any_moment : goal.returns-in_err-stage-clause-any_moment
returns-in_err-stage-clause-any_moment g c place images pages stand of =
    let older = c.args.header.now in
    let old = g.H.Host.view c.args.host.now in
    let here = subst (λ (l : List Image). StandUnder older place l pages old) (sym of.images_are) stand in
    c.stage.ensures.any_moment older place pages here c.next_header-next.ensures.follows

pub returns-in-Ok-clause-any_moment : goal.returns-in-Ok-clause-any_moment
returns-in-Ok-clause-any_moment g c place images pages stand of =
    let older = c.args.header.now in
    let h = c.next_header-next.result in
    let follows = c.next_header-next.ensures.follows in
    let old = g.H.Host.view c.args.host.now in
    let mid = g.H.Host.view c.stage.new.host in
    let here = subst (λ (l : List Image). StandUnder older place l pages old) (sym of.images_are) stand in
    let own = c.args.checkpoint.now.images in
    let both = c.in_ok-stage.ensures.staged older place pages here follows (c.next_header-next.ensures.long ∙ of.count) in
    change_leaves older place own h pages mid both follows old (g.H.Host.view c.change_header.new.host) c.stage.ensures.leaves.text
    (c.stage.ensures.any_moment older place pages here follows)
    (c.change_header.ensures.any_moment both.stand.file older (may_replace older place own h pages mid both follows) both.stand.stands)

pub returns-in-Err-clause-any_moment : goal.returns-in-Err-clause-any_moment
returns-in-Err-clause-any_moment g c place images pages stand of =
    let older = c.args.header.now in
    let h = c.next_header-next.result in
    let follows = c.next_header-next.ensures.follows in
    let old = g.H.Host.view c.args.host.now in
    let mid = g.H.Host.view c.stage.new.host in
    let here = subst (λ (l : List Image). StandUnder older place l pages old) (sym of.images_are) stand in
    let own = c.args.checkpoint.now.images in
    let both = c.in_ok-stage.ensures.staged older place pages here follows (c.next_header-next.ensures.long ∙ of.count) in
    change_leaves older place own h pages mid both follows old (g.H.Host.view c.change_header.new.host) c.stage.ensures.leaves.text
    (c.stage.ensures.any_moment older place pages here follows)
    (c.change_header.ensures.any_moment both.stand.file older (may_replace older place own h pages mid both follows) both.stand.stands)

pub returns-in-Ok-clause-done : goal.returns-in-Ok-clause-done
returns-in-Ok-clause-done g c place images pages stand of =
    let older = c.args.header.now in
    let h = c.next_header-next.result in
    let old = g.H.Host.view c.args.host.now in
    let mid = g.H.Host.view c.stage.new.host in
    let new = g.H.Host.view c.change_header.new.host in
    let here = subst (λ (l : List Image). StandUnder older place l pages old) (sym of.images_are) stand in
    let own = c.args.checkpoint.now.images in
    let both = c.in_ok-stage.ensures.staged older place pages here c.next_header-next.ensures.follows (c.next_header-next.ensures.long ∙ of.count) in
    let done = c.in-Ok.ensures.changed both.stand.file older (may_replace older place own h pages mid both c.next_header-next.ensures.follows) both.stand.stands in
    moved_over older place own h pages mid both c.next_header-next.ensures.follows new done.0 done.1 done.2
