use Rattle.std.proofs.Common.{◌∙◌, refl, subst, sym}
use Rattle.ode_keep.specs.declared.limits.TheConstants.{MAX_PAGED_BYTES}
use Rattle.ode_pagemap.specs.Holding.{LastHold}
use Rattle.ode_pagemap.specs.Laws.{last_stands_law}
use Rattle.ode_pagemap.specs.declared.map.PageMap.{PageMap}
use Rattle.ode_top.proofs.Following.{all_followed, follow_status, followed_so_far, kept_in, world_in}
use Rattle.ode_top.specs.Following.{from_world}
use Rattle.ode_top.proofs.copying.follow_opened.Goals as goal

pub returns-clause-followed : goal.returns-clause-followed
returns-clause-followed g c w stream text entries left opens told disk ending =
    let view = g.H.Host.view c.args.host.now in
    let next = c.held_worlds_tell_their_next_number.ensures entries w (world_in w c.args.opened view opens entries disk) in
    let kept = subst (λ (k : PageMap). LastHold k (g.H.Host.view c.args.host.now) entries) (sym c.start-standby.ensures.heap) (kept_in w c.args.opened view opens entries disk) in
    all_followed g.H.Host.view stream (from_world entries w) (g.S.Source.left c.follow-followed.new.source) c.follow-followed.new.standby.heap c.follow-followed.result
    c.follow-followed.new.host c.say_followed.new.host c.say_followed.result c.say_followed.ensures.says
    (c.follow-followed.ensures.follows MAX_PAGED_BYTES entries w.bones.transaction stream (λ keeper. refl) kept next left) text (c.follow-followed.ensures.leaves.text ∙ told) ending

pub returns-clause-any_moment : goal.returns-clause-any_moment
returns-clause-any_moment g c w stream text entries left opens told disk =
    let view = g.H.Host.view c.args.host.now in
    let next = c.held_worlds_tell_their_next_number.ensures entries w (world_in w c.args.opened view opens entries disk) in
    let kept = subst (λ (k : PageMap). LastHold k (g.H.Host.view c.args.host.now) entries) (sym c.start-standby.ensures.heap) (kept_in w c.args.opened view opens entries disk) in
    followed_so_far g.H.Host.view stream (from_world entries w) (g.S.Source.left c.follow-followed.new.source) c.follow-followed.new.standby.heap c.follow-followed.result
    c.follow-followed.new.host c.say_followed.new.host c.say_followed.result c.say_followed.ensures.says
    (c.follow-followed.ensures.follows MAX_PAGED_BYTES entries w.bones.transaction stream (λ keeper. refl) kept next left)
    view text told (c.follow-followed.ensures.leaves.text ∙ told)
    (c.follow-followed.ensures.any_moment MAX_PAGED_BYTES entries w.bones.transaction stream (λ keeper. refl) kept next left)

pub returns-clause-answers : goal.returns-clause-answers
returns-clause-answers g c w opens =
    let view = g.H.Host.view c.args.host.now in
    let disk = last_stands_law c.args.opened.keeper view opens.entries opens.kept in
    let next = c.held_worlds_tell_their_next_number.ensures opens.entries w (world_in w c.args.opened view opens opens.entries disk) in
    let kept = subst (λ (k : PageMap). LastHold k (g.H.Host.view c.args.host.now) opens.entries) (sym c.start-standby.ensures.heap) opens.kept in
    follow_status g.H.Host.view c.follow-followed.result c.follow-followed.new.host c.say_followed.new.host c.say_followed.result c.say_followed.ensures.says
    (c.follow-followed.ensures.sound MAX_PAGED_BYTES opens.entries w.bones.transaction (λ keeper. refl) kept next)
