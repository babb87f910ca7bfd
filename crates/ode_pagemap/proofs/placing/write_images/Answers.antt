use Rattle.std.proofs.Common.{◌≡◌, List, ◌∷◌, ◌∙◌, false, true, ⊎_elim, subst}
use Rattle.ode_paging.specs.Images.{Image}
use Rattle.ode_pagemap.proofs.Places.{ArePlacing, all_placed, more_moments, more_now, placing_more}
use Rattle.ode_pagemap.proofs.placing.write_images.Goals as goal

pub loop-page-preserved : goal.loop-page-preserved
loop-page-preserved g c =
    let i : Image = (c.in-Some.page.now, c.in-Some.used.now) in
    let left = c.next.new.self in
    let images = c.args.images.now in
    let old = g.H.Host.view c.args.host.now in
    let mid = g.H.Host.view c.loop-page.host in
    let new = g.H.Host.view c.write_image.new.host in
    let so_far : ArePlacing images (i ∷ left) old mid = subst (λ (l : List Image). ArePlacing images l old mid) c.in-Some.ensures.steps c.loop-page.invariant.so_far in
    record {
      so_far = placing_more i images left old mid new so_far c.write_image.ensures.time c.in_ok-write_image.ensures.wrote c.write_image.ensures.puts;
      faults = ⊎_elim {A = false ≡ true} (λ err. cc (err)) (λ same. same ∙ c.loop-page.invariant.faults) c.in_ok-write_image.ensures.cause.calm;
    }

pub returns-in_err-write_image-clause-any_moment : goal.returns-in_err-write_image-clause-any_moment
returns-in_err-write_image-clause-any_moment g c file stands =
    let i : Image = (c.in-Some.page.now, c.in-Some.used.now) in
    let left = c.next.new.self in
    let images = c.args.images.now in
    let old = g.H.Host.view c.args.host.now in
    let mid = g.H.Host.view c.loop-page.host in
    let new = g.H.Host.view c.write_image.new.host in
    let so_far : ArePlacing images (i ∷ left) old mid = subst (λ (l : List Image). ArePlacing images l old mid) c.in-Some.ensures.steps c.loop-page.invariant.so_far in
    more_moments i images left old mid new so_far c.write_image.ensures.time file stands

pub returns-in_err-write_image-clause-now : goal.returns-in_err-write_image-clause-now
returns-in_err-write_image-clause-now g c file stands image out stays =
    let i : Image = (c.in-Some.page.now, c.in-Some.used.now) in
    let left = c.next.new.self in
    let images = c.args.images.now in
    let old = g.H.Host.view c.args.host.now in
    let mid = g.H.Host.view c.loop-page.host in
    let new = g.H.Host.view c.write_image.new.host in
    let so_far : ArePlacing images (i ∷ left) old mid = subst (λ (l : List Image). ArePlacing images l old mid) c.in-Some.ensures.steps c.loop-page.invariant.so_far in
    more_now i images left old mid new so_far c.write_image.ensures.time file stands image out stays

pub returns-clause-placed : goal.returns-clause-placed
returns-clause-placed g c =
    let images = c.args.images.now in
    let old = g.H.Host.view c.args.host.now in
    let mid = g.H.Host.view c.loop-page.host in
    all_placed images old mid (subst (λ (l : List Image). ArePlacing images l old mid) c.in-None.ensures.steps.0 c.loop-page.invariant.so_far)
