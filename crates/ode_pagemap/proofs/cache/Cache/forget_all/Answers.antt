use Rattle.std.proofs.Common.{List, ℕ, ap, sym, ◌∙◌}
use Rattle.ode_keep.specs.Entries.{Entries}
use Rattle.ode_paging.specs.Images.{Image}
use Rattle.ode_pagemap.specs.Cached.{without}
use Rattle.ode_pagemap.proofs.Forgotten.{all_forgotten, none_forgotten, one_forgotten}
use Rattle.ode_pagemap.proofs.cache.Cache.forget_all.Goals as goal

pub loop-page-init : goal.loop-page-init
loop-page-init c = record {
  gone = none_forgotten c.args.images.now c.into_iter-page-iterator.result c.args.self.now.pages.entries cc;
  rest = cc;
  most = cc;
}

pub loop-page-preserved : goal.loop-page-preserved
loop-page-preserved c =
    let so_far = c.loop-page.invariant in
    let es = c.loop-page.self.pages.entries in
    let after = c.forget.new.self.pages.entries in
    let rest = c.next.new.self in
    let i : Image = (c.in-Some.page.now, c.in-Some._used.now) in
    record {
      gone = one_forgotten c.args.images.now c.loop-page.page-iterator rest i es after so_far.gone c.in-Some.ensures.steps c.forget.ensures.gone c.forget.ensures.rest;
      rest = ap (λ (l : List (ℕ × Entries)). without rest l) c.forget.ensures.rest ∙ ap (λ (l : List Image). without l es) (sym c.in-Some.ensures.steps) ∙ so_far.rest;
      most = c.forget.ensures.most ∙ so_far.most;
    }

pub returns-clause-gone : goal.returns-clause-gone
returns-clause-gone c = all_forgotten c.args.images.now c.loop-page.page-iterator c.loop-page.self.pages.entries c.loop-page.invariant.gone c.in-None.ensures.steps.0

pub returns-clause-rest : goal.returns-clause-rest
returns-clause-rest c =
    ap (λ (l : List Image). without l c.loop-page.self.pages.entries) (sym c.in-None.ensures.steps.0) ∙ c.loop-page.invariant.rest
