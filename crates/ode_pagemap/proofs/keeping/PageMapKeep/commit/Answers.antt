use Rattle.std.proofs.Common.{◌∙◌, ℕ, subst}
use Rattle.std.proofs.lemmas.Result.{on_ok_weaker}
use Rattle.ode_host.specs.Host.{LeavesOnly}
use Rattle.ode_keep.specs.Keeping.{LeavesOldOrNew}
use Rattle.ode_paging.proofs.Handled.{damaged_more}
use Rattle.ode_paging.specs.Meaning.{PagesMeanIn}
use Rattle.ode_pagemap.proofs.Committing.{large_more}
use Rattle.ode_pagemap.proofs.Last.{refusal_more}
use Rattle.ode_pagemap.proofs.keeping.PageMapKeep.commit.Goals as goal

pub returns-clause-done : goal.returns-clause-done
returns-clause-done g c = on_ok_weaker c.commit.result (λ done entries h. record { hold = done entries h.hold; last = c.commit.ensures.format ∙ h.last }) c.commit.ensures.done

pub returns-clause-fits : goal.returns-clause-fits
returns-clause-fits g c = on_ok_weaker c.commit.result (λ fits entries h. fits entries h.hold) c.commit.ensures.fits

pub returns-clause-too_large : goal.returns-clause-too_large
returns-clause-too_large g c = large_more _ c.commit.result c.commit.ensures.too_large (λ total large entries h. large entries h.hold)

pub returns-clause-refused : goal.returns-clause-refused
returns-clause-refused g c = refusal_more c.commit.result c.commit.ensures.refused (λ still entries h. record { hold = still entries h.hold; last = c.commit.ensures.format ∙ h.last })

pub returns-clause-any_moment : goal.returns-clause-any_moment
returns-clause-any_moment g c entries h =
    let batch = c.args.batch.now in
    let old = g.H.Host.view c.args.host.now in
    let new = g.H.Host.view c.commit.new.host in
    subst (λ (f : ℕ). LeavesOnly old new (LeavesOldOrNew (PagesMeanIn f) entries batch old)) h.last (c.commit.ensures.any_moment entries h.hold)

pub returns-clause-damaged : goal.returns-clause-damaged
returns-clause-damaged g c = damaged_more _ c.commit.result c.commit.ensures.damaged (λ none entries h. none entries h.hold)
