use Rattle.std.proofs.Common.{◌≡◌, ◌≤◌, List, ℕ, length, subst, sym}
use Rattle.ode_gate.specs.declared.places.TheConstants.{PAGE_LEN}
use Rattle.ode_pages.specs.Pages.{IsPage}
use Rattle.ode_paging.specs.Standing.{filled}
use Rattle.ode_paging.proofs.Imaged.{all_imaged, none_imaged, one_imaged}
use Rattle.ode_paging.proofs.imaging.images_of.Goals as goal

pub loop-page-init : goal.loop-page-init
loop-page-init c =
    let same : c.into_iter-page-iterator.result ≡ c.args.hand.now.pages.entries = cc in
    none_imaged c.args.hand.now.pages.entries c.into_iter-page-iterator.result c.new-images.result same c.new-images.ensures

pub loop-page-preserved : goal.loop-page-preserved
loop-page-preserved c =
    one_imaged c.args.hand.now.pages.entries c.loop-page.page-iterator c.next.new.self c.loop-page.images c.put.new.self c.in-Some.page.now c.in-Some.entries.now c.in_ok-used.used
    c.loop-page.invariant c.in-Some.ensures.steps c.iter-page-items.ensures.ordered c.in_ok-put.ensures.ok
    (subst (λ (l : List ℕ). IsPage PAGE_LEN c.in-Some.entries.now (filled l)) (sym c.in_ok-used.ensures) c.used_bytes.ensures.page)
    (subst (λ (l : List ℕ). length l ≤ PAGE_LEN) (sym c.in_ok-used.ensures) c.used_bytes.ensures.short)

pub returns : goal.returns
returns c = all_imaged c.args.hand.now.pages.entries c.loop-page.page-iterator c.loop-page.images c.loop-page.invariant c.in-None.ensures.steps.0
