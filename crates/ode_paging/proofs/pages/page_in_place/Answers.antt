use Rattle.std.proofs.Common.{◌+◌, ◌≤◌, length, take, drop, sym, ◌∙◌, arith, length-drop, length-take}
use Rattle.std.proofs.lemmas.Bool.{false≢true}
use Rattle.ode_pages.proofs.Paging.{length-page}
use Rattle.ode_paging.specs.declared.pages.TheConstants.{PAGE_SIZE}
use Rattle.ode_paging.proofs.pages.page_in_place.Goals as goal

pub returns-then-not-branch-clause-none : goal.returns-then-not-branch-clause-none
returns-then-not-branch-clause-none g c file entries tells page =
    let at = c.args.at in
    let whole : at + PAGE_SIZE ≤ length file =
    omega (arith, length-page PAGE_SIZE entries (take PAGE_SIZE (drop at file)) page, length-take PAGE_SIZE (drop at file), length-drop at file) in
    absurd (false≢true (sym c.if-not-branch.true ∙ c.in_ok-read_exact.ensures.whole file tells whole))
