use Rattle.std.proofs.Common.{◌≡◌, ◌+◌, ◌-◌, ◌++◌, ℕ, List, drop, length, replicate, ap, subst, ◌∙◌, arith, length-append}
use Rattle.std.proofs.lemmas.List.{drop-replicate}
use Rattle.std.specs.Option.{IfNone, IfSome}
use Rattle.ode_keep.specs.Entries.{Entries}
use Rattle.ode_pages.specs.Pages.{IsPage}
use Rattle.ode_pages.proofs.Paging.{length-page}
use Rattle.ode_paging.specs.Standing.{filled}
use Rattle.ode_paging.specs.declared.pages.TheConstants.{PAGE_SIZE}
use Rattle.ode_paging.proofs.pages.page_of.Goals as goal

zeros_behind : (used to : List ℕ) → to ≡ used ++ drop (0 + length used) (replicate PAGE_SIZE 0) → to ≡ filled used
zeros_behind used to made =
    let here : 0 + length used ≡ length used = omega arith in
    made ∙ ap (λ (n : ℕ). used ++ drop n (replicate PAGE_SIZE 0)) here ∙ ap (λ (l : List ℕ). used ++ l) (drop-replicate (length used) PAGE_SIZE 0)

pub returns-then-used-gt-PAGE_SIZE-clause-none : goal.returns-then-used-gt-PAGE_SIZE-clause-none
returns-then-used-gt-PAGE_SIZE-clause-none c entries page =
    let used = c.args.used.now in
    omega (arith, c.if-used-gt-PAGE_SIZE.true, length-page PAGE_SIZE entries (filled used) page, length-append used (replicate (PAGE_SIZE - length used) 0))

pub returns-clause-some : goal.returns-clause-some
returns-clause-some c =
    subst (λ (l : List ℕ). IfSome c.read.result (λ page. IsPage PAGE_SIZE page l)) (zeros_behind c.args.used.now c.put_over.new.to c.put_over.ensures) c.read.ensures.some

pub returns-clause-none : goal.returns-clause-none
returns-clause-none c =
    subst (λ (l : List ℕ). IfNone c.read.result ((entries : Entries) → IsPage PAGE_SIZE entries l → ⊥)) (zeros_behind c.args.used.now c.put_over.new.to c.put_over.ensures) c.read.ensures.none
