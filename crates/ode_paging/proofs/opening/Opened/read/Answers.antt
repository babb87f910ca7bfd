use Rattle.std.proofs.Common.{◌≡◌, Err, ap}
use Rattle.std.proofs.lemmas.Result.{err_from_is_err_and}
use Rattle.ode_host.proofs.Moments.{tells_looks}
use Rattle.ode_keep.specs.declared.error.StartError.TheVariants.{BadPage}
use Rattle.ode_paging.proofs.Started.{bad_page, opened}
use Rattle.ode_paging.proofs.opening.Opened.read.Goals as goal

pub returns-in_err-sums-clause-bad_page : goal.returns-in_err-sums-clause-bad_page
returns-in_err-sums-clause-bad_page g c =
    let p = err_from_is_err_and c.from_residual-in_err-sums.result c.from_residual-in_err-sums.ensures.1 in
    rw (p.1, p.2) (λ page is file tells.
    let e = c.in_err-sums.field-0.0 in
    let same : e ≡ BadPage page = cc (is) in
    bad_page c.args.h.now file (g.H.Host.view c.lay_frames.new.host) (tells_looks file _ _ c.lay_frames.ensures.looks tells) c.new-images.result c.new-images.ensures
    c.lay_frames.new.images c.in_ok-journal.journal c.page_count-count.result page
    (c.in_ok-journal.ensures.found file tells) c.page_count-count.ensures.exact (c.in_err-sums.ensures.bad page (ap Err same)))

pub returns-clause-found : goal.returns-clause-found
returns-clause-found g c file tells =
    opened c.args.h.now file (g.H.Host.view c.lay_frames.new.host) (tells_looks file _ _ c.lay_frames.ensures.looks tells) c.new-images.result c.new-images.ensures
    (record { journal = c.in_ok-journal.journal; images = c.lay_frames.new.images; count = c.page_count-count.result; index = c.read_pages.new.index; bytes = c.in_ok-sums.sums.bytes; queued = c.in_ok-sums.sums.queued })
    (c.in_ok-journal.ensures.found file tells) c.page_count-count.ensures.exact c.in_ok-sums.ensures.read
