use Rattle.std.proofs.Common.{arith}
use Rattle.ode_cutting.proofs.Frames.{cut_as, fit_region, if_framed, if_unframed}
use Rattle.ode_cutting.proofs.framing.frame_of_pages.Goals as goal

pub returns-in_default-clause-long : goal.returns-in_default-clause-long
returns-in_default-clause-long c entries is fit = (rw c.in_default.is at c.in_ok-pages.ensures.long) entries is fit.each

pub returns-clause-pages : goal.returns-clause-pages
returns-clause-pages c =
    if_framed c.frame_of.result c.frame_of.ensures.payload
    (λ frame is entries spelled. cut_as entries c.in-Some.pages frame.payload (omega arith) ((rw c.in-Some.is at c.in_ok-pages.ensures.whole) entries spelled) is)

pub returns-clause-long : goal.returns-clause-long
returns-clause-long c =
    if_unframed c.frame_of.result c.frame_of.ensures.long
    (λ long entries spelled fit.
    let fits = fit_region entries c.in-Some.pages ((rw c.in-Some.is at c.in_ok-pages.ensures.whole) entries spelled) fit in
    omega (arith, long, fits))
