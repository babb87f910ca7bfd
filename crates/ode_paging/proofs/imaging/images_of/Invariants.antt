use Rattle.ode_paging.proofs.Imaged.{IsImaged}
use Rattle.ode_paging.proofs.imaging.images_of.Given as goal

abbrev pub invariant-loop-page : goal.invariant-loop-page
invariant-loop-page l = IsImaged l.hand.pages.entries l.page-iterator l.images
