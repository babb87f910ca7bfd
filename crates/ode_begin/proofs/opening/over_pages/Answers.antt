use Rattle.std.proofs.Common.{refl, subst, sym}
use Rattle.ode_begin.specs.Opening.{HasAreas}
use Rattle.ode_begin.proofs.opening.over_pages.Goals as goal

pub returns-clause-pages : goal.returns-clause-pages
returns-clause-pages c = record { keeper = c.in-Pages.is; base = refl }

pub returns-in-Areas-clause-areas : goal.returns-in-Areas-clause-areas
returns-in-Areas-clause-areas c = subst HasAreas (sym c.in-Areas.is) tt
