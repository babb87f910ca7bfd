use Rattle.ode_view_laws.proofs.ViewLaws.{continued_view, view_stands}
use Rattle.ode_view_laws.proofs.views.overlays_have_views.Goals as goal

pub returns-clause-stands : goal.returns-clause-stands
returns-clause-stands c = view_stands

pub returns-clause-only : goal.returns-clause-only
returns-clause-only c = continued_view
