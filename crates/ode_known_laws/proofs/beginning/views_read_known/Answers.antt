use Rattle.ode_known_laws.proofs.HeldLaws.{on_first}
use Rattle.ode_known_laws.proofs.KnownLaws.{versions_now}
use Rattle.ode_known_laws.proofs.beginning.views_read_known.Goals as goal
use Rattle.ode_version_laws.specs.Showing.{AreSettled, Shows}
use Rattle.ode_view_laws.specs.Viewing.{running}

pub returns-clause-bones : goal.returns-clause-bones
returns-clause-bones c = λ classes first beside base x known.
    let held = known.held in
    let shows = on_first base first held (Shows base) (c.held_worlds_are_shown.ensures.shows held.language base held.world held.held) in
    let settled = on_first base first held AreSettled (c.held_worlds_are_shown.ensures.settled held.language base held.world held.held) in
    c.views_are_read.ensures classes first beside x base known.viewed.over shows settled (versions_now classes first beside base x known)

pub returns-clause-object : goal.returns-clause-object
returns-clause-object c = λ classes first beside base x known id.
    let held = known.held in
    let stands = c.overlays_have_views.ensures.stands classes first x beside known.viewed.over in
    let shows = on_first base first held (Shows base) (c.held_worlds_are_shown.ensures.shows held.language base held.world held.held) in
    let settled = on_first base first held AreSettled (c.held_worlds_are_shown.ensures.settled held.language base held.world held.held) in
    c.reads_follow.ensures.object base x (running classes first x beside) id stands shows (settled id) (versions_now classes first beside base x known id)
