use Rattle.ode_version_laws.proofs.HeldLaws.{held_settled, shows_law}
use Rattle.ode_version_laws.proofs.reading.held_worlds_are_shown.Goals as goal

pub returns-clause-shows : goal.returns-clause-shows
returns-clause-shows c =
    let shown = c.heaps_show_held_worlds.ensures in
    shows_law shown.object shown.version

pub returns-clause-settled : goal.returns-clause-settled
returns-clause-settled c = held_settled
