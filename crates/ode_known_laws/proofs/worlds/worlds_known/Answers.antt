use Rattle.ode_known_laws.proofs.HeldLaws.{on_first}
use Rattle.ode_known_laws.proofs.LightLaws.{first_light, light_by}
use Rattle.ode_known_laws.proofs.worlds.worlds_known.Goals as goal
use Rattle.ode_known_laws.specs.Knowing.{declared_in}
use Rattle.ode_overlay.specs.Settling.{bytes_after, bytes_before}
use Rattle.ode_value.specs.Keeping.{kept_bones}
use Rattle.ode_value.specs.Weights.{weight}
use Rattle.ode_version_laws.specs.Growing.{GoesOnNumbered}
use Rattle.ode_version_laws.specs.Showing.{AreSettled}
use Rattle.ode_view_laws.specs.Viewing.{running}

pub returns-clause-numbered : goal.returns-clause-numbered
returns-clause-numbered c = λ first beside base x known. known.numbered.now

pub returns-clause-light : goal.returns-clause-light
returns-clause-light c = λ first beside base x known.
    let y = running first.bones.classes first x beside in
    let stands = c.overlays_have_views.ensures.stands first.bones.classes first x beside known.viewed.over in
    let settled = on_first base first known.held AreSettled (c.held_worlds_are_shown.ensures.settled known.held.language base known.held.world known.held.held) in
    let numbered : GoesOnNumbered y = record { first = known.numbered.first; now = known.numbered.now; next = known.numbered.next; classes = known.numbered.classes } in
    light_by (weight (kept_bones y.now.bones)) (weight first.bones) (bytes_after (declared_in first) x) (bytes_before (declared_in first) x) (c.growths_are_the_worlds.ensures x y stands known.remembers settled numbered)
    (c.changed_objects_weighed_less.ensures x y stands known.remembers settled numbered) (first_light base first known.held)
