use Rattle.std.proofs.Common.{◌∙◌, ap, subst}
use Rattle.ode_codec.specs.declared.record.Counters.{Counters}
use Rattle.ode_known_laws.proofs.HeldLaws.{on_first}
use Rattle.ode_known_laws.proofs.RewoundLaws.{left_by, left_known, left_viewed, more_drawn}
use Rattle.ode_known_laws.proofs.rewinding.rewinds_known.Goals as goal
use Rattle.ode_known_laws.specs.Knowing.{declared_in}
use Rattle.ode_laws.specs.Alike.{NumberWorld}
use Rattle.ode_object_laws.proofs.NumberLaws.{numbers_of}
use Rattle.ode_object_laws.specs.Objects.{HaveTriggers}
use Rattle.ode_overlay.specs.Rewinding.{rewind}
use Rattle.ode_settling_laws.specs.Formed.{IsFormed}
use Rattle.ode_value.specs.Making.{stamp_now}
use Rattle.ode_version_laws.specs.Denoting.{HaveVersions}
use Rattle.ode_version_laws.specs.Remembering.{Remembers}
use Rattle.ode_version_laws.specs.Showing.{AreSettled}
use Rattle.ode_view_laws.specs.Viewing.{running}

pub returns : goal.returns
returns c = λ classes first beside base x known tables.
    let h = known.held.held.world in
    let y = running first.bones.classes first x beside in
    let stands = c.overlays_have_views.ensures.stands first.bones.classes first x beside known.viewed.over in
    let settled = on_first base first known.held AreSettled (c.held_worlds_are_shown.ensures.settled known.held.language base known.held.world known.held.held) in
    let versions =
    on_first base first known.held (λ (v : NumberWorld). HaveVersions v.bones) (c.good_worlds_are_settled.ensures.versions known.held.language h.stored.tables h.stored.world known.held.world h.good h.stands) in
    let triggers = on_first base first known.held (λ (v : NumberWorld). HaveTriggers v.bones.classes v.bones) (c.good_worlds_have_triggers.ensures known.held.language h.stored.tables h.stored.world known.held.world h.good h.stands) in
    let viewed = left_viewed tables first beside base x known (c.rewinds_follow.ensures.stands tables x y stands known.remembers settled) in (
      left_by tables classes first.bones.classes first x beside ∙ viewed.0,
      left_known tables first beside base x known viewed (c.rewinds_follow.ensures.remembers tables x y known.remembers)
          (c.rewinds_follow.ensures.versions tables x y stands known.remembers versions)
          (c.rewinds_keep_objects.ensures.numbers tables y (numbers_of first.bones known.numbered.first) (more_drawn tables first beside base x known))
          (c.rewinds_keep_objects.ensures.triggers tables y first.bones.classes triggers)
          (on_first base first known.held (λ (v : NumberWorld). IsFormed v.bones.classes base (rewind (declared_in first) x))
          (c.rewinds_stay_formed.ensures known.held.language base known.held.world (declared_in first) x h (subst (Remembers x.objects) known.held.is known.remembers)
          (ap (λ (k : Counters). k.added) stands.counters ∙ ap (λ (v : NumberWorld). stamp_now v.bones) known.held.is) (subst (λ (v : NumberWorld). IsFormed v.bones.classes base x) known.held.is known.formed)))
          (c.calls_keep_keys.ensures.rewind first (declared_in first) x known.remembers known.keys),
    )
