use Rattle.std.proofs.Common.{refl}
use Rattle.ode_known_laws.proofs.HeldLaws.{unused_now}
use Rattle.ode_known_laws.proofs.KnownLaws.{known_drawn, numbers_now, triggers_now, versions_now}
use Rattle.ode_known_laws.proofs.objects.makings_known.Goals as goal
use Rattle.ode_overlay.specs.Changing.{create}
use Rattle.ode_overlay_laws.specs.Following.{tells_new}
use Rattle.ode_value.specs.Making.{makes}
use Rattle.ode_value.specs.Pasts.{numbers}
use Rattle.ode_view_laws.proofs.ActLaws.{is_new}
use Rattle.ode_view_laws.specs.Viewing.{running}

pub returns : goal.returns
returns c = λ classes first beside base x known tables class fields.
    let y = running classes first x beside in
    let stands = c.overlays_have_views.ensures.stands classes first x beside known.viewed.over in
    let new = is_new classes first beside x known.viewed in
    let unused = unused_now base first known.held x y stands refl new known.viewed.began in
    known_drawn classes first beside base x known tells_new (makes (numbers tables) class fields y) (create class fields x)
    (c.makings_show.ensures classes first beside x known.viewed tables class fields)
    (record {
      remembers = c.calls_remember_firsts.ensures.create class fields x y stands known.remembers new;
      versions = c.calls_keep_versions.ensures.create class fields x y stands (versions_now classes first beside base x known);
      numbers = c.calls_keep_numbers.ensures.create class fields x y stands (numbers_now classes first beside base x known);
      triggers = c.calls_keep_triggers.ensures.create first.bones.classes class fields x y stands (triggers_now classes first beside base x known);
      formed = c.changes_stay_formed.ensures.make first.bones.classes base x class fields known.formed unused;
      keys = c.calls_keep_keys.ensures.create class fields x y stands known.keys new;
    })
