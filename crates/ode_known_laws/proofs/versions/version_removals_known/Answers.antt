use Rattle.std.proofs.Common.{refl}
use Rattle.ode_known_laws.proofs.FormedLaws.{drop_formed}
use Rattle.ode_known_laws.proofs.HeldLaws.{read_now, stored_now}
use Rattle.ode_known_laws.proofs.KnownLaws.{known_then, numbers_now, triggers_now, versions_now, versions_read}
use Rattle.ode_known_laws.proofs.versions.version_removals_known.Goals as goal
use Rattle.ode_known_laws.specs.Knowing.{declared_in}
use Rattle.ode_overlay.specs.Changing.{drop_version}
use Rattle.ode_value.specs.Acts.{gives}
use Rattle.ode_value.specs.Making.{drops}
use Rattle.ode_view_laws.specs.Viewing.{running}

pub returns : goal.returns
returns c = λ classes first beside base x known r.
    let y = running classes first x beside in
    let stands = c.overlays_have_views.ensures.stands classes first x beside known.viewed.over in
    let read = read_now base first known.held x y r.object stands refl c.objects_are_read_fresh.ensures in
    let stored = stored_now base first known.held x r.object read.object read.read c.objects_are_read_as_stored.ensures in
    known_then classes first beside base x known gives (drops r y) (drop_version (declared_in first) base r x)
    (c.version_removals_show.ensures classes first beside x known.viewed (declared_in first) base r read (versions_now classes first beside base x known r.object))
    (record {
      remembers = c.calls_remember_firsts.ensures.drop (declared_in first) base x y r stands known.remembers read;
      versions = c.calls_keep_versions.ensures.drop (declared_in first) base x y r stands (versions_now classes first beside base x known) read;
      numbers = c.calls_keep_numbers.ensures.drop (declared_in first) base x y r stands (numbers_now classes first beside base x known) read;
      triggers = c.calls_keep_triggers.ensures.drop first.bones.classes (declared_in first) base x y r stands (triggers_now classes first beside base x known) read;
      formed = drop_formed first.bones.classes base (declared_in first) x r read.object read.read (c.versions_stay_formed.ensures.drop first.bones.classes base x r read.object known.formed stored (versions_read classes first beside base x known r.object read.object stands read.is));
      keys = c.calls_keep_keys.ensures.drop (declared_in first) base x y r stands known.keys read;
    })
