use Rattle.std.proofs.Common.{refl}
use Rattle.ode_known_laws.proofs.FormedLaws.{remove_formed}
use Rattle.ode_known_laws.proofs.HeldLaws.{read_now, stored_now}
use Rattle.ode_known_laws.proofs.KnownLaws.{known_then, numbers_now, triggers_now, versions_now}
use Rattle.ode_known_laws.proofs.objects.removals_known.Goals as goal
use Rattle.ode_known_laws.specs.Knowing.{declared_in}
use Rattle.ode_overlay.specs.Changing.{remove}
use Rattle.ode_overlay_laws.specs.Following.{on_live}
use Rattle.ode_value.specs.Acts.{gives}
use Rattle.ode_value.specs.Making.{removes}
use Rattle.ode_view_laws.specs.Viewing.{running}

pub returns : goal.returns
returns c = λ classes first beside base x known id.
    let y = running classes first x beside in
    let stands = c.overlays_have_views.ensures.stands classes first x beside known.viewed.over in
    let read = read_now base first known.held x y id stands refl c.objects_are_read_fresh.ensures in
    let stored = stored_now base first known.held x id read.object read.read c.objects_are_read_as_stored.ensures in
    known_then classes first beside base x known gives (on_live id (removes id) y) (remove (declared_in first) base id x)
    (c.removals_show.ensures classes first beside x known.viewed (declared_in first) base id read.object read.read read.is)
    (record {
      remembers = c.calls_remember_firsts.ensures.remove (declared_in first) base x y id stands known.remembers read;
      versions = c.calls_keep_versions.ensures.remove (declared_in first) base x y id stands (versions_now classes first beside base x known) read;
      numbers = c.calls_keep_numbers.ensures.remove (declared_in first) base x y id stands (numbers_now classes first beside base x known) read;
      triggers = c.calls_keep_triggers.ensures.remove first.bones.classes (declared_in first) base x y id stands (triggers_now classes first beside base x known) read;
      formed = remove_formed first.bones.classes base (declared_in first) x id read.object read.read (c.changes_stay_formed.ensures.remove first.bones.classes base x id read.object known.formed stored);
      keys = c.calls_keep_keys.ensures.remove (declared_in first) base x y id stands known.keys read;
    })
