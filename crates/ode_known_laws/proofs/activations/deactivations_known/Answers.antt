use Rattle.std.proofs.Common.{refl}
use Rattle.ode_known_laws.proofs.FormedLaws.{deactivate_formed}
use Rattle.ode_known_laws.proofs.HeldLaws.{read_now, stored_now}
use Rattle.ode_known_laws.proofs.KnownLaws.{known_then, numbers_now, triggers_now, versions_now}
use Rattle.ode_known_laws.proofs.activations.deactivations_known.Goals as goal
use Rattle.ode_known_laws.specs.Knowing.{declared_in}
use Rattle.ode_overlay.specs.Changing.{deactivate}
use Rattle.ode_overlay_laws.specs.Following.{on_live}
use Rattle.ode_value.specs.Acts.{gives}
use Rattle.ode_value.specs.Pasts.{numbers}
use Rattle.ode_value.specs.Statements.{switches_off_numbered}
use Rattle.ode_value.specs.declared.value.Value.TheVariants as value
use Rattle.std.specs.Prelude.{pos}
use Rattle.ode_view_laws.specs.Viewing.{running}

pub returns : goal.returns
returns c = λ classes first beside base x known r number tables.
    let y = running classes first x beside in
    let stands = c.overlays_have_views.ensures.stands classes first x beside known.viewed.over in
    let read = read_now base first known.held x y r.object stands refl c.objects_are_read_fresh.ensures in
    let stored = stored_now base first known.held x r.object read.object read.read c.objects_are_read_as_stored.ensures in
    known_then classes first beside base x known gives (on_live r.object (switches_off_numbered (numbers tables) r (value.Int (pos number))) y) (deactivate (declared_in first) base r.object number x)
    (c.deactivations_show.ensures classes first beside x known.viewed (declared_in first) base r number read.object read.read read.is tables)
    (record {
      remembers = c.calls_remember_firsts.ensures.deactivate (declared_in first) base x y r.object number stands known.remembers read;
      versions = c.calls_keep_versions.ensures.deactivate (declared_in first) base x y r.object number stands (versions_now classes first beside base x known) read;
      numbers = c.calls_keep_numbers.ensures.deactivate (declared_in first) base x y r.object number stands (numbers_now classes first beside base x known) read;
      triggers = c.calls_keep_triggers.ensures.deactivate first.bones.classes (declared_in first) base x y r.object number stands (triggers_now classes first beside base x known) read;
      formed = deactivate_formed first.bones.classes base (declared_in first) x r.object number read.object read.read (c.changes_stay_formed.ensures.deactivate first.bones.classes base x r.object number read.object known.formed stored);
      keys = c.calls_keep_keys.ensures.deactivate (declared_in first) base x y r.object number stands known.keys read;
    })
