use Rattle.std.proofs.Common.{refl}
use Rattle.ode_known_laws.proofs.FormedLaws.{write_formed}
use Rattle.ode_known_laws.proofs.HeldLaws.{read_now, stored_now}
use Rattle.ode_known_laws.proofs.KnownLaws.{known_then, numbers_now, triggers_now, versions_now}
use Rattle.ode_known_laws.proofs.versions.writes_known.Goals as goal
use Rattle.ode_known_laws.specs.Knowing.{declared_in}
use Rattle.ode_overlay.specs.Changing.{write}
use Rattle.ode_value.specs.Acts.{gives}
use Rattle.ode_value.specs.Making.{sets_field}
use Rattle.ode_view_laws.specs.Viewing.{running}

pub returns : goal.returns
returns c = λ classes first beside base x known r slot v.
    let y = running classes first x beside in
    let stands = c.overlays_have_views.ensures.stands classes first x beside known.viewed.over in
    let read = read_now base first known.held x y r.object stands refl c.objects_are_read_fresh.ensures in
    let stored = stored_now base first known.held x r.object read.object read.read c.objects_are_read_as_stored.ensures in
    known_then classes first beside base x known gives (sets_field r slot v y) (write (declared_in first) base r slot v x)
    (c.writes_show.ensures classes first beside x known.viewed (declared_in first) base r slot v read (versions_now classes first beside base x known r.object))
    (record {
      remembers = c.calls_remember_firsts.ensures.write (declared_in first) base x y r slot v stands known.remembers read;
      versions = c.calls_keep_versions.ensures.write (declared_in first) base x y r slot v stands (versions_now classes first beside base x known) read;
      numbers = c.calls_keep_numbers.ensures.write (declared_in first) base x y r slot v stands (numbers_now classes first beside base x known) read;
      triggers = c.calls_keep_triggers.ensures.write first.bones.classes (declared_in first) base x y r slot v stands (triggers_now classes first beside base x known) read;
      formed = write_formed first.bones.classes base (declared_in first) x r read.object read.read slot v (c.versions_stay_formed.ensures.write first.bones.classes base x r slot v read.object known.formed stored);
      keys = c.calls_keep_keys.ensures.write (declared_in first) base x y r slot v stands known.keys read;
    })
