use Rattle.std.proofs.Common.{refl}
use Rattle.ode_known_laws.proofs.FormedLaws.{put_formed}
use Rattle.ode_known_laws.proofs.HeldLaws.{read_now, stored_now}
use Rattle.ode_known_laws.proofs.KnownLaws.{numbers_now, triggers_now, versions_now}
use Rattle.ode_known_laws.proofs.TakenLaws.{put_above, put_known}
use Rattle.ode_known_laws.proofs.points.puts_known.Goals as goal
use Rattle.ode_known_laws.specs.Knowing.{declared_in}
use Rattle.ode_overlay.specs.Changing.{put_acts}
use Rattle.ode_view_laws.specs.Viewing.{nothing_beside, running}

pub returns : goal.returns
returns c = λ base first x known id rs.
    let classes = first.bones.classes in
    let y = running classes first x nothing_beside in
    let stands = c.overlays_have_views.ensures.stands classes first x nothing_beside known.viewed.over in
    let read = read_now base first known.held x y id stands refl c.objects_are_read_fresh.ensures in
    let stored = stored_now base first known.held x id read.object read.read c.objects_are_read_as_stored.ensures in
    put_known base first x known (put_acts (declared_in first) base id rs x) (put_above base first x known (declared_in first) id rs read.object read.read)
    (record {
      remembers = c.calls_remember_firsts.ensures.put (declared_in first) base x y id rs stands known.remembers read;
      versions = c.calls_keep_versions.ensures.put (declared_in first) base x y id rs stands (versions_now classes first nothing_beside base x known) read;
      numbers = c.calls_keep_numbers.ensures.put (declared_in first) base x y id rs stands (numbers_now classes first nothing_beside base x known) read;
      triggers = c.calls_keep_triggers.ensures.put first.bones.classes (declared_in first) base x y id rs stands (triggers_now classes first nothing_beside base x known) read;
      formed = put_formed first.bones.classes base (declared_in first) x id rs read.object read.read (c.changes_stay_formed.ensures.put first.bones.classes base x id rs read.object known.formed stored);
      keys = c.calls_keep_keys.ensures.put (declared_in first) base x y id rs stands known.keys read;
    })
