use Rattle.std.proofs.Common.{refl}
use Rattle.ode_known_laws.proofs.FormedLaws.{activate_formed}
use Rattle.ode_known_laws.proofs.HeldLaws.{read_now, stored_now}
use Rattle.ode_known_laws.proofs.KnownLaws.{known_drawn, numbers_now, taken_at, triggers_now, versions_now}
use Rattle.ode_known_laws.proofs.activations.activations_known.Goals as goal
use Rattle.ode_known_laws.specs.Knowing.{declared_in}
use Rattle.ode_activation_laws.specs.Switching.{tells_line, tells_value}
use Rattle.ode_overlay.specs.Changing.{activate}
use Rattle.ode_overlay_laws.specs.Following.{on_live}
use Rattle.ode_value.specs.Pasts.{numbers}
use Rattle.ode_value.specs.Statements.{activates_initial, switches_on_named}
use Rattle.std.specs.Prelude.{[]}
use Rattle.ode_view_laws.specs.Viewing.{running}

pub returns-clause-named : goal.returns-clause-named
returns-clause-named c = λ classes first beside base x known r tables o name t args at found takes.
    let y = running classes first x beside in
    let stands = c.overlays_have_views.ensures.stands classes first x beside known.viewed.over in
    let read = read_now base first known.held x y r.object stands refl c.objects_are_read_fresh.ensures in
    let stored = stored_now base first known.held x r.object read.object read.read c.objects_are_read_as_stored.ensures in
    known_drawn classes first beside base x known tells_value (switches_on_named (numbers tables) r name args y) (activate (declared_in first) base r.object t.class t.place args x)
    (c.activations_show.ensures.named classes first beside x known.viewed (declared_in first) base r read.object read.read read.is tables o name t args at found)
    (record {
      remembers = c.calls_remember_firsts.ensures.activate (declared_in first) base x y r.object t.class t.place args stands known.remembers read;
      versions = c.calls_keep_versions.ensures.activate (declared_in first) base x y r.object t.class t.place args stands (versions_now classes first beside base x known) read;
      numbers = c.calls_keep_numbers.ensures.activate (declared_in first) base x y r.object t.class t.place args stands (numbers_now classes first beside base x known) read;
      triggers = c.calls_keep_triggers.ensures.activate first.bones.classes (declared_in first) base x y r.object t.class t.place args stands (triggers_now classes first beside base x known) read (taken_at first.bones.classes y.now.bones r.object t.class t.place o at takes);
      formed = activate_formed first.bones.classes base (declared_in first) x r.object t.class t.place args read.object read.read (c.changes_stay_formed.ensures.activate first.bones.classes base x r.object t.class t.place args read.object known.formed stored);
      keys = c.calls_keep_keys.ensures.activate (declared_in first) base x y r.object t.class t.place args stands known.keys read;
    })

pub returns-clause-initial : goal.returns-clause-initial
returns-clause-initial c = λ classes first beside base x known id tables t o at takes.
    let y = running classes first x beside in
    let stands = c.overlays_have_views.ensures.stands classes first x beside known.viewed.over in
    let read = read_now base first known.held x y id stands refl c.objects_are_read_fresh.ensures in
    let stored = stored_now base first known.held x id read.object read.read c.objects_are_read_as_stored.ensures in
    known_drawn classes first beside base x known tells_line (on_live id (activates_initial (numbers tables) id t) y) (activate (declared_in first) base id t.class t.place [] x)
    (c.activations_show.ensures.initial classes first beside x known.viewed (declared_in first) base id read.object read.read read.is tables t)
    (record {
      remembers = c.calls_remember_firsts.ensures.activate (declared_in first) base x y id t.class t.place [] stands known.remembers read;
      versions = c.calls_keep_versions.ensures.activate (declared_in first) base x y id t.class t.place [] stands (versions_now classes first beside base x known) read;
      numbers = c.calls_keep_numbers.ensures.activate (declared_in first) base x y id t.class t.place [] stands (numbers_now classes first beside base x known) read;
      triggers = c.calls_keep_triggers.ensures.activate first.bones.classes (declared_in first) base x y id t.class t.place [] stands (triggers_now classes first beside base x known) read (taken_at first.bones.classes y.now.bones id t.class t.place o at takes);
      formed = activate_formed first.bones.classes base (declared_in first) x id t.class t.place [] read.object read.read (c.changes_stay_formed.ensures.activate first.bones.classes base x id t.class t.place [] read.object known.formed stored);
      keys = c.calls_keep_keys.ensures.activate (declared_in first) base x y id t.class t.place [] stands known.keys read;
    })
