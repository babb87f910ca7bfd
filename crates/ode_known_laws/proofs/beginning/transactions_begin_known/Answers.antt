use Rattle.ode_heap.specs.Answering.{counters_of}
use Rattle.ode_known_laws.proofs.HeldLaws.{held_numbered, held_ordered, on_first}
use Rattle.ode_known_laws.proofs.KnownLaws.{begun_numbered, begun_triggers, begun_versioned}
use Rattle.ode_known_laws.proofs.beginning.transactions_begin_known.Goals as goal
use Rattle.ode_laws.specs.Alike.{NumberWorld}
use Rattle.ode_object_laws.specs.Objects.{HaveTriggers}
use Rattle.ode_overlay_laws.specs.Standing.{origin_as}
use Rattle.ode_value.specs.Posting.{waiting}
use Rattle.ode_version_laws.specs.Denoting.{HaveVersions}
use Rattle.std.specs.Prelude.{length}

pub returns : goal.returns
returns c = λ origin base w held.
    let h = held.held.world in
    let numbered = c.good_worlds_are_numbered.ensures held.language held.world h.good in
    let queued = length (waiting (origin_as origin) w.bones.queue) in
    record {
      held = held;
      viewed = c.transactions_begin_with_views.ensures.viewed origin w (held_ordered base w held numbered);
      remembers = c.firsts_are_remembered.ensures.begun w;
      versions =
          begun_versioned origin w
          (on_first base w held (λ (v : NumberWorld). HaveVersions v.bones) (c.good_worlds_are_settled.ensures.versions held.language h.stored.tables h.stored.world held.world h.good h.stands));
      numbered = begun_numbered origin w (held_numbered base w held numbered);
      formed = c.overlays_begin_formed.ensures w.bones.classes base (counters_of w.bones) queued origin;
      keys = c.calls_keep_keys.ensures.begun w (counters_of w.bones) queued origin;
      triggers =
          begun_triggers origin w
          (on_first base w held (λ (v : NumberWorld). HaveTriggers v.bones.classes v.bones) (c.good_worlds_have_triggers.ensures held.language h.stored.tables h.stored.world held.world h.good h.stands));
    }
