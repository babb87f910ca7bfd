-- What is known of an overlay goes on behind a call.
use Rattle.std.proofs.Common.{Bool, true, false, cond, ◌≡◌, ◌≤◌, ℕ, List, Option, Some, Ok, Err, refl, subst, le_refl, le_trans}
use Rattle.std.specs.Prelude.{◌&&◌}
use Rattle.ode_codec.specs.declared.record.Entry.{Entry}
use Rattle.ode_formed_laws.specs.Staying.{StaysFormed}
use Rattle.ode_keep.specs.Entries.{Entries}
use Rattle.ode_key_laws.specs.Keys.{HoldsKeys, StillHoldsKeys}
use Rattle.ode_known_laws.specs.Knowing.{IsKnown, StaysKnown}
use Rattle.ode_laws.specs.Alike.{NumberTx, NumberWorld}
use Rattle.ode_laws.specs.Numbered.{AreNumbered}
use Rattle.ode_object_laws.proofs.NumberLaws.{are_numbered, numbers_of}
use Rattle.ode_laws.proofs.Rows.{at_numbered}
use Rattle.ode_object_laws.specs.Objects.{HaveNumbers, HaveTriggers, StillHaveNumbers, StillHaveTriggers, TakesTrigger}
use Rattle.ode_objects.specs.Values.{are_args}
use Rattle.ode_objects.specs.declared.tracked.Tracked.{Tracked}
use Rattle.ode_overlay.specs.Answers.{Answer}
use Rattle.ode_overlay.specs.Changing.{object_of}
use Rattle.ode_overlay.specs.Layers.{Layer, queueing}
use Rattle.ode_overlay.specs.Records.{becomes}
use Rattle.ode_overlay.specs.Settling.{collect, has_room, with_entry}
use Rattle.ode_overlay.specs.declared.origin.Origin.{Origin}
use Rattle.ode_overlay_laws.proofs.AlteredLaws.{Has, has_found}
use Rattle.ode_overlay_laws.specs.Following.{Continues}
use Rattle.ode_overlay_laws.specs.Standing.{IsFresh, Stands, object_as}
use Rattle.ode_settling_laws.specs.Formed.{IsFormed}
use Rattle.ode_value.specs.Acts.{Act, Outcome}
use Rattle.ode_value.specs.Denoting.{object_at, object_numbered}
use Rattle.ode_value.specs.Footprints.{Footprint}
use Rattle.ode_value.specs.Worlds.{Bones, Declared, Object}
use Rattle.ode_version_laws.specs.Denoting.{HasVersions, HaveVersions}
use Rattle.ode_version_laws.specs.Growing.{GoesOnNumbered}
use Rattle.ode_version_laws.specs.Leaving.{StillHaveVersions, StillRemembers}
use Rattle.ode_view_laws.proofs.ShowLaws.{ordered_by}
use Rattle.ode_view_laws.proofs.ViewLaws.{view_stands}
use Rattle.ode_view_laws.specs.Ordering.{IsOrdered}
use Rattle.ode_view_laws.specs.Showing.{IsViewed, Shows, ShowsDrawing, StaysViewed}
use Rattle.ode_view_laws.specs.Viewing.{Beside, began_over, nothing_beside, running, world_now}

-- ---- at the start

pub begun_versioned : (origin : Origin) (w : NumberWorld) → HaveVersions w.bones → HaveVersions (world_now w.bones.classes w (began_over origin w)).bones
unfolding world_now
begun_versioned origin w versions = versions

pub begun_numbered : (origin : Origin) (w : NumberWorld) → AreNumbered w.bones → GoesOnNumbered (running w.bones.classes w (began_over origin w) nothing_beside)
unfolding world_now
begun_numbered origin w numbered = record { first = numbered; now = record { classes = numbered.classes; rising = numbered.rising; objects = numbered.objects }; next = le_refl w.bones.next; classes = refl }

pub begun_triggers : (origin : Origin) (w : NumberWorld) → HaveTriggers w.bones.classes w.bones → HaveTriggers w.bones.classes (world_now w.bones.classes w (began_over origin w)).bones
unfolding world_now
begun_triggers origin w triggers = triggers

-- ---- what goes on

-- other classes change no object
versioned_by : (classes other : List Declared) (first : NumberWorld) (x : Layer) → HaveVersions (world_now classes first x).bones → HaveVersions (world_now other first x).bones
unfolding world_now
versioned_by classes other first x versions = versions

pub numbered_by : (classes other : List Declared) (first : NumberWorld) (x : Layer) → HaveNumbers (world_now classes first x).bones → HaveNumbers (world_now other first x).bones
unfolding world_now
numbered_by classes other first x numbers = numbers

triggers_by : (own classes other : List Declared) (first : NumberWorld) (x : Layer) → HaveTriggers own (world_now classes first x).bones → HaveTriggers own (world_now other first x).bones
unfolding world_now
triggers_by own classes other first x triggers = triggers

-- a view goes on as another one
pub views_go_on : (classes : List Declared) (first : NumberWorld) (beside : Beside) (x x' : Layer) → Continues (running classes first x beside) (running classes first x' beside)
unfolding world_now
views_go_on classes first beside x x' = record { first = refl; bones = refl; deferred = refl; text = refl; run = refl }

-- the numbers of a later layer
pub goes_numbered : (first : NumberWorld) (x x' : Layer) → GoesOnNumbered (running first.bones.classes first x nothing_beside) → IsViewed first x'
    → HaveNumbers (world_now first.bones.classes first x').bones → (world_now first.bones.classes first x).bones.next ≤ (world_now first.bones.classes first x').bones.next
    → GoesOnNumbered (running first.bones.classes first x' nothing_beside)
unfolding world_now
goes_numbered first x x' was viewed numbers more = record {
  first = was.first;
  now = are_numbered (world_now first.bones.classes first x').bones was.first.classes viewed.now.rising numbers;
  next = le_trans was.next more;
  classes = refl;
}

-- the next number is that of the layer
same_next : (classes other : List Declared) (first : NumberWorld) (x x' : Layer) → (world_now classes first x).bones.next ≤ (world_now classes first x').bones.next
    → (world_now other first x).bones.next ≤ (world_now other first x').bones.next
unfolding world_now
same_next classes other first x x' more = more

-- what a call leaves beside its view
pub record Leaves {R : Type 0} (base : Entries) (y : NumberTx) (answer : Answer (R × Layer)) : Type 0 where
  pub remembers : StillRemembers y.first answer
  pub versions : StillHaveVersions y answer
  pub numbers : StillHaveNumbers y answer
  pub triggers : StillHaveTriggers y.first.bones.classes y answer
  pub formed : StaysFormed y.first.bones.classes base answer
  pub keys : StillHoldsKeys y.first answer

module _ (classes : List Declared) (first : NumberWorld) (beside : Beside) (base : Entries) (x : Layer) (known : IsKnown base first x) where
  abbrev y : NumberTx
  y = running classes first x beside

  abbrev now : Layer → NumberTx
  now x' = running classes first x' beside

  pub versions_now : HaveVersions y.now.bones
  versions_now = versioned_by first.bones.classes classes first x known.versions

  pub numbers_now : HaveNumbers y.now.bones
  numbers_now = numbered_by first.bones.classes classes first x (numbers_of (world_now first.bones.classes first x).bones known.numbered.now)

  pub triggers_now : HaveTriggers first.bones.classes y.now.bones
  triggers_now = triggers_by first.bones.classes first.bones.classes classes first x known.triggers

  -- of what is read
  pub versions_read : (id : ℕ) (new : Option Tracked) → Stands x y → IsFresh x y id new → (t : Tracked) → object_of new id x ≡ Some t → HasVersions (object_as id t.current)
  versions_read id new stands fresh t is =
      let there : Has y id (Some t) = subst (Has y id) is (has_found x y id new stands fresh) in
      versions_now id (object_as id t.current) there.object

  pub known_behind : (x' : Layer) → IsViewed first x' → Leaves {R = Unit {0}} base y (Ok (tt, x')) → IsKnown base first x'
  known_behind x' viewed left =
      let stands = view_stands classes first x' beside viewed.over in
      let on = views_go_on classes first beside x x' in
      let numbers = left.numbers (now x') stands on in
      record {
        held = known.held;
        viewed = viewed;
        remembers = left.remembers;
        versions = versioned_by classes first.bones.classes first x' (left.versions (now x') stands on);
        numbered = goes_numbered first x x' known.numbered viewed (numbered_by classes first.bones.classes first x' numbers.0) (same_next classes first.bones.classes first x x' numbers.1);
        formed = left.formed;
        keys = left.keys;
        triggers = triggers_by first.bones.classes classes first.bones.classes first x' (left.triggers (now x') stands on);
      }

  module _ {R S : Type 0} (next : R → Act (Unit {0}) ℕ S) (outcome : Outcome (Unit {0}) ℕ S) where
    pub known_then : (answer : Answer (R × Layer)) → Shows now next x answer outcome × StaysViewed first answer → Leaves base y answer
        → Shows now next x answer outcome × StaysKnown base first answer
    known_then (Err why) shows left = (shows.0, tt)
    known_then (Ok done) shows left = (
      shows.0,
      known_behind done.1 shows.1
          (record { remembers = left.remembers; versions = left.versions; numbers = left.numbers; triggers = left.triggers; formed = left.formed; keys = left.keys }),
    )

    -- the same of a call that draws a number
    pub known_drawn : (answer : Answer (R × Layer)) → ShowsDrawing now next x answer outcome × StaysViewed first answer → Leaves base y answer
        → ShowsDrawing now next x answer outcome × StaysKnown base first answer
    known_drawn (Err why) shows left = (shows.0, tt)
    known_drawn (Ok done) shows left = known_then (Ok done) shows left

-- ---- a footprint

-- whatever the transaction looked at, drew and queued
pub footed_known : (base : Entries) (first : NumberWorld) (x : Layer) (footprint : Footprint) → IsKnown base first x → IsKnown base first (record x { footprint = footprint })
unfolding world_now becomes
footed_known base first x footprint known = record {
  held = known.held;
  viewed = record {
    over = record { counters = known.viewed.over.counters; queued = known.viewed.over.queued };
    began = known.viewed.began;
    now = record { rising = known.viewed.now.rising; drawn = known.viewed.now.drawn; rows = known.viewed.now.rows };
    touched = known.viewed.touched;
  };
  remembers = known.remembers;
  versions = known.versions;
  numbered = record { first = known.numbered.first; now = known.numbered.now; next = known.numbered.next; classes = refl };
  formed = record { keys = known.formed.keys; each = known.formed.each; newest = known.formed.newest };
  keys = record { now = known.keys.now; grown = known.keys.grown; gone = known.keys.gone };
  triggers = known.triggers;
}

-- ---- activations

-- the class of an object that is there has a trigger
pub taken_at : (classes : List Declared) (b : Bones) (id class place : ℕ) (o : Object) → object_at b id ≡ Some o → TakesTrigger classes o.class class place
    → (q : Object) → object_numbered id b.objects ≡ Some q → TakesTrigger classes q.class class place
taken_at classes b id class place o at takes q is =
    let there = at_numbered b id o at in
    let same : o ≡ q = cc (there, is) in
    subst (λ (w : Object). TakesTrigger classes w.class class place) same takes

-- ---- firings

module _ (base : Entries) (first : NumberWorld) (x : Layer) (known : IsKnown base first x) (e : Entry) (independent : Bool) where
  abbrev collected : Bool → Bool × Layer
  collected b = cond b (true, with_entry e independent (queueing x)) (false, queueing x)

  by_room : (b : Bool) → IsViewed first (collected b).1 → IsFormed first.bones.classes base (collected b).1 → HoldsKeys first (collected b).1 → IsKnown base first (collected b).1
  unfolding world_now
  by_room true viewed formed keys = record {
    held = known.held;
    viewed = viewed;
    remembers = known.remembers;
    versions = known.versions;
    numbered = record { first = known.numbered.first; now = known.numbered.now; next = known.numbered.next; classes = refl };
    formed = formed;
    keys = keys;
    triggers = known.triggers;
  }
  by_room false viewed formed keys = record {
    held = known.held;
    viewed = viewed;
    remembers = known.remembers;
    versions = known.versions;
    numbered = record { first = known.numbered.first; now = known.numbered.now; next = known.numbered.next; classes = refl };
    formed = formed;
    keys = keys;
    triggers = known.triggers;
  }

  pub collected_known : IsViewed first (collect e independent x).1 → IsFormed first.bones.classes base (collect e independent x).1 → HoldsKeys first (collect e independent x).1 → IsKnown base first (collect e independent x).1
  unfolding collect
  collected_known viewed formed keys = by_room (has_room x && are_args e.args) viewed formed keys

-- the parts of the view are in order
pub ordered_now : (classes : List Declared) (first : NumberWorld) (beside : Beside) (base : Entries) (x : Layer) → IsKnown base first x → IsOrdered (running classes first x beside).now
ordered_now classes first beside base x known = ordered_by first.bones.classes classes first x known.viewed.now
