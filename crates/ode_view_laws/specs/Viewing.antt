-- The transaction that an overlay stands for, as a function of the world at its start.
use Rattle.std.specs.Prelude.{◌≡◌, ℕ, List, [], ◌∷◌, ◌++◌, map, length}
use Rattle.ode_heap.specs.Answering.{counters_of}
use Rattle.ode_laws.specs.Alike.{NumberTx, NumberWorld}
use Rattle.ode_objects.specs.declared.tracked.Tracked.{Tracked}
use Rattle.ode_overlay.specs.Layers as layers
use Rattle.ode_overlay.specs.Layers.{Layer}
use Rattle.ode_overlay.specs.declared.origin.Origin.{Origin}
use Rattle.ode_overlay_laws.specs.Standing.{collected_as, kept_as, last_keys, object_as, origin_as}
use Rattle.ode_value.specs.Keys.{counters_key}
use Rattle.ode_value.specs.Pasts.{Kept}
use Rattle.ode_value.specs.Posting.{waiting}
use Rattle.ode_value.specs.Transactions.{Firing}
use Rattle.ode_value.specs.Worlds.{Declared, Object}
use Rattle.ode_view_laws.specs.Ordering.{number_of, row_number}
use Rattle.ode_view_laws.specs.Putting.{put}

-- ---- the world now

-- the first world's objects with the tracked ones put among them, each in its place
abbrev pub objects_now : List (ℕ × Tracked) → List Object → List Object
objects_now [] first = first
objects_now (e ∷ es) first = put number_of (object_as e.0 e.1.current) (objects_now es first)

-- and what is kept of their pasts
abbrev pub pasts_now : List (ℕ × Tracked) → List (ℕ × Kept (Unit {0}) ℕ) → List (ℕ × Kept (Unit {0}) ℕ)
pasts_now [] first = first
pasts_now (e ∷ es) first = put row_number (e.0, kept_as e.1.current) (pasts_now es first)

-- by these classes
unfoldable pub world_now : List Declared → NumberWorld → Layer → NumberWorld
world_now classes first x = record {
  bones = record first.bones { classes = classes; objects = objects_now x.objects first.bones.objects; next = x.next };
  pasts = pasts_now x.objects first.pasts;
}

-- ---- the transaction

-- what a transaction has beside an overlay: its deferred firings, its text, and how many statements ran
pub record Beside : Type 0 where
  pub deferred : List Firing
  pub text : List ℕ
  pub run : ℕ

-- by these classes
abbrev pub running : List Declared → NumberWorld → Layer → Beside → NumberTx
running classes first x beside = record {
  origin = origin_as x.origin;
  first = first;
  now = world_now classes first x;
  touched = x.touched;
  deferred = beside.deferred;
  collected = map collected_as x.collected;
  gathered = x.gathered;
  text = beside.text;
  run = beside.run;
  keys = counters_key ∷ (x.keys ++ last_keys x.origin);
  footprint = x.footprint;
}

-- ---- when it is what it stands for

-- an overlay that began with this world
pub record IsOver (first : NumberWorld) (x : Layer) : Type 0 where
  pub counters : x.first ≡ counters_of first.bones
  pub queued : x.queued ≡ length (waiting (origin_as x.origin) first.bones.queue)

-- ---- at the start

abbrev pub began_over : Origin → NumberWorld → Layer
began_over origin w = layers.begun (counters_of w.bones) (length (waiting (origin_as origin) w.bones.queue)) origin

abbrev pub nothing_beside : Beside
nothing_beside = record { deferred = []; text = []; run = 0 }
