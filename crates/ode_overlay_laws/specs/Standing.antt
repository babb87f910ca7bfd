-- When an overlay stands for a transaction of the machine over state numbers.
use Rattle.std.specs.Prelude.{◌≡◌, ℕ, ◌-◌, ◌^◌, List, [], ◌∷◌, ◌++◌, map, length, Option, Some, None}
use Rattle.ode_laws.specs.Alike.{NumberTx, NumberWorld}
use Rattle.ode_overlay.specs.Layers.{Layer, tracked_at}
use Rattle.ode_overlay.specs.Objects.{Active, Object, Tracked, Version, counters_of, stamp_of, values_of}
use Rattle.ode_overlay.specs.declared.origin.Origin.{Origin}
use Rattle.ode_overlay.specs.declared.origin.Origin.TheVariants as from
use Rattle.ode_overlay.specs.declared.overlay.Collected.{Collected}
use Rattle.ode_value.specs.Denoting.{object_numbered}
use Rattle.ode_value.specs.Keys.{counters_key, entry_key}
use Rattle.ode_value.specs.Objects as objects
use Rattle.ode_value.specs.Pasts.{Kept}
use Rattle.ode_value.specs.Posting.{waiting}
use Rattle.ode_value.specs.Transactions as transactions
use Rattle.ode_value.specs.Transactions.{Script, Queue, Clock}
use Rattle.ode_value.specs.Versions as versions
use Rattle.ode_value.specs.Worlds as worlds
use Rattle.ode_value.specs.Worlds.{kept_at}
use Rattle.ode_value.specs.declared.key.Key.{Key}

-- ---- its parts, as the machine has them

abbrev pub version_as : Version → versions.Version
version_as v = record { number = v.number; parent = v.parent; stamp = stamp_of v.fields; fields = values_of v.fields }

abbrev pub active_as : Active → objects.Activation
active_as a = record { number = a.number; class = a.class; trigger = a.trigger; args = a.args; on = a.on }

abbrev pub object_as : ℕ → Object → worlds.Object
object_as id o = record {
  id = id;
  class = o.class;
  live = o.live;
  last = o.last;
  versions = map version_as o.versions;
  activations = map active_as o.activations;
}

-- the state numbers of an object's activations
abbrev pub kept_as : Object → Kept (Unit {0}) ℕ
kept_as o = record { own = tt; activations = map (λ (a : Active). (a.number, a.state)) o.activations }

abbrev pub entry_as : Collected → worlds.Entry
entry_as c = record { object = c.object; class = c.class; trigger = c.trigger; generation = c.generation; args = c.args }

abbrev pub collected_as : Collected → transactions.Collected
collected_as c = record { entry = entry_as c; independent = c.independent }

abbrev pub origin_as : Origin → transactions.Origin
origin_as from.Script = Script
origin_as (from.Entry number generation) = Queue number generation
origin_as (from.Tick instant object place) = Clock (record { instant = instant; object = object; place = place })
origin_as (from.Move instant) = Clock (record { instant = instant; object = 2 ^ 64 - 1; place = 2 ^ 32 - 1 })

-- the key behind those of objects
abbrev pub last_keys : Origin → List Key
last_keys (from.Entry number generation) = entry_key number ∷ []
last_keys _ = []

-- ---- standing for a transaction

-- a world has an object
pub record IsIn (w : NumberWorld) (id : ℕ) (o : Object) : Type 0 where
  pub object : object_numbered id w.bones.objects ≡ Some (object_as id o)
  pub kept : kept_at id w.pasts ≡ Some (kept_as o)

-- what is known by a number is as it was when the transaction began
pub record IsAsAtFirst (now first : NumberWorld) (id : ℕ) : Type 0 where
  pub object : object_numbered id now.bones.objects ≡ object_numbered id first.bones.objects
  pub kept : kept_at id now.pasts ≡ kept_at id first.pasts

-- The counters and the queue are the first world's. The world now has no more added fields, the tracked objects as they are now, and the
-- others as at first. All else is the same; the keys stand between those that a transaction begins with.
pub record Stands (x : Layer) (y : NumberTx) : Type 0 where
  pub origin : y.origin ≡ origin_as x.origin
  pub counters : x.first ≡ counters_of y.first.bones
  pub queued : x.queued ≡ length (waiting y.origin y.first.bones.queue)
  pub next : y.now.bones.next ≡ x.next
  pub added : y.now.bones.added ≡ y.first.bones.added
  pub tracked : (id : ℕ) (t : Tracked) → tracked_at id x ≡ Some t → IsIn y.now id t.current
  pub others : (id : ℕ) → tracked_at id x ≡ None → IsAsAtFirst y.now y.first id
  pub touched : y.touched ≡ x.touched
  pub collected : y.collected ≡ map collected_as x.collected
  pub gathered : y.gathered ≡ x.gathered
  pub keys : y.keys ≡ counters_key ∷ (x.keys ++ last_keys x.origin)
  pub footprint : y.footprint ≡ x.footprint

-- what was read of an object is what the world now has; where nothing was, it is tracked or not there
abbrev pub IsFresh : Layer → NumberTx → ℕ → Option Tracked → Type 0
IsFresh x y id None = tracked_at id x ≡ None → object_numbered id y.now.bones.objects ≡ None
IsFresh x y id (Some t) = IsIn y.now id t.current
