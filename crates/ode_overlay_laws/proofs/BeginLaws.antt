-- A transaction begins, in the overlay and in the machine.
use Rattle.std.proofs.Common.{◌≡◌, [], ◌∷◌, ◌++◌, length, refl}
use Rattle.ode_laws.specs.Alike.{NumberWorld}
use Rattle.ode_overlay.specs.Layers as layers
use Rattle.ode_overlay.specs.Objects.{counters_of}
use Rattle.ode_overlay.specs.declared.origin.Origin.{Origin}
use Rattle.ode_overlay.specs.declared.origin.Origin.TheVariants as from
use Rattle.ode_overlay_laws.specs.Standing.{Stands, last_keys, origin_as}
use Rattle.ode_value.specs.Keys.{counters_key}
use Rattle.ode_value.specs.Posting.{waiting}
use Rattle.ode_value.specs.Transactions.{begun, first_keys}

first_between : (origin : Origin) → first_keys (origin_as origin) ≡ counters_key ∷ ([] ++ last_keys origin)
first_between from.Script = refl
first_between (from.Entry number generation) = refl
first_between (from.Tick instant object place) = refl
first_between (from.Move instant) = refl

pub begun_law : (origin : Origin) (w : NumberWorld) → Stands (layers.begun (counters_of w.bones) (length (waiting (origin_as origin) w.bones.queue)) origin) (begun (origin_as origin) w)
begun_law origin w = record {
  origin = refl;
  counters = refl;
  queued = refl;
  next = refl;
  added = refl;
  tracked = λ id t is. absurd (cc is);
  others = λ id none. record { object = refl; kept = refl };
  touched = refl;
  collected = refl;
  gathered = refl;
  keys = first_between origin;
  footprint = refl;
}
