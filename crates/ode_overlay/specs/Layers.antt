-- What an overlay is seen as: the objects that were read or made, and what a transaction has beside them.
use Rattle.std.specs.Prelude.{ℕ, ◌+◌, ◌<◌, ◌≤◌, List, [], ◌∷◌, ◌++◌, length, Bool, true, cond, nat_eq, nat_le, Option, Ok, Err}
use Rattle.std.specs.BTreeMap.{is_at}
use Rattle.std.specs.List.{fold, list_any}
use Rattle.std.specs.Map.{lookup}
use Rattle.std.specs.Ordering.{nat_cmp}
use Rattle.ode_codec.specs.declared.record.Counters.{Counters}
use Rattle.ode_codec.specs.Rules.{IsKeptCounters, IsNext}
use Rattle.ode_overlay.specs.Answers.{Answer}
use Rattle.ode_overlay.specs.declared.error.OverlayError.TheVariants.{TooManyChanges}
use Rattle.ode_objects.specs.declared.tracked.Tracked.{Tracked}
use Rattle.ode_overlay.specs.declared.origin.Origin.{Origin}
use Rattle.ode_overlay.specs.declared.origin.Origin.TheVariants.{Entry}
use Rattle.ode_overlay.specs.declared.overlay.Collected.{Collected}
use Rattle.ode_value.specs.Changes.{with_key}
use Rattle.ode_value.specs.GoodWorlds.{RiseFrom}
use Rattle.ode_value.specs.Footprints.{Footprint, no_footprint, with_looks, with_draw, with_queue}
use Rattle.ode_value.specs.Limits.{change_limit, generation_limit, number_limit, transaction_limit}
use Rattle.ode_value.specs.declared.key.Key.{Key}

-- The counters of the first world and the number of its entries without the one that runs; the next number; the objects by their
-- numbers; the keys of changed records, but for the counters' and that of the entry that runs; the touched objects, in order; the
-- firings for the queue, and how many were ever collected; the footprint.
pub record Layer : Type 0 where
  pub first : Counters
  pub queued : ℕ
  pub origin : Origin
  pub next : ℕ
  pub objects : List (ℕ × Tracked)
  pub keys : List Key
  pub touched : List ℕ
  pub collected : List Collected
  pub gathered : ℕ
  pub footprint : Footprint

-- at the start of a transaction
abbrev pub begun : Counters → ℕ → Origin → Layer
begun counters queued origin = record {
  first = counters;
  queued = queued;
  origin = origin;
  next = counters.next_number;
  objects = [];
  keys = [];
  touched = [];
  collected = [];
  gathered = 0;
  footprint = no_footprint;
}

-- the generation that a transaction belongs to
abbrev pub generation_of : Origin → ℕ
generation_of (Entry number generation) = generation
generation_of _ = 0

-- an entry's generation lies within its limit
abbrev pub IsGeneration : Origin → Type 0
IsGeneration (Entry number generation) = (1 ≤ generation) × (generation ≤ generation_limit)
IsGeneration _ = Unit {0}

-- the object of a number, where it is tracked
abbrev pub tracked_at : ℕ → Layer → Option Tracked
tracked_at id x = lookup (is_at (nat_cmp id)) x.objects

-- ---- keys

-- those of the counters and of the entry that runs
abbrev pub first_count : Origin → ℕ
first_count (Entry number generation) = 2
first_count _ = 1

abbrev pub key_count : List Key → Layer → ℕ
key_count keys x = first_count x.origin + length keys + x.gathered

-- the keys with these among them, where they aren't too many
abbrev pub few : List Key → Layer → Answer (List Key)
few keys x = cond (nat_le (key_count keys x) change_limit) (Ok keys) (Err TooManyChanges)

unfoldable pub holding : List Key → Layer → Answer (List Key)
holding keys x = few (fold with_key x.keys keys) x

-- what holds of every overlay: its numbers lie within their limits, no more keys are held than may be, and the objects that were looked at
-- rise
pub record IsLayer (x : Layer) : Type 0 where
  pub first : IsKeptCounters x.first
  pub transaction : x.first.next_transaction < transaction_limit
  pub next : IsNext number_limit x.next
  pub entries : x.first.next_entry + length x.collected ≤ number_limit
  pub keys : key_count x.keys x ≤ change_limit
  pub gathered : length x.collected ≤ x.gathered
  pub looked : RiseFrom 0 x.footprint.looked

-- ---- touched objects, each once

abbrev pub is_touched : ℕ → Layer → Bool
is_touched id x = list_any (nat_eq id) x.touched

abbrev pub touching : ℕ → Layer → Layer
touching id x = record x { touched = cond (is_touched id x) x.touched (x.touched ++ id ∷ []) }

-- ---- the footprint

-- with these objects looked at
abbrev pub looking : List ℕ → Layer → Layer
looking ids x = record x { footprint = with_looks ids x.footprint }

-- with a number drawn, or none left
abbrev pub drawing : Layer → Layer
drawing x = record x { footprint = with_draw true x.footprint }

-- with a firing that is collected or dropped
abbrev pub queueing : Layer → Layer
queueing x = record x { footprint = with_queue x.footprint }
