-- What is collected for the queue, and how much the records grow.
use Rattle.std.specs.Prelude.{ℕ, ℤ, pos, ◌+◌, ◌-◌, ◌^◌, ◌-ℤ◌, List, [], ◌∷◌, ◌++◌, length, Bool, true, false, cond, min, nat_le, nat_lt, ◌&&◌}
use Rattle.std.specs.List.{sum_by}
use Rattle.std.specs.Map.{values_of}
use Rattle.ode_codec.specs.declared.record.Entry.{Entry}
use Rattle.ode_overlay.specs.Layers.{Layer, generation_of, key_count, queueing}
use Rattle.ode_objects.specs.Values.{are_args}
use Rattle.ode_objects.specs.Weights.{weight_after, weight_before}
use Rattle.ode_overlay.specs.declared.overlay.Collected.{Collected}
use Rattle.ode_value.specs.declared.class.Class.{Class}
use Rattle.ode_value.specs.Limits.{change_limit, generation_limit, number_limit, queue_limit}

-- ---- the queue

-- there are a generation, a key, a place in the queue and a number for one more
abbrev pub has_room : Layer → Bool
has_room x =
    nat_le (generation_of x.origin + 1) generation_limit
    && (nat_lt (key_count x.keys x) change_limit
    && (nat_le (x.queued + length x.collected + 1) queue_limit
    && nat_lt (x.first.next_entry + length x.collected) number_limit))

abbrev pub collected_by : Entry → Bool → Collected
collected_by e independent = record { object = e.object; class = e.class; trigger = e.trigger; generation = e.generation; args = e.args; independent = independent }

abbrev pub with_entry : Entry → Bool → Layer → Layer
with_entry e independent x = record x { collected = x.collected ++ collected_by e independent ∷ []; gathered = x.gathered + 1 }

-- whether it is collected, and what that leaves
unfoldable pub collect : Entry → Bool → Layer → Bool × Layer
collect e independent x = cond (has_room x && are_args e.args) (true, with_entry e independent (queueing x)) (false, queueing x)

-- ---- the weight

-- what the records of changed objects took, and take
abbrev pub bytes_before : List Class → Layer → ℕ
bytes_before classes x = sum_by (weight_before classes) (values_of x.objects)

abbrev pub bytes_after : List Class → Layer → ℕ
bytes_after classes x = sum_by (weight_after classes) (values_of x.objects)

abbrev pub growth : List Class → Layer → ℤ
growth classes x = pos (bytes_after classes x) -ℤ pos (bytes_before classes x)

-- a sum, or the greatest number of 63 bits
abbrev pub within : ℕ → ℕ
within n = min (2 ^ 63 - 1) n

-- the growth that is told
abbrev pub growth_told : List Class → Layer → ℤ
growth_told classes x = pos (within (bytes_after classes x)) -ℤ pos (within (bytes_before classes x))
