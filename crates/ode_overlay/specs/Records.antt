-- The record changes of a settling.
use Rattle.std.specs.Prelude.{ℕ, ◌+◌, ◌-◌, ◌^◌, List, [], ◌∷◌, length, true, Option, Some, None}
use Rattle.std.specs.BTreeMap.{insert_entry}
use Rattle.ode_codec.specs.declared.record.Counters.{Counters}
use Rattle.ode_codec.specs.declared.record.Entry.{Entry}
use Rattle.ode_codec.specs.declared.record.Record.TheVariants as of
use Rattle.ode_codec.specs.Spelling.{value_of}
use Rattle.ode_keep.specs.Entries.{Changes}
use Rattle.ode_overlay.specs.Layers.{Layer, tracked_at}
use Rattle.ode_objects.specs.Records.{object_becomes, put_becomes}
use Rattle.ode_objects.specs.declared.tracked.Tracked.{Tracked}
use Rattle.ode_overlay.specs.declared.origin.Origin.{Origin}
use Rattle.ode_overlay.specs.declared.origin.Origin.TheVariants as from
use Rattle.ode_overlay.specs.declared.overlay.Collected.{Collected}
use Rattle.ode_objects.specs.declared.records.Becomes.{Becomes}
use Rattle.ode_objects.specs.declared.records.Becomes.TheVariants.{Stays}
use Rattle.ode_value.specs.Keys.{counters_key, entry_key, key_cmp}
use Rattle.ode_value.specs.declared.key.Key.{Key}

-- what becomes of the record under a key
abbrev pub becomes_of : Key → Option Tracked → Becomes
becomes_of k None = Stays
becomes_of k (Some t) = object_becomes k t.current

unfoldable pub becomes : Layer → Key → Becomes
becomes x k = becomes_of k (tracked_at k.a x)

-- ---- the changes of a batch

-- behind these, those of changed keys
abbrev pub filled : Layer → List Key → Changes → Changes
filled x [] cs = cs
filled x (k ∷ ks) cs = filled x ks (put_becomes k (becomes x k) cs)

-- the counters: the next number, the next transaction's, the next entry's, and the clock, moved where the transaction is the clock's
abbrev pub with_clock : Origin → Counters → Counters
with_clock (from.Tick instant object place) c = record c { clock_set = true; instant = instant; object = object; place = place }
with_clock (from.Move instant) c = record c { clock_set = true; instant = instant; object = 2 ^ 64 - 1; place = 2 ^ 32 - 1 }
with_clock _ c = c

abbrev pub counters_after : Layer → Counters
counters_after x = with_clock x.origin (record x.first {
  next_number = x.next;
  next_transaction = x.first.next_transaction + 1;
  next_entry = x.first.next_entry + length x.collected;
})

-- the entry that ran is gone
abbrev pub without_running : Origin → Changes → Changes
without_running (from.Entry number generation) cs = insert_entry key_cmp cs (entry_key number) None
without_running _ cs = cs

abbrev pub entry_by : Collected → Entry
entry_by c = record { object = c.object; class = c.class; trigger = c.trigger; generation = c.generation; args = c.args }

abbrev pub put_entry : ℕ → Collected → Changes → Changes
put_entry n c cs = insert_entry key_cmp cs (entry_key n) (Some (value_of (of.Entry n (entry_by c))))

-- collected firings as entries, numbered one after another
abbrev pub queued_from : ℕ → List Collected → Changes → Changes
queued_from n [] cs = cs
queued_from n (c ∷ more) cs = queued_from (n + 1) more (put_entry n c cs)

abbrev pub first_changes : Layer → Changes
first_changes x = without_running x.origin (insert_entry key_cmp [] counters_key (Some (value_of (of.Counters (counters_after x)))))

unfoldable pub batch : Layer → Changes
batch x = queued_from x.first.next_entry x.collected (filled x x.keys (first_changes x))
