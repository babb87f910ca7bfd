-- What stands under each key behind a settling.
use Rattle.std.specs.Prelude.{ℕ, ◌+◌, List, [], ◌∷◌, Bool, cond, Option, Some, None}
use Rattle.std.specs.BTreeMap.{is_at}
use Rattle.std.specs.List.{list_any}
use Rattle.ode_codec.specs.declared.record.Record.TheVariants as of
use Rattle.ode_codec.specs.Spelling.{value_of}
use Rattle.ode_keep.specs.Entries.{Entries, value_under}
use Rattle.ode_overlay.specs.Layers.{Layer}
use Rattle.ode_overlay.specs.Records.{becomes, counters_after, entry_by}
use Rattle.ode_overlay.specs.declared.origin.Origin.{Origin}
use Rattle.ode_overlay.specs.declared.origin.Origin.TheVariants as from
use Rattle.ode_overlay.specs.declared.overlay.Collected.{Collected}
use Rattle.ode_objects.specs.declared.records.Becomes.{Becomes}
use Rattle.ode_objects.specs.declared.records.Becomes.TheVariants.{Is, Goes, Stays}
use Rattle.ode_value.specs.Keys.{counters_key, entry_key, key_cmp}
use Rattle.ode_value.specs.declared.key.Key.{Key}

-- a value that becomes this
abbrev pub value_after : Becomes → Option (List ℕ) → Option (List ℕ)
value_after (Is r) below = Some (value_of r)
value_after Goes below = None
value_after Stays below = below

abbrev pub is_among : Key → List Key → Bool
is_among q keys = list_any (λ k. is_at (key_cmp k) q) keys

-- where the key is held, what becomes of it
abbrev pub held_after : Layer → Key → Option (List ℕ) → Option (List ℕ)
held_after x q below = cond (is_among q x.keys) (value_after (becomes x q) below) below

-- the counters are those that the transaction leaves
abbrev pub counted_after : Layer → Key → Option (List ℕ) → Option (List ℕ)
counted_after x q below = cond (is_at (key_cmp counters_key) q) (Some (value_of (of.Counters (counters_after x)))) below

-- the entry that ran is gone
abbrev pub ran_after : Origin → Key → Option (List ℕ) → Option (List ℕ)
ran_after (from.Entry number generation) q below = cond (is_at (key_cmp (entry_key number)) q) None below
ran_after _ q below = below

-- the collected firings stand in the queue, numbered one after another
abbrev pub queued_after : ℕ → List Collected → Key → Option (List ℕ) → Option (List ℕ)
queued_after n [] q below = below
queued_after n (c ∷ more) q below = queued_after (n + 1) more q (cond (is_at (key_cmp (entry_key n)) q) (Some (value_of (of.Entry n (entry_by c)))) below)

unfoldable pub stands_after : Layer → Entries → Key → Option (List ℕ)
stands_after x base q =
    queued_after x.first.next_entry x.collected q (held_after x q (ran_after x.origin q (counted_after x q (value_under base q))))
