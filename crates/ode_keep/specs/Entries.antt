-- Records by key, and what changes make of them.
use Rattle.std.specs.Prelude.{◌≡◌, ◌++◌, ◌<◌, ◌^◌, ◌==◌, ℕ, slice_index, List, [], ◌∷◌, not, Option, Some, None}
use Rattle.std.specs.BTreeMap.{is_at, insert_entry}
use Rattle.std.specs.List.{AllByRecursion, count_by, filter, find}
use Rattle.std.specs.List.Sorted.{IsStrictlySortedBy}
use Rattle.std.specs.Map.{lookup, keys_of}
use Rattle.std.specs.Ordering.{is_le}
use Rattle.ode_value.specs.declared.key.Key.{Key}
use Rattle.ode_value.specs.Keys.{key_cmp}
use Rattle.ode_value.specs.Records.{Row, total_weight}

-- each key is below the next
abbrev pub HasRisingKeys : {X : Type 0} → List (Key × X) → Type 0
HasRisingKeys es = IsStrictlySortedBy key_cmp (keys_of es)

-- a map of keys to values: its records, in rising order of their keys
abbrev pub Entries : Type 0
Entries = List Row

abbrev pub value_under : Entries → Key → Option (List ℕ)
value_under entries k = lookup (is_at (key_cmp k)) entries

-- values that are bytes
abbrev pub HasBytes : Row → Type 0
HasBytes e = (i : ℕ) → slice_index e.1 i < 2 ^ 8

abbrev pub AreBytes : Entries → Type 0
AreBytes entries = AllByRecursion HasBytes entries

-- the least key at or above, of keys that rise
abbrev pub least_from : Entries → Key → Option Key
least_from entries k = find (λ q. is_le (key_cmp k q)) (keys_of entries)

-- the records at or above a key
abbrev pub entries_from : Entries → Key → Entries
entries_from entries k = filter (λ e. is_le (key_cmp k e.0)) entries

-- some of the first records of all, one or more where there are any
abbrev pub StartsOf : Entries → Entries → Type 0
StartsOf [] all = all ≡ []
StartsOf (e ∷ es) all = (rest : Entries) × (all ≡ (e ∷ es) ++ rest)

-- changes: the value that stands under a key from then on, or that none does
abbrev pub Changes : Type 0
Changes = List (Key × Option (List ℕ))

abbrev pub changed : Entries → Key → Option (List ℕ) → Entries
changed entries k None = filter (λ e. not (is_at (key_cmp k) e.0)) entries
changed entries k (Some v) = insert_entry key_cmp entries k v

-- after these changes, the first of them first
abbrev pub applied : Changes → Entries → Entries
applied [] entries = entries
applied (c ∷ cs) entries = applied cs (changed entries c.0 c.1)

-- the bytes of all keys and values
abbrev pub record_bytes : Entries → ℕ
record_bytes entries = total_weight entries

-- how many records have a key of this kind
abbrev pub count_of_kind : ℕ → Entries → ℕ
count_of_kind kind entries = count_by (λ e. e.0.kind == kind) entries
