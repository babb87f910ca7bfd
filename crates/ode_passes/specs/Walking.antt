-- The records of some kinds, in the order of their keys.
use Rattle.std.specs.Prelude.{◌≡◌, ℕ, ◌+◌, ◌*◌, ◌^◌, [], ◌∷◌, ◌++◌, Bool, nat_le, nat_lt, ◌&&◌, Option, Some, None}
use Rattle.std.specs.List.{filter}
use Rattle.std.specs.Ordering.{is_le, is_lt}
use Rattle.ode_keep.specs.Entries.{Entries}
use Rattle.ode_value.specs.Keys.{key, key_cmp}
use Rattle.ode_value.specs.declared.key.Key.{Key}

-- the place of a key among all keys
abbrev pub rank : Key → ℕ
rank k = k.kind * 2 ^ 128 + k.a * 2 ^ 64 + k.b

-- the two numbers of a key fit their types
abbrev pub has_range : Key → Bool
has_range k = nat_lt k.a (2 ^ 64) && nat_lt k.b (2 ^ 64)

-- a key comes after another
abbrev pub follows : Key → Key → Bool
follows l k = is_lt (key_cmp l k)

-- the records at or above a key, up to the last kind
abbrev pub is_from : Key → ℕ → Key → Bool
is_from from last k = is_le (key_cmp from k) && (nat_le k.kind last && has_range k)

abbrev pub records_from : Key → ℕ → Entries → Entries
records_from from last entries = filter (λ e. is_from from last e.0) entries

-- those above a key
abbrev pub is_above : Key → ℕ → Key → Bool
is_above l last k = follows l k && (nat_le k.kind last && has_range k)

abbrev pub records_above : Key → ℕ → Entries → Entries
records_above l last entries = filter (λ e. is_above l last e.0) entries

-- those of the kinds from the first to the last
abbrev pub within : ℕ → ℕ → Entries → Entries
within first last entries = records_from (key first 0 0) last entries

-- ---- batches: some of the first records at or above a key

-- those of kinds up to the last one
abbrev pub up_to : ℕ → Entries → Entries
up_to last rows = filter (λ e. nat_le e.0.kind last && has_range e.0) rows

-- the key of the last one, or of the last one before them
abbrev pub last_key : Option Key → Entries → Option Key
last_key before [] = before
last_key before (e ∷ es) = last_key (Some e.0) es

-- the records above a key, where there is one
abbrev pub behind : Option Key → ℕ → Entries → Entries
behind None last entries = []
behind (Some l) last entries = records_above l last entries

-- the records at or above a key, where there is one
abbrev pub ahead : Option Key → ℕ → Entries → Entries
ahead None last entries = []
ahead (Some from) last entries = records_from from last entries

-- these are some of the first records at or above a key, and the others are behind the last of them
abbrev pub IsBatch : Key → ℕ → Entries → Entries → Type 0
IsBatch from last entries rows = records_from from last entries ≡ up_to last rows ++ behind (last_key None rows) last entries
