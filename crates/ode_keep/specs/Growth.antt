-- By how much changes make records grow.
use Rattle.std.specs.Prelude.{ℕ, ◌+◌, ◌==◌, List, [], ◌∷◌, cond, length, Option, Some, None}
use Rattle.ode_keep.specs.Entries.{Changes, Entries, value_under}
use Rattle.ode_value.specs.declared.key.Key.{Key}
use Rattle.ode_keep.specs.declared.spelling.TheConstants.{KEY_LEN}

-- the bytes of a record, if there is one
abbrev pub bytes_of : Option (List ℕ) → ℕ
bytes_of None = 0
bytes_of (Some v) = KEY_LEN + length v

-- the bytes of the records that changes put
abbrev pub put_bytes : Changes → ℕ
put_bytes [] = 0
put_bytes (c ∷ cs) = bytes_of c.1 + put_bytes cs

-- the bytes of the records that stood under the keys of changes
abbrev pub taken_bytes : Changes → Entries → ℕ
taken_bytes [] entries = 0
taken_bytes (c ∷ cs) entries = bytes_of (value_under entries c.0) + taken_bytes cs entries

-- one, where there is a record and its key has this kind
abbrev pub one_of_kind : ℕ → Key → Option (List ℕ) → ℕ
one_of_kind kind k None = 0
one_of_kind kind k (Some v) = cond (k.kind == kind) 1 0

-- how many records of a kind changes put
abbrev pub put_of_kind : ℕ → Changes → ℕ
put_of_kind kind [] = 0
put_of_kind kind (c ∷ cs) = one_of_kind kind c.0 c.1 + put_of_kind kind cs

-- how many records of a kind stood under the keys of changes
abbrev pub taken_of_kind : ℕ → Changes → Entries → ℕ
taken_of_kind kind [] entries = 0
taken_of_kind kind (c ∷ cs) entries = one_of_kind kind c.0 (value_under entries c.0) + taken_of_kind kind cs entries
