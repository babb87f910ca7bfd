-- What all records come to: each decodes, the counters are there, and how many bytes they take.
use Rattle.std.specs.Prelude.{ℕ, ◌+◌, ◌-◌, ◌^◌, min, Bool, cond, not, ◌||◌, nat_le, ◌==◌, Option, Some, None, Ok}
use Rattle.ode_codec.specs.FirstFormat.{is_of_first}
use Rattle.ode_codec.specs.declared.record.Counters.{Counters}
use Rattle.ode_codec.specs.declared.record.Record.{Record}
use Rattle.ode_codec.specs.declared.record.Record.TheVariants as of
use Rattle.ode_keep.specs.Entries.{Entries}
use Rattle.ode_value.specs.Keys.{counters_key, entry_kind}
use Rattle.ode_value.specs.Limits.{first_weight_limit, weight_limit}
use Rattle.ode_value.specs.Records.{Row, row_weight}
use Rattle.ode_passes.specs.Records.{record_in}
use Rattle.ode_passes.specs.Rules.{Ruled, ◌>>=◌, found, needs, through}
use Rattle.ode_passes.specs.Walking.{within}
use Rattle.ode_passes.specs.declared.cause.Cause.TheVariants as cause
use Rattle.ode_passes.specs.declared.tally.Tally.{Tally}

-- the bytes with those of one record more, where it is no entry of the queue; they are counted as far as a number of 8 bytes goes
abbrev pub counted : ℕ → Row → ℕ
counted total e = cond (e.0.kind == entry_kind) total (min (total + row_weight e) (2 ^ 64 - 1))

-- the counters, where a record has them
abbrev pub counters_or : Option Counters → Record → Option Counters
counters_or before (of.Counters c) = Some c
counters_or before _ = before

-- a record has no stamp and is no added field, where it is of the first format
abbrev pub has_form : Bool → Row → Bool
has_form first e = not first || is_of_first e.0 e.1

abbrev pub is_plain : Bool → Row → Ruled (Unit {0})
is_plain first e = needs (cause.Record e.0) (has_form first e)

-- the counters behind one record more, which decodes
abbrev pub counters_behind : Option Counters → Row → Ruled (Option Counters)
counters_behind before e = do
  r ← record_in e
  Ok (counters_or before r)

abbrev pub counters_in : Bool → Option Counters → Row → Ruled (Option Counters)
counters_in first before e = do
  _ ← is_plain first e
  counters_behind before e

-- one record more
abbrev pub tallied : Tally → Row → Ruled Tally
tallied t e = do
  _ ← is_plain t.first e
  r ← record_in e
  Ok (record { first = t.first; total = counted t.total e; counters = counters_or t.counters r })

abbrev pub no_tally : Bool → Tally
no_tally first = record { first = first; total = 0; counters = None }

-- the counters, and the bytes of all records but for the queue's entries
unfoldable pub tally_in : Bool → Entries → Ruled (Counters × ℕ)
tally_in first entries = do
  t ← through tallied (no_tally first) (within 0 255 entries)
  c ← found (cause.Missing counters_key) t.counters
  Ok (c, t.total)

-- how many bytes records may have, which may be of the first format
abbrev pub limit_of : Bool → ℕ
limit_of first = cond first first_weight_limit weight_limit

-- so many bytes are within the limit
abbrev pub is_light : Bool → ℕ → Ruled (Unit {0})
is_light first total = needs (cause.Size total) (nat_le total (limit_of first))
