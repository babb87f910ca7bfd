-- Where the tally of records is taken, every record decodes.
use Rattle.std.proofs.Common.{◌≡◌, ℕ, [], ◌∷◌, Bool, true, false, Option, Some, None, Ok, Err, refl}
use Rattle.std.specs.Prelude.{◌||◌, not}
use Rattle.std.specs.List.{AllByRecursion}
use Rattle.std.specs.Option.{is_some}
use Rattle.ode_codec.specs.FirstFormat.{is_of_first}
use Rattle.ode_codec.specs.Reading.{record_under}
use Rattle.ode_codec.specs.declared.record.Counters.{Counters}
use Rattle.ode_codec.specs.declared.record.Record.{Record}
use Rattle.ode_keep.specs.Entries.{Entries}
use Rattle.ode_passes.specs.Rules.{Ruled, ◌>>=◌, found, needs, through}
use Rattle.ode_passes.specs.Tally.{counted, counters_or, no_tally, tally_in, tallied}
use Rattle.ode_passes.specs.declared.cause.Cause.TheVariants as cause
use Rattle.ode_passes.specs.declared.tally.Tally.{Tally}
use Rattle.ode_value.specs.Keys.{counters_key}
use Rattle.ode_value.specs.Records.{Row}
use Rattle.ode_dump.specs.Dumping.{AreRecords, all}

abbrev Decode : Entries → Type 0
Decode es = AllByRecursion (λ (e : Row). is_some (record_under e.0 e.1) ≡ true) es

-- a record more
abbrev more : Tally → Row → Record → Tally
more t e r = record { first = t.first; total = counted t.total e; counters = counters_or t.counters r }

decode_at : (t : Tally) (e : Row) (es : Entries) (s : Tally) (b : Bool) (o : Option Record) → ((u : Tally) → through tallied u es ≡ Ok s → Decode es)
    → ((needs (cause.Record e.0) b >>= λ _. found (cause.Record e.0) o >>= λ r. Ok (more t e r)) >>= λ u. through tallied u es) ≡ Ok s → (is_some o ≡ true) × Decode es
decode_at t e es s false o rest ran = absurd (cc (ran))
decode_at t e es s true None rest ran = absurd (cc (ran))
decode_at t e es s true (Some r) rest ran = (refl, rest (more t e r) ran)

decode : (es : Entries) (t s : Tally) → through tallied t es ≡ Ok s → Decode es
decode [] t s ran = tt
decode (e ∷ es) t s ran = decode_at t e es s (not t.first || is_of_first e.0 e.1) (record_under e.0 e.1) (λ u goes. decode es u s goes) ran

decode_all : (first : Bool) (entries : Entries) (x : Counters × ℕ) (all_of : Ruled Tally) → through tallied (no_tally first) (all entries) ≡ all_of
    → (all_of >>= λ t. found (cause.Missing counters_key) t.counters >>= λ c. Ok (c, t.total)) ≡ Ok x → AreRecords entries
decode_all first entries x (Ok t) is ran = decode (all entries) (no_tally first) t is
decode_all first entries x (Err why) is ran = absurd (cc (ran))

pub tallied_are_records : (first : Bool) (entries : Entries) (x : Counters × ℕ) → tally_in first entries ≡ Ok x → AreRecords entries
unfolding tally_in
tallied_are_records first entries x ran = decode_all first entries x (through tallied (no_tally first) (all entries)) refl ran
