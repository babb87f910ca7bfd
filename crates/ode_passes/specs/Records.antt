-- Records, decoded, in the order of their keys.
use Rattle.std.specs.Prelude.{List, [], ◌∷◌, ◌++◌, Ok}
use Rattle.ode_codec.specs.Reading.{record_under}
use Rattle.ode_codec.specs.declared.record.Record.{Record}
use Rattle.ode_keep.specs.Entries.{Entries}
use Rattle.ode_value.specs.Records.{Row}
use Rattle.ode_value.specs.declared.key.Key.{Key}
use Rattle.ode_passes.specs.Rules.{Ruled, ◌>>=◌, found, through}
use Rattle.ode_passes.specs.declared.cause.Cause.TheVariants as cause

-- records with their keys
abbrev pub Found : Type 0
Found = List (Key × Record)

-- a record decodes
abbrev pub record_in : Row → Ruled Record
record_in e = found (cause.Record e.0) (record_under e.0 e.1)

-- every record decodes
abbrev pub with_record : Found → Row → Ruled Found
with_record records e = record_in e >>= λ r. Ok (records ++ (e.0, r) ∷ [])

abbrev pub decoded : Entries → Ruled Found
decoded entries = through with_record [] entries
