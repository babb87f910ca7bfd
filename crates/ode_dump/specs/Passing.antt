-- What passes make of each record.
use Rattle.std.specs.Prelude.{[], ◌∷◌, ◌++◌, Ok}
use Rattle.ode_passes.specs.Records.{record_in}
use Rattle.ode_passes.specs.Rules.{Ruled, ◌>>=◌}
use Rattle.ode_value.specs.Records.{Row}
use Rattle.ode_dump.specs.Lines.{record_line}
use Rattle.ode_dump.specs.declared.keys.Keys.{Keys}
use Rattle.ode_dump.specs.declared.listing.Listing.{Listing}

-- its line more, where it decodes
abbrev pub with_line : Listing → Row → Ruled Listing
with_line l e = record_in e >>= λ r. Ok (record l { lines = l.lines ++ (e.0, record_line l.classes.now r) ∷ [] })

-- its key more
abbrev pub with_key : Keys → Row → Ruled Keys
with_key k e = Ok (record { keys = k.keys ++ e.0 ∷ [] })
