-- What bytes of a stream begin with.
use Rattle.std.specs.Prelude.{ℕ, List}
use Rattle.ode_ship.specs.Streams.{HasNoLength, IsBegun, IsWhole}
use Rattle.ode_ship.specs.declared.cutting.Cut.{Cut}
use Rattle.ode_ship.specs.declared.cutting.Cut.TheVariants.{Begun, NoLength, Whole}

abbrev pub IsCut : List ℕ → Cut → Type 0
IsCut bytes Begun = IsBegun bytes
IsCut bytes NoLength = HasNoLength bytes
IsCut bytes (Whole payload rest) = IsWhole bytes payload.now rest.now
