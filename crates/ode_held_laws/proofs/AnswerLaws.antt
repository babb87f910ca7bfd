-- What an overlay makes of an object that it reads.
use Rattle.std.specs.Prelude.{Option, Ok}
use Rattle.std.specs.Option.{option_map}
use Rattle.ode_heap.specs.Answers.{Found}
use Rattle.ode_objects.specs.Tracked.{read_object}
use Rattle.ode_objects.specs.declared.object.Object.{Object}
use Rattle.ode_objects.specs.declared.tracked.Tracked.{Tracked}
use Rattle.ode_overlay.specs.Answers.{Answer, ◌>>=◌, from_records}

abbrev pub as_read : Found (Option Object) → Answer (Option Tracked)
as_read f = from_records f >>= λ o. Ok (option_map read_object o)
