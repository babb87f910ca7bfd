-- Points that whole histories alone see.
use Rattle.std.specs.Prelude.{List, [], ◌∷◌, Bool, cond}
use Rattle.ode_types.specs.declared.running.Running.{Running}

-- an activation with the state of another, and on where it is
abbrev pub standing_as : Running → Running → Running
standing_as w a = record a { state = w.state; on = w.on }

-- those that pass a test stand as others, one from each in order
abbrev pub merged : (Running → Bool) → List Running → List Running → List Running
merged test [] others = []
merged test (a ∷ there) [] = a ∷ there
merged test (a ∷ there) (w ∷ others) = cond (test a) (standing_as w a ∷ merged test there others) (a ∷ merged test there (w ∷ others))
