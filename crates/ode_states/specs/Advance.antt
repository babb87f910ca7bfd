-- What a point does to activations, and which of them fire.
use Rattle.std.specs.Prelude.{◌≡◌, ℕ, ◌==◌, ◌<◌, nat_lt, ◌&&◌, not, Bool, false, cond, List, [], ◌∷◌, map, filter, fold, length, slice_index_or}
use Rattle.std.specs.List.{slice_get}
use Rattle.std.specs.Option.{option_and_then, option_map_or}
use Rattle.ode_value.specs.declared.class.Class.{Class}
use Rattle.ode_value.specs.declared.event.Point.{Point}
use Rattle.ode_value.specs.declared.member.TriggerDecl.{TriggerDecl}
use Rattle.ode_value.specs.Symbols.{Alphabet, size_of, symbol_among}
use Rattle.ode_value.specs.Tables.{Table, next_state, says_yes}
use Rattle.ode_types.specs.declared.running.Running.{Running}
use Rattle.ode_types.specs.Families.{class_numbered}
use Rattle.ode_states.specs.declared.fired.Fired.{Fired}
use Rattle.ode_states.specs.declared.step.Step.{Step}

abbrev pub no_table : Table
no_table = record { states = 0; symbols = 0; next = []; yes = [] }

abbrev pub table_of : List Table → Running → Table
table_of tables a = slice_index_or tables a.table no_table

abbrev pub no_alphabet : Alphabet
no_alphabet = record { kinds = []; masks = [] }

abbrev pub alphabet_of : List Alphabet → Running → Alphabet
alphabet_of alphabets a = slice_index_or alphabets a.table no_alphabet

-- an activation's place is one of both lists, its state is one of its table's, and its table is over its alphabet
pub record IsReady (tables : List Table) (alphabets : List Alphabet) (a : Running) : Type 0 where
  pub table : a.table < length tables
  pub alphabet : a.table < length alphabets
  pub state : a.state < (table_of tables a).states
  pub symbols : (table_of tables a).symbols ≡ size_of (alphabet_of alphabets a)

-- its trigger ends by a firing
abbrev pub once : List Class → Running → Bool
once classes a =
    option_map_or (λ (t : TriggerDecl). not t.perpetual) (option_and_then (λ (c : Class). slice_get c.triggers a.trigger) (class_numbered classes a.class)) false

-- the state after a point, and whether it fires there: it is on, and its table says yes behind the point
abbrev pub state_after : List Table → List Alphabet → Point → Running → ℕ
state_after tables alphabets p a = next_state (table_of tables a) a.state (symbol_among (alphabet_of alphabets a) a.args p)

abbrev pub fires : List Table → List Alphabet → Point → Running → Bool
fires tables alphabets p a = a.on && says_yes (table_of tables a) (state_after tables alphabets p a)

abbrev pub step_by : List Table → List Alphabet → List Class → Point → Running → Step
step_by tables alphabets classes p a = record {
  state = state_after tables alphabets p a;
  fires = fires tables alphabets p a;
  on = a.on && not (fires tables alphabets p a && once classes a);
}

-- an activation with the state of a step, and on or off by it
abbrev pub moved : Running → Step → Running
moved a s = record { id = a.id; class = a.class; trigger = a.trigger; args = a.args; state = s.state; on = s.on; table = a.table }

-- an activation behind the point
abbrev pub advanced : List Table → List Alphabet → List Class → Point → Running → Running
advanced tables alphabets classes p a = moved a (step_by tables alphabets classes p a)

-- a firing comes before another: by the class, an ancestor's number being less, then by the trigger's place there, then by number
abbrev pub comes_before : Fired → Fired → Bool
comes_before f g =
    cond (f.class == g.class) (cond (f.trigger == g.trigger) (nat_lt f.activation g.activation) (nat_lt f.trigger g.trigger)) (nat_lt f.class g.class)

-- a firing in its place
abbrev pub placed : List Fired → Fired → List Fired
placed [] f = f ∷ []
placed (g ∷ rest) f = cond (comes_before f g) (f ∷ g ∷ rest) (g ∷ placed rest f)

abbrev pub fired_of : Running → Fired
fired_of a = record { activation = a.id; class = a.class; trigger = a.trigger; args = a.args }

-- and where there is one
abbrev pub one_more : Bool → List Fired → Running → List Fired
one_more b fired a = cond b (placed fired (fired_of a)) fired

-- the firings of activations with these steps, in their order
abbrev pub fires_among : (Running → Step) → List Running → List Fired
fires_among f acts = fold placed [] (map fired_of (filter (λ a. (f a).fires) acts))

-- the firings at a point
abbrev pub fired_in : List Table → List Alphabet → List Class → Point → List Running → List Fired
fired_in tables alphabets classes p acts = fires_among (step_by tables alphabets classes p) acts
