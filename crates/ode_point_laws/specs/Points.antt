-- When a point that the overlay's activations go on by is one that arises in the machine.
use Rattle.std.specs.Prelude.{◌≡◌, ℕ, List, map, Bool, cond, Ok}
use Rattle.std.specs.List.{filter}
use Rattle.ode_laws.specs.Alike.{NumberTx}
use Rattle.ode_objects.specs.Objects.{activation_keys}
use Rattle.ode_objects.specs.Rewinding.{sees_in}
use Rattle.ode_objects.specs.declared.object.Object.{Object}
use Rattle.ode_overlay.specs.Answers.{Answer}
use Rattle.ode_overlay.specs.Layers.{Layer, holding}
use Rattle.ode_overlay_laws.specs.Following.{Continues}
use Rattle.ode_overlay_laws.specs.Standing.{Stands, object_as}
use Rattle.ode_states.specs.Advance.{advanced, fired_in}
use Rattle.ode_states.specs.Machine.{checked, fired_as}
use Rattle.ode_states.specs.declared.fired.Fired.{Fired}
use Rattle.ode_types.specs.Families.{class_numbered}
use Rattle.ode_types.specs.declared.running.Running.{Running}
use Rattle.ode_value.specs.Acts.{Outcome, Done}
use Rattle.ode_value.specs.Firings.{new_point}
use Rattle.ode_value.specs.Symbols.{Alphabet}
use Rattle.ode_value.specs.Tables.{Table}
use Rattle.ode_value.specs.Transactions.{Firing}
use Rattle.ode_value.specs.Worlds.{Declared}
use Rattle.ode_value.specs.declared.class.Class.{Class}
use Rattle.ode_value.specs.declared.event.Kind.{Kind}
use Rattle.ode_value.specs.declared.event.Point.{Point}
use Rattle.ode_value.specs.declared.value.Value.{Value}

-- the keys of all activations of an object are held
abbrev pub HoldsActivations : ℕ → Object → Layer → Type 0
HoldsActivations id o x = holding (activation_keys id o.activations) x ≡ Ok x.keys

-- a point of an object, as the machine has it
abbrev pub point_of : ℕ → Object → Kind → List Value → Point
point_of id o kind args = new_point kind args (object_as id o)

-- an activation of a trigger that sees whole histories
abbrev pub sees_whole : List Class → Running → Bool
sees_whole classes a = sees_in (class_numbered classes a.class) a.trigger

-- by tables, alphabets and classes
module _ (tables : List Table) (alphabets : List Alphabet) (classes : List Declared) where
  -- activations behind a point, and the firings there
  abbrev pub all_behind : Point → List Running → List Running
  all_behind p acts = map (advanced tables alphabets (checked classes) p) acts

  abbrev pub all_fired : Point → List Running → List Fired
  all_fired p acts = fired_in tables alphabets (checked classes) p acts

  -- those that see whole histories alone go on and fire
  abbrev pub whole_behind : Point → List Running → List Running
  whole_behind p acts = map (λ a. cond (sees_whole (checked classes) a) (advanced tables alphabets (checked classes) p a) a) acts

  abbrev pub whole_fired : Point → List Running → List Fired
  whole_fired p acts = all_fired p (filter (sees_whole (checked classes)) acts)

-- The activations were put back, and the machine is done with the same firings; the overlay stands for the transaction from which it goes
-- on, and which continues the one before.
pub record Arises (before : NumberTx) (fired : List Fired) (put : Answer (Unit {0} × Layer)) (outcome : Outcome (Unit {0}) ℕ (List Firing)) : Type 0 where
  pub x : Layer
  pub y : NumberTx
  pub firings : List Firing
  pub put_back : put ≡ Ok (tt, x)
  pub arises : outcome ≡ Done firings y
  pub same : map fired_as firings ≡ fired
  pub stands : Stands x y
  pub continues : Continues before y
