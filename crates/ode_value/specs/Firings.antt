-- A point arises: what is kept of its object's past grows, and the firings there are decided, before any of them acts.
use Rattle.std.specs.Prelude.{ℕ, List, [], map, Bool, true, false, ◌&&◌, not, ◌==◌, Option}
use Rattle.std.specs.List.{filter, find, flat_map, list_any}
use Rattle.std.specs.Option.{option_map, option_map_or, option_and_then}
use Rattle.ode_value.specs.declared.event.Kind.{Kind}
use Rattle.ode_value.specs.declared.event.Point.{Point}
use Rattle.ode_value.specs.declared.value.Value.{Value}
use Rattle.ode_value.specs.Objects.{Activation}
use Rattle.ode_value.specs.Pasts.{Past, Kept, Watch}
use Rattle.ode_value.specs.Worlds.{Declared, Object, World, kept_at, with_kept}
use Rattle.ode_value.specs.Versions.{Version, newest}
use Rattle.ode_value.specs.Acts.{Act, ◌>>=◌, ◌>>◌, reads, turns, gives}
use Rattle.ode_value.specs.Changes.{object, alters_object}
use Rattle.ode_value.specs.Classes.{Trigger, triggers_of, trigger_at, watch_of}
use Rattle.ode_value.specs.Transactions.{Firing}

-- the fields of an object's current version
abbrev pub current_fields : Object → List Value
current_fields o = option_map_or (λ (v : Version). v.fields) (newest o.versions) []

-- a point of an object
abbrev pub new_point : Kind → List Value → Object → Point
new_point kind args o = record { kind = kind; args = args; fields = current_fields o }

-- an activation is one of this trigger
abbrev pub is_of : Trigger → Activation → Bool
is_of t a = (a.class == t.class) && (a.trigger == t.place)

-- what an activation watches for
abbrev pub watch_by : List Declared → Activation → Option Watch
watch_by classes a = option_map (λ t. watch_of t a.args) (trigger_at classes a.class a.trigger)

-- what the activation of a number watches for
abbrev pub watch_at : List Declared → Object → ℕ → Option Watch
watch_at classes o number = option_and_then (watch_by classes) (find (λ (a : Activation). a.number == number) o.activations)

-- a firing of an object's activation
abbrev pub firing_of : Object → Trigger → Activation → Firing
firing_of o t a = record { object = o.id; activation = a.number; trigger = t; args = a.args }

-- the activation of a number ends by a firing: it is the one that fired, and once only
abbrev pub ends_by : ℕ → Firing → Bool
ends_by number f = (f.activation == number) && not f.trigger.decl.perpetual

-- an activation behind these firings
abbrev pub after_firings : List Firing → Activation → Activation
after_firings firings a = record a { on = a.on && not (list_any (ends_by a.number) firings) }

-- an object behind these firings
abbrev pub object_after : List Firing → Object → Object
object_after firings o = record o { activations = map (after_firings firings) o.activations }

-- a change of what is kept of an activation, by its number and what it watches for
abbrev pub changed_row : {A : Type 0} → (ℕ → Watch → A → A) → (ℕ → Option Watch) → ℕ × A → ℕ × A
changed_row change watch row = (row.0, option_map_or (λ w. change row.0 w row.1) (watch row.0) row.1)

-- the same of each activation of an object
abbrev pub changed_rows : {A : Type 0} → (ℕ → Watch → A → A) → List Declared → Object → List (ℕ × A) → List (ℕ × A)
changed_rows change classes o rows = map (changed_row change (watch_at classes o)) rows

-- where points go: what becomes of an object's past and of an activation's, and which triggers see them
pub record Place (O A : Type 0) : Type 0 where
  pub grow : O → Point → O
  pub step : Point → Watch → A → A
  pub sees : Trigger → Bool

module _ {O A : Type 0} (past : Past O A) where
  -- into both lists, for all triggers
  abbrev pub both_lists : Place O A
  both_lists = record { grow = past.grow; step = λ p w a. past.step w a p; sees = λ t. true }

  -- into the list of all points alone, for whole triggers alone
  abbrev pub whole_list : Place O A
  whole_list = record { grow = past.grow_whole; step = λ p w a. past.step_whole w a p; sees = λ t. t.decl.whole }

  -- what is kept of an object, with a point; activations that are off go on too
  abbrev pub grown_past : Place O A → Point → List Declared → Object → Kept O A → Kept O A
  grown_past place p classes o kept = record {
    own = place.grow kept.own p;
    activations = changed_rows (λ number. place.step p) classes o kept.activations;
  }

  -- the world with a point of an object
  abbrev pub with_point : Place O A → Point → Object → World O A → World O A
  with_point place p o w = record w { pasts = with_kept o.id (grown_past place p w.bones.classes o) w.pasts }

  -- an activation of a trigger is on and fires
  abbrev pub is_firing : Kept O A → Trigger → Activation → Bool
  is_firing kept t a = a.on && option_map_or (past.fires (watch_of t a.args) kept.own) (kept_at a.number kept.activations) false

  -- the firings of a trigger, by the activations' numbers
  abbrev pub fired_by : Object → Kept O A → Trigger → List Firing
  fired_by o kept t = map (firing_of o t) (filter (λ a. is_of t a && is_firing kept t a) o.activations)

  -- the firings, by the triggers in order, ancestors' first
  abbrev pub fired_in : Place O A → Object → List Declared → Kept O A → List Firing
  fired_in place o classes kept = flat_map (fired_by o kept) (filter place.sees (triggers_of classes o.class))

  -- the same in a world
  abbrev pub fired : Place O A → Object → World O A → List Firing
  fired place o w = option_map_or (fired_in place o w.bones.classes) (kept_at o.id w.pasts) []

  -- a point of a live object arises: its firings are decided, and those of once-only triggers have ended
  abbrev pub arises : Place O A → ℕ → Kind → List Value → Act O A (List Firing)
  arises place id kind args = do
    o ← object id
    turns (with_point place (new_point kind args o) o)
    firings ← reads (λ x. fired place o x.now)
    alters_object id (object_after firings)
    gives firings
