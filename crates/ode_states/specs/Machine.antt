-- Activations as the machine by numbers has them.
use Rattle.std.specs.Prelude.{◌≡◌, ℕ, List, map, Some}
use Rattle.std.specs.List.{AllByRecursion}
use Rattle.ode_value.specs.declared.class.Class.{Class}
use Rattle.ode_value.specs.declared.event.Point.{Point}
use Rattle.ode_value.specs.Classes.{Trigger, trigger_at, watch_of}
use Rattle.ode_value.specs.Firings.{both_lists, grown_past, fired_in}
use Rattle.ode_value.specs.Fitting.{trigger_in}
use Rattle.ode_value.specs.GoodWorlds.{RiseFrom}
use Rattle.ode_value.specs.Objects.{Activation, Histories, Starts, IsWithin}
use Rattle.ode_value.specs.Pasts.{Past, Kept, StandsFor}
use Rattle.ode_value.specs.Symbols.{Alphabet, alphabet}
use Rattle.ode_value.specs.Tables.{Table, Means}
use Rattle.ode_value.specs.Transactions.{Firing}
use Rattle.ode_value.specs.Worlds.{Declared, Object}
use Rattle.ode_types.specs.declared.running.Running.{Running}
use Rattle.ode_states.specs.declared.fired.Fired.{Fired}
use Rattle.ode_states.specs.Advance.{table_of, alphabet_of}

-- an activation, its state, and its number with what is kept by it
abbrev pub activation_of : Running → Activation
activation_of a = record { number = a.id; class = a.class; trigger = a.trigger; args = a.args; on = a.on }

abbrev pub state_of : Running → ℕ
state_of a = a.state

abbrev pub row_of : {K : Type 0} → (Running → K) → Running → ℕ × K
row_of kept a = (a.id, kept a)

-- a firing of the machine
abbrev pub fired_as : Firing → Fired
fired_as f = record { activation = f.activation; class = f.trigger.class; trigger = f.trigger.place; args = f.args }

-- the classes as they were checked
abbrev pub checked : List Declared → List Class
checked classes = map (λ (d : Declared). d.class) classes

-- what is kept of an object behind a point, and the machine's firings there
module _ {O A : Type 0} (past : Past O A) (classes : List Declared) (p : Point) (o : Object) where
  abbrev pub kept_behind : Kept O A → Kept O A
  kept_behind kept = grown_past past (both_lists past) p classes o kept

  abbrev pub machine_firings : Kept O A → List Firing
  machine_firings kept = fired_in past (both_lists past) o classes (kept_behind kept)

-- by classes and places of triggers their tables, and by places the tables and alphabets that stand there
module _ (by : ℕ → ℕ → Table) (tables : List Table) (alphabets : List Alphabet) (classes : List Declared) where
  -- an activation of a trigger that a class has, with the trigger's table and the alphabet of its event
  pub record IsOf (class : ℕ) (a : Running) : Type 0 where
    pub trigger : Trigger
    pub declared : trigger_at classes a.class a.trigger ≡ Some trigger
    pub had : trigger_in classes class (activation_of a) ≡ Some trigger
    pub table : table_of tables a ≡ by a.class a.trigger
    pub alphabet : alphabet_of alphabets a ≡ alphabet trigger.decl.event

  -- the activations of an object, by rising numbers, among classes by rising numbers
  pub record AreOf (o : Object) (acts : List Running) : Type 0 where
    pub each : AllByRecursion (IsOf o.class) acts
    pub activations : o.activations ≡ map activation_of acts
    pub rising : RiseFrom 0 (map (λ (a : Running). a.id) acts)
    pub rising_classes : RiseFrom 0 (map (λ (d : Declared). d.class.number) classes)

  -- its table means its trigger's event, and its number stands for its view, which begins where its number says
  pub record IsStanding (class : ℕ) (h : Histories) (starts : ℕ → Starts) (a : Running) : Type 0 where
    pub of : IsOf class a
    pub means : Means (by of.trigger.class of.trigger.place) of.trigger.decl.event
    pub within : IsWithin (starts a.id) h
    pub stands : StandsFor by (watch_of of.trigger a.args) h (starts a.id) a.state
