-- What stands for a world over lists: a world with state numbers, and a stored database.
use Rattle.std.specs.Prelude.{◌≡◌, ◌<◌, ◌≤◌, ◌*◌, ℕ, List, [], ◌∷◌, length, Option, Some, None}
use Rattle.std.specs.List.{AllByRecursion, AllZip}
use Rattle.ode_value.specs.Objects.{Activation, Histories, Starts}
use Rattle.ode_value.specs.Pasts.{Kept, Watch, StandsFor}
use Rattle.ode_value.specs.Records.{Row}
use Rattle.ode_value.specs.Tables.{Table, Means}
use Rattle.ode_value.specs.TreeCount.{tree_count}
use Rattle.ode_value.specs.Worlds.{Declared, Object, World}
use Rattle.ode_value.specs.Classes.{Trigger, own_triggers}
use Rattle.ode_value.specs.Firings.{watch_by}
use Rattle.ode_value.specs.GoodWorlds.{IsGood, IsPast}
use Rattle.ode_value.specs.Language.{ListWorld, Language}
use Rattle.ode_codec.specs.StoredRows.{Stored, rows}

-- a table whose parts fit each other
pub record IsWhole (t : Table) : Type 0 where
  pub some : 0 < t.states
  pub next : length t.next ≡ t.states * t.symbols
  pub in_range : AllByRecursion (λ q. q < t.states) t.next
  pub yes : length t.yes ≡ t.states

-- a table has at most as many states as there are trees, and means the trigger's event
pub record IsTableOf (tables : ℕ → ℕ → Table) (t : Trigger) : Type 0 where
  pub whole : IsWhole (tables t.class t.place)
  pub small : (tables t.class t.place).states ≤ tree_count t.decl.event
  pub means : Means (tables t.class t.place) t.decl.event

-- each trigger that a class declares has such a table
abbrev pub HasTables : (ℕ → ℕ → Table) → Declared → Type 0
HasTables tables c = AllByRecursion (IsTableOf tables) (own_triggers c.class)

module _ (tables : ℕ → ℕ → Table) (classes : List Declared) where
  -- an activation's state number stands for its view
  abbrev pub StandsBy : Histories → ℕ × ℕ → ℕ × Starts → Option Watch → Type 0
  StandsBy h row start None = ⊥
  StandsBy h row start (Some w) = StandsFor tables w h start.1 row.1

  -- that of a row of numbers, by the row of starts
  pub record IsStateOf (h : Histories) (a : Activation) (row : ℕ × ℕ) (start : ℕ × Starts) : Type 0 where
    pub number : row.0 ≡ a.number
    pub stands : StandsBy h row start (watch_by classes a)

  -- activation by activation
  abbrev pub AreStates : Histories → List Activation → List (ℕ × ℕ) → List (ℕ × Starts) → Type 0
  AreStates h [] [] [] = Unit {0}
  AreStates h (a ∷ more) (row ∷ rows) (start ∷ starts) = IsStateOf h a row start × AreStates h more rows starts
  AreStates h _ _ _ = ⊥

  -- object by object
  abbrev pub ArePasts : List Object → List (ℕ × Kept (Unit {0}) ℕ) → List (ℕ × Kept Histories Starts) → Type 0
  ArePasts [] [] [] = Unit {0}
  ArePasts (o ∷ os) (row ∷ rows) (past ∷ pasts) =
      (row.0 ≡ o.id) × AreStates past.1.own o.activations row.1.activations past.1.activations × ArePasts os rows pasts
  ArePasts _ _ _ = ⊥

-- A world with state numbers stands for one over lists: with the same bones, with tables that mean their events, and with numbers
-- that stand for the views of all activations, those that are off among them.
pub record StandsAs (tables : ℕ → ℕ → Table) (numbers : World (Unit {0}) ℕ) (w : ListWorld) : Type 0 where
  pub bones : numbers.bones ≡ w.bones
  pub mean : AllByRecursion (HasTables tables) w.bones.classes
  pub pasts : ArePasts tables w.bones.classes w.bones.objects numbers.pasts w.pasts
  pub within : AllZip IsPast w.bones.objects w.pasts

-- these records, and no others, hold a good world
pub record HoldsWorld (l : Language) (records : List Row) (w : ListWorld) : Type 0 where
  pub stored : Stored
  pub rows : records ≡ rows stored
  pub stands : StandsAs stored.tables stored.world w
  pub good : IsGood l w
