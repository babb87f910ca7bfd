-- A world with one more class, and how it is stored.
use Rattle.std.specs.Prelude.{◌<◌, ℕ, cond, List, [], ◌∷◌, ◌++◌, ◌==◌, slice_index_or}
use Rattle.std.specs.List.{AllByRecursion}
use Rattle.std.specs.Option.{IsSome}
use Rattle.ode_codec.specs.StoredRows.{Stored}
use Rattle.ode_value.specs.Tables.{Table}
use Rattle.ode_value.specs.Worlds.{Bones, Declared, Object, World, class_numbered}

-- bones with a class behind the others
abbrev pub bones_with : Declared → Bones → Bones
bones_with c b = record b { classes = b.classes ++ c ∷ [] }

-- and a world
abbrev pub world_with : {O A : Type 0} → Declared → World O A → World O A
world_with c w = record w { bones = bones_with c w.bones }

-- tables by class and place, with those of the triggers of one class
abbrev pub tables_with : ℕ → List Table → (ℕ → ℕ → Table) → ℕ → ℕ → Table
tables_with class own tables number place = cond (number == class) (slice_index_or own place (tables number place)) (tables number place)

-- a stored database with a class behind the others and its own tables
abbrev pub stored_with : Declared → List Table → Stored → Stored
stored_with c own s = record { world = world_with c s.world; tables = tables_with c.class.number own s.tables }

-- classes with lower numbers
abbrev pub AreBefore : ℕ → List Declared → Type 0
AreBefore number classes = AllByRecursion (λ (d : Declared). d.class.number < number) classes

-- objects of these classes
abbrev pub AreOf : List Declared → List Object → Type 0
AreOf classes objects = AllByRecursion (λ (o : Object). IsSome (class_numbered o.class classes)) objects
