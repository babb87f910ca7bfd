-- A class gets fields: what becomes of a world.
use Rattle.std.specs.Prelude.{ℕ, ◌+◌, List, ◌++◌, map, length, Bool, false, cond, ◌==◌}
use Rattle.std.specs.List.{enumerate_from, filter}
use Rattle.std.specs.Option.{option_map_or}
use Rattle.ode_value.specs.declared.change.Added.{Added}
use Rattle.ode_value.specs.declared.change.Change.{Change}
use Rattle.ode_value.specs.declared.class.Class.{Class}
use Rattle.ode_value.specs.declared.event.Point.{Point}
use Rattle.ode_value.specs.declared.statement.Sort.{Sort}
use Rattle.ode_value.specs.declared.value.Value.{Value}
use Rattle.ode_value.specs.Classes.{is_a}
use Rattle.ode_value.specs.Denoting.{object_numbered}
use Rattle.ode_value.specs.Fields.{put_in}
use Rattle.ode_value.specs.Pasts.{Past, Kept}
use Rattle.ode_value.specs.Versions.{Version}
use Rattle.ode_value.specs.Worlds.{Declared, Object, Bones, World, class_named}

-- a field that a class gets, with its birth
abbrev pub added_as : ℕ → ℕ × (List ℕ × Sort × Value) → Added
added_as class f = record { class = class; birth = f.0; name = f.1.0; sort = f.1.1; value = f.1.2 }

-- all that a change adds to the class of a number, behind so many that were added before
abbrev pub added_by : ℕ → ℕ → Change → List Added
added_by class before c = map (added_as class) (enumerate_from (before + 1) c.fields)

-- the fields that were added to the class of a number
abbrev pub added_to : ℕ → List Added → List Added
added_to number added = filter (λ (a : Added). a.class == number) added

-- the literals of a change, in order
abbrev pub literals_of : Change → List Value
literals_of c = map (λ (f : List ℕ × Sort × Value). f.2) c.fields

-- a version and a point with these values at a place
abbrev pub version_with : ℕ → List Value → Version → Version
version_with place new v = record v { fields = put_in place new v.fields }

abbrev pub point_with : ℕ → List Value → Point → Point
point_with place new p = record p { fields = put_in place new p.fields }

module _ (b : Bones) (c : Change) where
  -- the number of the class, and the place behind its fields, which stand before those of classes that inherit from it
  abbrev pub changed_number : ℕ
  changed_number = option_map_or (λ (k : Class). k.number) (class_named c.class b.classes) 0

  abbrev pub changed_place : ℕ
  changed_place = option_map_or (λ (k : Class). length k.fields) (class_named c.class b.classes) 0

  -- an object is of the class, or of one that inherits from it
  abbrev pub gets : Object → Bool
  gets o = is_a b.classes o.class c.class

  -- an object, which has the literals in each version where it gets the fields; its versions' stamps stay
  abbrev pub changed_object : Object → Object
  changed_object o = record o { versions = cond (gets o) (map (version_with changed_place (literals_of c)) o.versions) o.versions }

  -- the bones, with these classes
  abbrev pub changed_bones : List Declared → Bones
  changed_bones classes = record b {
    classes = classes;
    added = b.added ++ added_by changed_number (length b.added) c;
    objects = map changed_object b.objects;
  }

-- the world, with these classes: each object that gets the fields has the literals in each of its points too
module _ {O A : Type 0} (past : Past O A) (classes : List Declared) (c : Change) where
  abbrev pub changed_kept : Bones → Kept O A → Kept O A
  changed_kept b kept = record kept { own = past.alter (point_with (changed_place b c) (literals_of c)) kept.own }

  abbrev pub changed_past : Bones → ℕ × Kept O A → ℕ × Kept O A
  changed_past b row = cond (option_map_or (gets b c) (object_numbered row.0 b.objects) false) (row.0, changed_kept b row.1) row

  abbrev pub changed_world : World O A → World O A
  changed_world w = record { bones = changed_bones w.bones c classes; pasts = map (changed_past w.bones) w.pasts }
