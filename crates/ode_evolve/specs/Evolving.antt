-- The classes behind a change of one, or the first rule that the change breaks: the class is declared; the class in each new field's
-- sort is declared before it or is the class itself, and its literal is one of its sort; and all classes are accepted anew, with the
-- fields that were added to each.
use Rattle.std.specs.Prelude.{ℕ, ◌+◌, List, [], ◌∷◌, ◌++◌, map, Bool, true, false, length, take, Option, Ok}
use Rattle.std.specs.List.{enumerate_from, list_any, position}
use Rattle.std.specs.Str.{bytes_eq}
use Rattle.ode_value.specs.declared.change.Added.{Added}
use Rattle.ode_value.specs.declared.change.Change.{Change}
use Rattle.ode_value.specs.declared.class.Class.{Class}
use Rattle.ode_value.specs.declared.reason.CheckError.TheVariants.{UnknownName, WrongSort}
use Rattle.ode_value.specs.declared.statement.ClassDecl.{ClassDecl}
use Rattle.ode_value.specs.declared.statement.Sort.{Sort}
use Rattle.ode_value.specs.declared.statement.Sort.TheVariants as sort
use Rattle.ode_value.specs.declared.value.Value.{Value}
use Rattle.ode_value.specs.declared.value.Value.TheVariants as value
use Rattle.ode_value.specs.Changing.{added_as, added_by, added_to}
use Rattle.ode_value.specs.Classes.{null}
use Rattle.ode_value.specs.Same.{same_value}
use Rattle.ode_types.specs.Checks.{Check, ◌>>=◌, ◌>>◌, found, needs, through}
use Rattle.ode_types.specs.Static.{check_grown}

-- ---- the fields of a change

-- a literal of a sort: of a reference's it is null
abbrev pub is_literal : Sort → Value → Bool
is_literal sort.Int (value.Int n) = true
is_literal sort.Bool (value.Bool b) = true
is_literal sort.Text (value.Text t) = true
is_literal (sort.Reference class) v = same_value v null
is_literal _ _ = false

abbrev pub is_named : List ℕ → ClassDecl → Bool
is_named name d = bytes_eq d.name name

-- by the classes up to the changed one, with it
module _ (seen : List ClassDecl) where
  abbrev pub knows_class : Sort → Check (Unit {0})
  knows_class (sort.Reference name) = needs (UnknownName name) (list_any (is_named name) seen)
  knows_class _ = Ok tt

  abbrev pub knows_field : Unit {0} → List ℕ × Sort × Value → Check (Unit {0})
  knows_field u f = do
    knows_class f.1
    needs (WrongSort f.0) (is_literal f.1 f.2)

-- ---- all classes anew

-- fields of the class of a number, with the births behind those of these
abbrev pub born : ℕ → List Added → List (List ℕ × Sort × Value) → List Added
born class before fields = map (added_as class) (enumerate_from (length before + 1) fields)

-- one class more, with the fields that were added to it
abbrev pub declares_next : List Added → List Class → ClassDecl → Check (List Class)
declares_next added known d = do
  c ← check_grown known (added_to (length known + 1) added) d
  Ok (known ++ c ∷ [])

-- the place of the class of this name
abbrev pub place_named : List ClassDecl → List ℕ → Option ℕ
place_named decls name = position (is_named name) decls

-- by all classes as they are written, and by the fields that were added before, in the order of their births
unfoldable pub change_class : List ClassDecl → List Added → Change → Check (List Class)
change_class decls added c = do
  place ← found (UnknownName c.class) (place_named decls c.class)
  through (knows_field (take (place + 1) decls)) tt c.fields
  through (declares_next (added ++ added_by (place + 1) (length added) c)) [] decls
