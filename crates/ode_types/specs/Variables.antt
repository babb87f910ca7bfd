-- The static rules of a query: its variables, and expressions whose names are looked up among the variables alone.
use Rattle.std.specs.Prelude.{ℕ, List, [], ◌∷◌, ◌++◌, codes, length, not, Ok}
use Rattle.std.specs.List.{list_any}
use Rattle.std.specs.Str.{bytes_eq}
use Rattle.ode_value.specs.declared.binding.Param.{Param}
use Rattle.ode_value.specs.declared.class.Class.{Class}
use Rattle.ode_value.specs.declared.reason.CheckError.TheVariants.{Duplicate, UnknownName}
use Rattle.ode_value.specs.declared.statement.Expr.{Expr}
use Rattle.ode_value.specs.declared.statement.Sort.TheVariants as sort
use Rattle.ode_value.specs.declared.value.Ref.{Ref}
use Rattle.ode_types.specs.Checks.{Check, ◌>>=◌, ◌>>◌, found, needs, through}
use Rattle.ode_types.specs.Families.{class_named}
use Rattle.ode_types.specs.Limits.{in_slots}
use Rattle.ode_types.specs.Scopes.{Scope}
use Rattle.ode_types.specs.Static.{script_scope}
use Rattle.ode_types.specs.Typing.{fitting, typed}

-- a variable, with the name of its class, is a reference to an object of this class
abbrev pub variable : List ℕ × List ℕ → Param
variable v = record { name = v.0; sort = sort.Reference v.1 }

-- one more: its name is new, and its class is declared
unfoldable pub with_variable : List Class → List Param → List ℕ × List ℕ → Check (List Param)
with_variable classes variables v = do
  needs (Duplicate v.0) (not (list_any (λ (p : Param). bytes_eq p.name v.0) variables))
  _ ← found (UnknownName v.1) (class_named classes v.1)
  Ok (variables ++ variable v ∷ [])

-- those of a query
abbrev pub variables_of : List Class → List (List ℕ × List ℕ) → Check (List Param)
variables_of classes over = through (with_variable classes) [] over

-- where the expressions of a query stand, by the classes and by the classes of the literals
abbrev pub query_scope : List Class → List (Ref × ℕ) → List Param → Scope
query_scope classes literals variables = record (script_scope classes literals) {
  member = codes "query";
  seen = in_slots 0 variables;
  next = length variables;
}

-- a test is a bool
unfoldable pub test_checked : List Class → List (Ref × ℕ) → List Param → Expr → Check Expr
test_checked classes literals variables e = fitting sort.Bool e (query_scope classes literals variables)

-- what rows are sorted by, and what they show, is of any sort
unfoldable pub shown_checked : List Class → List (Ref × ℕ) → List Param → Expr → Check Expr
shown_checked classes literals variables e = do
  t ← typed e (query_scope classes literals variables)
  Ok t.expr
