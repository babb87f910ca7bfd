-- The sort of an expression, and the expression with slots for its names.
use Rattle.std.specs.Prelude.{ℕ, ℤ, List, length, position, Bool, cond, not, ◌&&◌, ◌==◌, nat_le, is_none, is_ok, Option, Some, None, Ok, Err}
use Rattle.std.specs.List.{find}
use Rattle.std.specs.Option.{option_and_then, option_map}
use Rattle.ode_value.specs.declared.binding.Var.{Var}
use Rattle.ode_value.specs.declared.binding.Var.TheVariants as var
use Rattle.ode_value.specs.declared.class.Class.{Class}
use Rattle.ode_value.specs.declared.operator.BinOp.{BinOp}
use Rattle.ode_value.specs.declared.operator.UnOp.{UnOp}
use Rattle.ode_value.specs.declared.reason.CheckError.{CheckError}
use Rattle.ode_value.specs.declared.reason.CheckError.TheVariants.{UnknownName}
use Rattle.ode_value.specs.declared.statement.Expr.{Expr, fold-Expr}
use Rattle.ode_value.specs.declared.statement.Expr.TheOpen as expr
use Rattle.ode_value.specs.declared.statement.Expr.TheVariants as checked
use Rattle.ode_value.specs.declared.statement.Sort.{Sort}
use Rattle.ode_value.specs.declared.statement.Sort.TheVariants as sort
use Rattle.ode_value.specs.declared.value.Ref.{Ref}
use Rattle.ode_value.specs.declared.value.Value.{Value}
use Rattle.ode_value.specs.declared.value.Value.TheVariants as value
use Rattle.ode_value.specs.Arithmetic.{within}
use Rattle.ode_value.specs.Limits.{text_limit}
use Rattle.ode_value.specs.Same.{same_ref}
use Rattle.ode_value.specs.Text.{is_bad_byte}
use Rattle.ode_types.specs.Checks.{Check, ◌>>=◌, ◌>>◌, needs, found}
use Rattle.ode_types.specs.Families.{class_numbered, field_named}
use Rattle.ode_types.specs.Scopes.{Scope, wrong, meaning}
use Rattle.ode_types.specs.declared.checked.Typed.{Typed}
use Rattle.ode_types.specs.Sorts.{fits, class_of, is_reference, unary_sort, binary_sort}

-- what a check of an expression gives
abbrev pub Typing : Type 0
Typing = Scope → Check Typed

-- an expression of this sort
abbrev pub gives : Expr → Sort → Check Typed
gives e s = Ok (record { expr = e; sort = Some s })

-- an expression of a sort, where there is one
abbrev pub typed_where : CheckError → Expr → Option Sort → Check Typed
typed_where broken e o = do
  s ← found broken o
  gives e s

-- a slot in the place of a name
abbrev pub slot : Var → Expr
slot (var.Local place) = checked.Local place
slot (var.Own place) = checked.Own place
slot (var.Name name) = checked.Name name

-- the class of a literal's object, by the numbers that are given
abbrev pub literal_class : List Class → List (Ref × ℕ) → Ref → Option Class
literal_class classes literals r =
    option_and_then (class_numbered classes) (option_map (λ (l : Ref × ℕ). l.1) (find (λ (l : Ref × ℕ). same_ref l.0 r) literals))

-- an int has 64 bits, and bytes are a text
abbrev pub is_int : ℤ → Bool
is_int n = is_ok (within n)

abbrev pub is_text : List ℕ → Bool
is_text bytes = nat_le (length bytes) text_limit && is_none (position is_bad_byte bytes)

-- where this holds
abbrev pub where_so : {A : Type 0} → Bool → Option A → Option A
where_so so a = cond so a None

-- the sort of a reference that isn't null; the class of its object is known
abbrev pub literal_sort : List Class → List (Ref × ℕ) → Ref → Option (Option Sort)
literal_sort classes literals r = option_map (λ (c : Class). Some (sort.Reference c.name)) (literal_class classes literals r)

-- the sort of a literal, where it is one; null, which has no version, has none
abbrev pub value_sort : List Class → List (Ref × ℕ) → Value → Option (Option Sort)
value_sort classes literals (value.Int n) = where_so (is_int n) (Some (Some sort.Int))
value_sort classes literals (value.Bool b) = Some (Some sort.Bool)
value_sort classes literals (value.Text t) = where_so (is_text t) (Some (Some sort.Text))
value_sort classes literals (value.Reference r) = cond (r.object == 0) (where_so (is_none r.version) (Some None)) (literal_sort classes literals r)

-- a literal; a tree may have others, but no text has
abbrev pub literal : Value → Typing
literal v scope = do
  s ← found (wrong scope) (value_sort scope.classes scope.literals v)
  Ok (record { expr = checked.Lit v; sort = s })

-- a name
abbrev pub name_typed : List ℕ → Typing
name_typed name scope = do
  m ← found (UnknownName name) (meaning scope name)
  gives (slot m.0) m.1

-- the object itself; it doesn't stand in a plain expression
abbrev pub this_typed : Typing
this_typed scope = do
  needs (wrong scope) (not scope.is_plain)
  c ← found (wrong scope) scope.class
  gives checked.This (sort.Reference c.name)

-- a field of a class, of what was checked
abbrev pub field_of : Expr → Class → List ℕ → Check Typed
field_of of c name = do
  f ← found (UnknownName name) (field_named c.fields name)
  gives (checked.Slot of f.0) f.1.sort

-- a field of what was checked
abbrev pub field_typed : Typed → List ℕ → Typing
field_typed of name scope = do
  needs (wrong scope) (not scope.is_plain)
  c ← found (wrong scope) (class_of scope.classes of.sort)
  field_of of.expr c name

-- the version of what was checked
abbrev pub version_typed : Typed → Typing
version_typed of scope = do
  needs (wrong scope) (is_reference of.sort)
  Ok (record { expr = checked.Version of.expr; sort = of.sort })

-- an operator, behind its operands
abbrev pub unary_typed : UnOp → Typed → Typing
unary_typed op a scope = do
  s ← found (wrong scope) (unary_sort op a.sort)
  gives (checked.Unary op a.expr) s

abbrev pub binary_typed : BinOp → Typed → Typed → Typing
binary_typed op a b scope = do
  s ← found (wrong scope) (binary_sort scope.is_plain op a.sort b.sort)
  gives (checked.Binary op a.expr b.expr) s

-- one level of an expression; no text has slots
abbrev pub typing_of : expr.Expr-F Typing → Typing
typing_of (expr.Lit v) scope = literal v scope
typing_of (expr.Name name) scope = name_typed name scope
typing_of expr.This scope = this_typed scope
typing_of (expr.Field e name) scope = do
  of ← e scope
  field_typed of name scope
typing_of (expr.Version e) scope = do
  needs (wrong scope) (not scope.is_plain)
  of ← e scope
  version_typed of scope
typing_of (expr.Unary op e) scope = do
  a ← e scope
  unary_typed op a scope
typing_of (expr.Binary op e f) scope = do
  a ← e scope
  b ← f scope
  binary_typed op a b scope
typing_of _ scope = Err (wrong scope)

-- the same of a whole expression
unfoldable pub typed : Expr → Typing
typed = fold-Expr Typing typing_of

-- an expression that fits a sort
unfoldable pub fitting : Sort → Expr → Scope → Check Expr
fitting s e scope = do
  t ← typed e scope
  needs (wrong scope) (fits scope.classes t.sort s)
  Ok t.expr

-- a reference, which may be null
unfoldable pub reference : Expr → Scope → Check Typed
reference e scope = do
  t ← typed e scope
  needs (wrong scope) (is_reference t.sort)
  Ok t
