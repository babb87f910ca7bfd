-- Right sides: calls, `pnew`, `newversion`, `activate` and expressions.
use Rattle.std.specs.Prelude.{ℕ, List, [], ◌∷◌, ◌++◌, length, not, ◌==◌, Option, Some, None, Ok, Err}
use Rattle.std.specs.List.{list_any}
use Rattle.std.specs.Str.{bytes_eq}
use Rattle.ode_value.specs.declared.binding.Param.{Param}
use Rattle.ode_value.specs.declared.class.Class.{Class}
use Rattle.ode_value.specs.declared.member.Method.{Method}
use Rattle.ode_value.specs.declared.member.TriggerDecl.{TriggerDecl}
use Rattle.ode_value.specs.declared.reason.CheckError.TheVariants.{UnknownName}
use Rattle.ode_value.specs.declared.statement.Call.{Call}
use Rattle.ode_value.specs.declared.statement.Expr.{Expr}
use Rattle.ode_value.specs.declared.statement.Rhs.{Rhs}
use Rattle.ode_value.specs.declared.statement.Rhs.TheVariants as rhs
use Rattle.ode_value.specs.declared.statement.Sort.{Sort}
use Rattle.ode_value.specs.declared.statement.Sort.TheVariants as sort
use Rattle.ode_types.specs.declared.checked.Right.{Right}
use Rattle.ode_types.specs.declared.checked.Typed.{Typed}
use Rattle.ode_types.specs.Checks.{Check, ◌>>=◌, ◌>>◌, needs, found, in_turn}
use Rattle.ode_types.specs.Families.{class_named, line_of, field_named, method_named, trigger_named}
use Rattle.ode_types.specs.Scopes.{Scope, wrong}
use Rattle.ode_types.specs.Sorts.{class_of}
use Rattle.ode_types.specs.Typing.{typed, fitting, reference}

-- a right side of this sort
abbrev pub yields : Rhs → Sort → Check Right
yields r s = Ok (record { rhs = r; sort = Some s })

-- an argument against the first of the parameters that are left; one too many is checked before it is wrong
abbrev pub argument : Scope → List Param → Expr → Check (Expr × List Param)
argument scope [] e = do
  _ ← typed e scope
  Err (wrong scope)
argument scope (p ∷ ps) e = do
  x ← fitting p.sort e scope
  Ok (x, ps)

-- arguments, each against its parameter
unfoldable pub arguments : Scope → List Param → List Expr → Check (List Expr)
arguments scope params args = do
  (es, rest) ← in_turn (argument scope) params args
  needs (wrong scope) (length rest == 0)
  Ok es

-- a field that a `pnew` names, which isn't among those before it
unfoldable pub setting : Scope → Class → List (List ℕ × Expr) → List ℕ × Expr → Check (List ℕ × Expr)
setting scope c before (name, e) = do
  f ← found (UnknownName name) (field_named c.fields name)
  needs (wrong scope) (not (list_any (λ (s : List ℕ × Expr). bytes_eq s.0 name) before))
  x ← fitting f.1.sort e scope
  Ok (name, x)

-- the same, behind those before it
abbrev pub next_setting : Scope → Class → List (List ℕ × Expr) → List ℕ × Expr → Check ((List ℕ × Expr) × List (List ℕ × Expr))
next_setting scope c before set = do
  s ← setting scope c before set
  Ok (s, before ++ s ∷ [])

-- the fields that a `pnew` names, each once
unfoldable pub settings : Scope → Class → List (List ℕ × Expr) → Check (List (List ℕ × Expr))
settings scope c sets = do
  (ss, all) ← in_turn (next_setting scope c) [] sets
  Ok ss

-- a call of a method, behind its receiver
unfoldable pub method_call : Option Expr → Method → Call → Scope → Check Right
method_call of m call scope = do
  args ← arguments scope m.params call.args
  yields (rhs.Call (record { of = of; method = call.method; args = args })) m.result

-- a call, by its receiver and the receiver's class; null has none
unfoldable pub call_of : Option Expr → Option Class → Call → Scope → Check Right
call_of of class call scope = do
  c ← found (wrong scope) class
  m ← found (UnknownName call.method) (method_named (line_of scope.classes c) call.method)
  method_call of m call scope

-- the same by what stands before the method, which may be nothing
abbrev pub call_from : Option Expr → Call → Scope → Check Right
call_from None call scope = call_of None scope.class call scope
call_from (Some e) call scope = do
  t ← typed e scope
  call_of (Some t.expr) (class_of scope.classes t.sort) call scope

-- an activation of a trigger, behind its receiver
unfoldable pub trigger_activated : Expr → TriggerDecl → List ℕ → List Expr → Scope → Check Right
trigger_activated of t trigger given scope = do
  args ← arguments scope t.params given
  yields (rhs.Activate of trigger args) sort.Int

-- an activation, by its receiver
unfoldable pub activated : Typed → List ℕ → List Expr → Scope → Check Right
activated of trigger given scope = do
  c ← found (wrong scope) (class_of scope.classes of.sort)
  t ← found (UnknownName trigger) (trigger_named (line_of scope.classes c) trigger)
  trigger_activated of.expr t trigger given scope

-- a `pnew` of a class
unfoldable pub made_of : Class → List ℕ → List (List ℕ × Expr) → Scope → Check Right
made_of c class fields scope = do
  sets ← settings scope c fields
  yields (rhs.New class sets) (sort.Reference class)

-- a `pnew`
unfoldable pub made : List ℕ → List (List ℕ × Expr) → Scope → Check Right
made class fields scope = do
  c ← found (UnknownName class) (class_named scope.classes class)
  made_of c class fields scope

-- a right side
unfoldable pub right : Rhs → Scope → Check Right
right (rhs.Plain e) scope = do
  t ← typed e scope
  Ok (record { rhs = rhs.Plain t.expr; sort = t.sort })
right (rhs.Call call) scope = call_from call.of call scope
right (rhs.New class fields) scope = made class fields scope
right (rhs.NewVersion e) scope = do
  t ← reference e scope
  Ok (record { rhs = rhs.NewVersion t.expr; sort = t.sort })
right (rhs.Activate e trigger given) scope = do
  t ← typed e scope
  activated t trigger given scope
