-- Statements and bodies. A statement's check gives the scope of the next one.
use Rattle.std.specs.Prelude.{List, not, nat_lt, Option, Some, None, Ok, Err}
use Rattle.ode_value.specs.declared.binding.Var.{Var}
use Rattle.ode_value.specs.declared.binding.Var.TheVariants as var
use Rattle.ode_value.specs.declared.reason.CheckError.TheVariants.{UnknownName, Duplicate}
use Rattle.ode_value.specs.declared.statement.Expr.{Expr}
use Rattle.ode_value.specs.declared.statement.Rhs.{Rhs}
use Rattle.ode_value.specs.declared.statement.Sort.{Sort}
use Rattle.ode_value.specs.declared.statement.Sort.TheVariants as sort
use Rattle.ode_value.specs.declared.statement.Stmt.{Stmt, fold-Stmt}
use Rattle.ode_value.specs.declared.statement.Stmt.TheOpen as stmt
use Rattle.ode_value.specs.declared.statement.Stmt.TheVariants as checked
use Rattle.ode_types.specs.Checks.{Check, ◌>>=◌, ◌>>◌, needs, found, in_turn}
use Rattle.ode_types.specs.Limits.{slot_limit}
use Rattle.ode_types.specs.Rights.{right}
use Rattle.ode_types.specs.Scopes.{Scope, wrong, meaning, is_seen, with_local, behind}
use Rattle.ode_types.specs.Sorts.{fits, is_void, starting}
use Rattle.ode_types.specs.Typing.{fitting, reference}

-- a check of a statement
abbrev pub Checking : Type 0
Checking = Scope → Check (Stmt × Scope)

-- a statement in the scope that the one before leaves
abbrev pub follow : Scope → Checking → Check (Stmt × Scope)
follow scope check = check scope

-- a body; its locals aren't seen behind it
unfoldable pub inner : List Checking → Scope → Check (List Stmt × Scope)
inner checks scope = do
  (ss, last) ← in_turn follow scope checks
  Ok (ss, behind last scope)

-- a `let`; no text makes a slot, or needs more than there are
unfoldable pub let_checked : Var → Rhs → Checking
let_checked (var.Name name) rhs scope = do
  needs (Duplicate name) (not (is_seen scope name))
  r ← right rhs scope
  s ← found (wrong scope) (starting r.sort)
  needs (wrong scope) (nat_lt scope.next slot_limit)
  Ok (checked.Let (var.Local scope.next) r.rhs, with_local name s scope)
let_checked _ rhs scope = Err (wrong scope)

-- an assignment to what stands for a name, of this sort
abbrev pub set_as : Var → Sort → Rhs → Checking
set_as v s rhs scope = do
  r ← right rhs scope
  needs (wrong scope) (fits scope.classes r.sort s)
  Ok (checked.Set v r.rhs, scope)

-- an assignment; no text sets a slot
unfoldable pub set_checked : Var → Rhs → Checking
set_checked (var.Name name) rhs scope = do
  m ← found (UnknownName name) (meaning scope name)
  set_as m.0 m.1 rhs scope
set_checked _ rhs scope = Err (wrong scope)

unfoldable pub return_checked : Option Expr → Scope → Check Stmt
return_checked None scope = do
  needs (wrong scope) (is_void (Some scope.result))
  Ok (checked.Return None)
return_checked (Some e) scope = do
  v ← fitting scope.result e scope
  Ok (checked.Return (Some v))

-- the value of a void call isn't shown
unfoldable pub show_checked : Rhs → Scope → Check Stmt
show_checked rhs scope = do
  r ← right rhs scope
  needs (wrong scope) (not (is_void r.sort))
  Ok (checked.Show r.rhs)

unfoldable pub deactivate_checked : Expr → Expr → Scope → Check Stmt
deactivate_checked e f scope = do
  r ← reference e scope
  n ← fitting sort.Int f scope
  Ok (checked.Deactivate r.expr n)

-- a statement that leaves the scope as it is
abbrev pub keeps : (Scope → Check Stmt) → Checking
keeps check scope = do
  s ← check scope
  Ok (s, scope)

-- one level of a statement
abbrev pub checking_of : stmt.Stmt-F Checking → Checking
checking_of (stmt.Let v rhs) scope = let_checked v rhs scope
checking_of (stmt.Set v rhs) scope = set_checked v rhs scope
checking_of (stmt.Do rhs) scope = do
  r ← right rhs scope
  Ok (checked.Do r.rhs, scope)
checking_of (stmt.If test first second) scope = do
  t ← fitting sort.Bool test scope
  (a, middle) ← inner first scope
  (b, last) ← inner second middle
  Ok (checked.If t a b, last)
checking_of (stmt.Return e) scope = keeps (return_checked e) scope
checking_of (stmt.Delete e) scope = do
  r ← reference e scope
  Ok (checked.Delete r.expr, scope)
checking_of (stmt.DropVersion e) scope = do
  r ← reference e scope
  Ok (checked.DropVersion r.expr, scope)
checking_of (stmt.Deactivate e f) scope = keeps (deactivate_checked e f) scope
checking_of (stmt.Show rhs) scope = keeps (show_checked rhs) scope
checking_of (stmt.Say e) scope = do
  t ← fitting sort.Text e scope
  Ok (checked.Say t, scope)
checking_of stmt.TAbort scope = Ok (checked.TAbort, scope)

-- a whole statement
unfoldable pub checks : Stmt → Checking
checks = fold-Stmt Checking checking_of

-- a statement in the scope that the one before leaves
abbrev pub next_checked : Scope → Stmt → Check (Stmt × Scope)
next_checked scope s = checks s scope

-- a whole body, and the scope behind it
unfoldable pub body_checked : List Stmt → Scope → Check (List Stmt × Scope)
body_checked statements scope = do
  (ss, last) ← in_turn next_checked scope statements
  Ok (ss, behind last scope)

abbrev pub body : List Stmt → Scope → Check (List Stmt)
body statements scope = do
  (ss, last) ← body_checked statements scope
  Ok ss
