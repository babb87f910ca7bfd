-- The static rules: a checked class or the first rule that is broken, and the same of a statement of a script.
use Rattle.std.specs.Prelude.{ℕ, List, [], ◌∷◌, ◌++◌, codes, false, fold, None, Ok}
use Rattle.ode_value.specs.declared.change.Added.{Added}
use Rattle.ode_value.specs.declared.class.Class.{Class}
use Rattle.ode_value.specs.declared.member.Constraint.{Constraint}
use Rattle.ode_value.specs.declared.member.Method.{Method}
use Rattle.ode_value.specs.declared.member.TriggerDecl.{TriggerDecl}
use Rattle.ode_value.specs.declared.statement.ClassDecl.{ClassDecl}
use Rattle.ode_value.specs.declared.statement.Member.{Member}
use Rattle.ode_value.specs.declared.statement.Member.TheVariants as member
use Rattle.ode_value.specs.declared.statement.Sort.TheVariants as sort
use Rattle.ode_value.specs.declared.statement.Stmt.{Stmt}
use Rattle.ode_value.specs.declared.value.Ref.{Ref}
use Rattle.ode_types.specs.Bodies.{checks, body}
use Rattle.ode_types.specs.Checks.{Check, ◌>>=◌, each}
use Rattle.ode_types.specs.Declaring.{begins, declared, with_added, with_member}
use Rattle.ode_types.specs.Events.{listed}
use Rattle.ode_types.specs.Scopes.{Scope, member_scope, plain_scope}
use Rattle.ode_types.specs.Typing.{fitting}

-- the second pass over a method, a constraint and a trigger
unfoldable pub method_checked : List Class → Class → Method → Check Method
method_checked classes c m = do
  ss ← body m.body (member_scope classes c m.name m.params m.result)
  Ok (record m { body = ss })

unfoldable pub constraint_checked : List Class → Class → Constraint → Check Constraint
constraint_checked classes c x = do
  test ← fitting sort.Bool x.test (plain_scope (member_scope classes c x.name [] sort.Void))
  Ok (record x { test = test })

-- a trigger where it stands: its event before its action
abbrev pub trigger_within : TriggerDecl → Scope → Check TriggerDecl
trigger_within t scope = do
  event ← listed t.event scope
  action ← body t.action scope
  Ok (record t { event = event; action = action })

unfoldable pub trigger_checked : List Class → Class → TriggerDecl → Check TriggerDecl
trigger_checked classes c t = trigger_within t (member_scope classes c t.name t.params sort.Void)

-- over a member; fields and kinds have nothing more to check
abbrev pub checked_member : List Class → Class → Member → Check Member
checked_member classes c (member.Method m) = do
  n ← method_checked classes c m
  Ok (member.Method n)
checked_member classes c (member.Constraint x) = do
  y ← constraint_checked classes c x
  Ok (member.Constraint y)
checked_member classes c (member.Trigger t) = do
  u ← trigger_checked classes c t
  Ok (member.Trigger u)
checked_member classes c m = Ok m

-- over all members, which come to what the class begins with
unfoldable pub members_completed : List Class → Class → ClassDecl → Class → Check Class
members_completed classes c d start = do
  members ← each (checked_member classes c) d.members
  Ok (fold with_member start members)

-- and behind them the fields that are added
abbrev pub completed : List Class → Class → ClassDecl → List Added → Class → Check Class
completed classes c d added start = do
  e ← members_completed classes c d start
  Ok (fold with_added e added)

-- both passes over a class with fields that are added to it, by the classes that are known
unfoldable pub check_grown : List Class → List Added → ClassDecl → Check Class
check_grown known added d = do
  start ← begins known d
  draft ← declared known d added start
  completed (known ++ draft ∷ []) draft d added start

-- over a class as it is declared
abbrev pub check_class : List Class → ClassDecl → Check Class
check_class known d = check_grown known [] d

-- where a statement of a script stands, by the classes and by the classes of its literals
abbrev pub script_scope : List Class → List (Ref × ℕ) → Scope
script_scope classes literals = record {
  classes = classes;
  class = None;
  member = codes "statement";
  seen = [];
  next = 0;
  result = sort.Void;
  is_plain = false;
  literals = literals;
}

-- a statement of a script
unfoldable pub check_statement : List Class → List (Ref × ℕ) → Stmt → Check Stmt
check_statement classes literals s = do
  (t, scope) ← checks s (script_scope classes literals)
  Ok t
