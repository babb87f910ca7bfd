-- The static rules of a comparison of two event expressions: each is checked as the event of a trigger.
use Rattle.std.specs.Prelude.{ℕ, List, [], codes, None, Ok}
use Rattle.ode_value.specs.declared.binding.Param.{Param}
use Rattle.ode_value.specs.declared.class.Class.{Class}
use Rattle.ode_value.specs.declared.event.EventExpr.{EventExpr}
use Rattle.ode_value.specs.declared.reason.CheckError.TheVariants.{UnknownName}
use Rattle.ode_value.specs.declared.statement.ClassDecl.{ClassDecl}
use Rattle.ode_value.specs.declared.statement.Sort.TheVariants as sort
use Rattle.ode_types.specs.Checks.{Check, ◌>>=◌, ◌>>◌, found}
use Rattle.ode_types.specs.Declaring.{knows_params}
use Rattle.ode_types.specs.Events.{listed}
use Rattle.ode_types.specs.Families.{class_named}
use Rattle.ode_types.specs.Scopes.{Scope, member_scope}

-- a declaration of a class, of which only the name is looked at
abbrev pub bare : List ℕ → ClassDecl
bare name = record { name = name; parent = None; members = [] }

-- the first event before the second, where they stand
abbrev pub both_listed : EventExpr → EventExpr → Scope → Check (EventExpr × EventExpr)
both_listed e f scope = do
  a ← listed e scope
  b ← listed f scope
  Ok (a, b)

-- the events of a trigger `same` of a class with these parameters
unfoldable pub events_checked : List Class → Class → List Param → EventExpr → EventExpr → Check (EventExpr × EventExpr)
events_checked classes c params e f = both_listed e f (member_scope classes c (codes "same") params sort.Void)

-- the class is declared, and the parameters are those of a trigger; then the events
unfoldable pub check_compared : List Class → List ℕ → List Param → EventExpr → EventExpr → Check (EventExpr × EventExpr)
check_compared classes name params e f = do
  c ← found (UnknownName name) (class_named classes name)
  knows_params classes (bare name) params
  events_checked classes c params e f
