-- A class of one int field with two triggers, the first on whole histories.
use Rattle.std.specs.Prelude.{ℕ, List, [], ◌∷◌, Bool, codes, false, true, None}
use Rattle.ode_value.specs.declared.class.Class.{Class}
use Rattle.ode_value.specs.declared.event.EventExpr.TheVariants as event
use Rattle.ode_value.specs.declared.event.Mode.TheVariants as mode
use Rattle.ode_value.specs.declared.member.TriggerDecl.{TriggerDecl}
use Rattle.ode_value.specs.declared.statement.Sort.TheVariants as sort
use Rattle.ode_value.specs.declared.statement.ClassDecl.{ClassDecl}
use Rattle.ode_value.specs.declared.statement.Member.TheVariants as member

-- a trigger that fires at each point
abbrev pub trigger_of : List ℕ → Bool → TriggerDecl
trigger_of name whole = record {
  name = name;
  initial = false;
  perpetual = true;
  whole = whole;
  mode = mode.Immediate;
  params = [];
  event = event.Any;
  action = [];
}

abbrev pub watched_tree : ClassDecl
watched_tree = record {
  name = codes "P";
  parent = None;
  members = member.Field (codes "n") sort.Int ∷ member.Trigger (trigger_of (codes "w") true) ∷ member.Trigger (trigger_of (codes "m") false) ∷ [];
}

abbrev pub watched : Class
watched = record {
  number = 1;
  name = codes "P";
  parent = None;
  fields = record { name = codes "n"; sort = sort.Int; birth = 0; literal = None } ∷ [];
  methods = [];
  constraints = [];
  kinds = [];
  triggers = trigger_of (codes "w") true ∷ trigger_of (codes "m") false ∷ [];
}
