-- A class with one trigger.
use Rattle.std.specs.Prelude.{[], ◌∷◌, codes, false, true, None}
use Rattle.ode_value.specs.declared.class.Class.{Class}
use Rattle.ode_value.specs.declared.event.EventExpr.TheVariants as event
use Rattle.ode_value.specs.declared.event.Mode.TheVariants as mode
use Rattle.ode_value.specs.declared.member.TriggerDecl.{TriggerDecl}
use Rattle.ode_value.specs.declared.statement.ClassDecl.{ClassDecl}
use Rattle.ode_value.specs.declared.statement.Member.TheVariants as member

-- it fires at each point
abbrev pub at_each_point : TriggerDecl
at_each_point = record {
  name = codes "t";
  initial = false;
  perpetual = true;
  whole = false;
  mode = mode.Immediate;
  params = [];
  event = event.Any;
  action = [];
}

abbrev pub watched_tree : ClassDecl
watched_tree = record { name = codes "C"; parent = None; members = member.Trigger at_each_point ∷ [] }

abbrev pub watched : Class
watched = record {
  number = 1;
  name = codes "C";
  parent = None;
  fields = [];
  methods = [];
  constraints = [];
  kinds = [];
  triggers = at_each_point ∷ [];
}
