-- What of classes stays where one of them gets fields: all but the fields, the bodies and the events.
use Rattle.std.specs.Prelude.{[], map}
use Rattle.ode_value.specs.declared.class.Class.{Class}
use Rattle.ode_value.specs.declared.event.EventExpr.TheVariants as event
use Rattle.ode_value.specs.declared.member.TriggerDecl.{TriggerDecl}
use Rattle.ode_value.specs.Classes.{Trigger}
use Rattle.ode_value.specs.Worlds.{Declared}

abbrev pub plain_decl : TriggerDecl → TriggerDecl
plain_decl t = record t { event = event.Any; action = [] }

abbrev pub plain_class : Class → Class
plain_class c = record c { fields = []; methods = []; constraints = []; triggers = map plain_decl c.triggers }

abbrev pub plain : Declared → Declared
plain d = record d { class = plain_class d.class }

-- the same of a trigger
abbrev pub plain_trigger : Trigger → Trigger
plain_trigger t = record t { decl = plain_decl t.decl }
