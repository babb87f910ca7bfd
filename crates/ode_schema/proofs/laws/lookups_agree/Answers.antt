use Rattle.std.proofs.Common.{List, refl, ap, sym}
use Rattle.std.specs.List.{list_any}
use Rattle.std.specs.Str.{bytes_eq}
use Rattle.ode_value.specs.declared.class.Class.{Class}
use Rattle.ode_types.specs.Families.{method_named}
use Rattle.ode_states.specs.Machine.{checked}
use Rattle.ode_schema.proofs.Agree.{line_of_class, named_agree, numbered_agree, rise_by}
use Rattle.ode_schema.proofs.Names.{trigger_agrees}
use Rattle.ode_schema.proofs.laws.lookups_agree.Goals as goal

pub returns : goal.returns
returns c = record {
  numbered = λ classes number. sym (numbered_agree classes number);
  named = λ classes name. sym (named_agree classes name);
  line = λ classes checks number d found. line_of_class classes checks number d found;
  is = λ classes checks number d found name. ap (λ (l : List Class). list_any (λ (e : Class). bytes_eq e.name name) l) (line_of_class classes checks number d found);
  method = λ classes checks number d found name. ap (λ (l : List Class). method_named l name) (line_of_class classes checks number d found);
  trigger = λ classes checks number d found name. trigger_agrees classes checks number d found name;
  rising = λ classes checks. rise_by (checked classes) classes refl checks;
}
