use Rattle.std.proofs.Common.{List, ap, ◌∙◌}
use Rattle.ode_value.specs.declared.class.Class.{Class}
use Rattle.ode_types.specs.Families.{class_named}
use Rattle.ode_schema.proofs.Agree.{named_by}
use Rattle.ode_schema.proofs.schema.ProgramSchema.named.Goals as goal

pub returns : goal.returns
returns c = λ classes are.
    c.named.ensures ∙ ap (λ (cs : List Class). class_named cs c.args.name.now) c.classes.ensures ∙ named_by c.args.self.now.classes classes are c.args.name.now
