use Rattle.std.proofs.Common.{ap, ◌∙◌, List}
use Rattle.ode_value.specs.declared.class.Class.{Class}
use Rattle.ode_types.specs.Families.{method_named}
use Rattle.ode_schema.proofs.Agree.{line_by}
use Rattle.ode_schema.proofs.Longest.{method_fits_found}
use Rattle.ode_schema.proofs.schema.ProgramSchema.method.Goals as goal

pub returns : goal.returns
returns c = record {
  is = λ classes are. c.nearest.ensures ∙ ap (λ (line : List Class). method_named line c.args.name.now) (line_by c.args.self.now.classes classes are c.args.class);
  fits = λ size. method_fits_found size c.args.self.now.classes c.args.class c.args.name.now c.nearest.result c.nearest.ensures;
}
