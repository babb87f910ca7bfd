use Rattle.std.proofs.Common.{List, ap, ◌∙◌}
use Rattle.std.specs.List.{list_any}
use Rattle.std.specs.Str.{bytes_eq}
use Rattle.ode_value.specs.declared.class.Class.{Class}
use Rattle.ode_schema.proofs.Agree.{line_by}
use Rattle.ode_schema.proofs.program.inherits.Goals as goal

pub returns : goal.returns
returns c = λ classes are.
    c.has_name.ensures
    ∙ ap (λ (line : List Class). list_any (λ (d : Class). bytes_eq d.name c.args.name.now) line) (line_by c.args.classes.now classes are c.args.class)
