use Rattle.std.proofs.Common.{List, ap, sym, ◌∙◌}
use Rattle.ode_value.specs.declared.class.Class.{Class}
use Rattle.ode_types.specs.Families.{method_named}
use Rattle.ode_schema.proofs.Lines.{line_ends, line_known}
use Rattle.ode_schema.proofs.program.method_of.Goals as goal

pub returns-in-Some : goal.returns-in-Some
returns-in-Some c =
    c.method_named.ensures
    ∙ ap (λ (l : List Class). method_named l c.args.name.now)
    (line_known c.args.classes.now c.as_slice-checked.ensures.checked c.args.class c.in-Some.class.now c.new.result c.new.ensures (sym c.in-Some.ensures))

pub returns-in-None : goal.returns-in-None
returns-in-None c =
    sym (ap (λ (l : List Class). method_named l c.args.name.now) (line_ends c.args.classes.now c.as_slice-checked.ensures.checked c.args.class (sym c.in-None.ensures)))
