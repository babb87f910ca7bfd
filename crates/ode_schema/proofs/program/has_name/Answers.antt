use Rattle.std.proofs.Common.{List, ap, sym, ◌∙◌}
use Rattle.std.specs.List.{list_any}
use Rattle.std.specs.Str.{bytes_eq}
use Rattle.ode_value.specs.declared.class.Class.{Class}
use Rattle.ode_schema.proofs.Lines.{line_ends, line_known}
use Rattle.ode_schema.proofs.program.has_name.Goals as goal

pub returns-in-Some : goal.returns-in-Some
returns-in-Some c =
    c.is_a.ensures
    ∙ ap (λ (l : List Class). list_any (λ (d : Class). bytes_eq d.name c.args.name.now) l)
    (line_known c.args.classes.now c.as_slice-checked.ensures.checked c.args.class c.in-Some.class.now c.new.result c.new.ensures (sym c.in-Some.ensures))

pub returns-in-None : goal.returns-in-None
returns-in-None c =
    sym (ap (λ (l : List Class). list_any (λ (d : Class). bytes_eq d.name c.args.name.now) l) (line_ends c.args.classes.now c.as_slice-checked.ensures.checked c.args.class (sym c.in-None.ensures)))
