use Rattle.std.proofs.Common.{Option, ap, false, sym, ◌∙◌}
use Rattle.std.specs.List.{list_any}
use Rattle.std.specs.Option.{option_map_or}
use Rattle.ode_value.specs.declared.class.Class.{Class}
use Rattle.ode_value.specs.Same.{same_kind}
use Rattle.ode_schema.specs.Parts.{Parts}
use Rattle.ode_schema.proofs.Agree.{numbered_by}
use Rattle.ode_schema.proofs.program.Program.lists.Goals as goal

pub returns-in-Some : goal.returns-in-Some
returns-in-Some c = λ classes are.
    let inside = ap (λ (p : Parts). p.classes) c.self.view_is in
    c.has_kind.ensures ∙ ap (list_any (same_kind c.args.kind.now)) c.as_slice.ensures
    ∙ ap (λ (o : Option Class). option_map_or (λ (d : Class). list_any (same_kind c.args.kind.now) d.kinds) o false)
    (c.in-Some.ensures ∙ numbered_by c.self.inside.classes.now classes (are ∙ sym inside) c.args.class)

pub returns-in-None : goal.returns-in-None
returns-in-None c = λ classes are.
    let inside = ap (λ (p : Parts). p.classes) c.self.view_is in
    ap (λ (o : Option Class). option_map_or (λ (d : Class). list_any (same_kind c.args.kind.now) d.kinds) o false)
    (c.in-None.ensures ∙ numbered_by c.self.inside.classes.now classes (are ∙ sym inside) c.args.class)
