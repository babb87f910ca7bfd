use Rattle.std.proofs.Common.{List, ap, cond, sym, ◌∙◌}
use Rattle.std.specs.Prelude.{not}
use Rattle.std.specs.List.{filter, flat_map}
use Rattle.ode_value.specs.declared.class.Class.{Class}
use Rattle.ode_value.specs.declared.member.Constraint.{Constraint}
use Rattle.ode_schema.specs.Parts.{Parts}
use Rattle.ode_schema.proofs.Agree.{family_by}
use Rattle.ode_schema.proofs.program.Program.constraints.Goals as goal

pub returns : goal.returns
returns c = λ classes are.
    let inside = ap (λ (p : Parts). p.classes) c.self.view_is in
    c.new-2.ensures
    ∙ ap (λ (family : List Class). filter (λ (x : Constraint). cond x.soft c.args.soft (not c.args.soft)) (flat_map (λ (d : Class). d.constraints) family))
    (c.new.ensures ∙ family_by c.self.inside.classes.now classes (are ∙ sym inside) c.args.class)
