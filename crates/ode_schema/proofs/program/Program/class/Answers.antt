use Rattle.std.proofs.Common.{ap, sym, ◌∙◌}
use Rattle.ode_schema.specs.Parts.{Parts}
use Rattle.ode_schema.proofs.Agree.{numbered_by}
use Rattle.ode_schema.proofs.program.Program.class.Goals as goal

pub returns : goal.returns
returns c = λ classes are.
    let inside = ap (λ (p : Parts). p.classes) c.self.view_is in
    c.class.ensures ∙ numbered_by c.self.inside.classes.now classes (are ∙ sym inside) c.args.number
