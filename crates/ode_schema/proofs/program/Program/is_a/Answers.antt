use Rattle.std.proofs.Common.{ap, sym, ◌∙◌}
use Rattle.ode_schema.specs.Parts.{Parts}
use Rattle.ode_schema.proofs.program.Program.is_a.Goals as goal

pub returns : goal.returns
returns c = λ classes are. c.inherits.ensures classes (are ∙ sym (ap (λ (p : Parts). p.classes) c.self.view_is))
