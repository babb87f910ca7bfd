use Rattle.std.proofs.Common.{List, ◌≤◌, subst, sym}
use denote.Param.Weighed.{most}
use Rattle.ode_value.specs.declared.statement.Stmt.{Stmt}
use Rattle.ode_schema.specs.Parts.{longest}
use Rattle.ode_schema.proofs.Longest.{trigger_fits}
use Rattle.ode_schema.proofs.schema.ProgramSchema.action.Goals as goal

pub returns-in-Some-clause-fits : goal.returns-in-Some-clause-fits
returns-in-Some-clause-fits c = λ size.
    subst (λ (body : List Stmt). most size body ≤ longest size c.args.self.now.classes) (sym c.as_slice.ensures)
    (trigger_fits size c.args.self.now.classes c.args.t.class c.args.t.place c.in-Some.trigger.now (sym c.in-Some.ensures.under))
