use Rattle.std.proofs.Common.{◌∙◌}
use Rattle.ode_run.proofs.DenoteLaws.{listed_is}
use Rattle.ode_run.proofs.work.Work.is_listed.Goals as goal
use Rattle.ode_run.specs.Knowing.{beside, tx}

pub returns-clause-acts : goal.returns-clause-acts
returns-clause-acts g c = λ all k fits same holds.
    let b = beside k.first c.args.self.now.deferred.now c.args.self.now.text.now c.args.self.now.budget.now in
    listed_is all k.first c.args.self.now.overlay.now b c.args.id c.args.kind.now c.in_ok-class.class (tx all k c.class_of.new.self) c.lists.result
    (c.in_ok-class.ensures.acts all k (c.classes.ensures ∙ same) holds) (c.lists.ensures all fits)
