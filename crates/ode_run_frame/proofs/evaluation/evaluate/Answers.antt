use Rattle.std.proofs.Common.{ℕ, List, ◌++◌, subst}
use Rattle.ode_expr.specs.Answers.{LookedAs}
use Rattle.ode_value.specs.Evaluation.{looks_in}
use Rattle.ode_run_frame.proofs.evaluation.evaluate.Goals as goal

pub returns-clause-looks : goal.returns-clause-looks
returns-clause-looks g c = λ base b held reads.
    let looks = c.evaluate_in-value.ensures.looks base b held reads in
    subst (λ (l : List ℕ). LookedAs c.evaluate_in-value.result c.evaluate_in-value.new.looked (l ++ looks_in c.args.e.now b (record { this = c.args.scene.now.this; locals = c.args.scene.now.locals }))) c.new-looked.ensures looks
