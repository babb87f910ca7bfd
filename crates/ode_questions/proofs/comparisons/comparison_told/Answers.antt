use Rattle.std.proofs.Common.{ap}
use Rattle.std.proofs.lemmas.Result.{err_from_is_err_and}
use Rattle.ode_asksyn.specs.Reading.{comparison_of}
use Rattle.ode_syntax.specs.declared.asked.Comparison.{Comparison}
use Rattle.ode_value.specs.Answers.{Answer}
use Rattle.ode_questions.proofs.StepLaws.{read_refused}
use Rattle.ode_questions.proofs.TellingLaws.{comparison_read, comparison_unread}
use Rattle.ode_questions.specs.Saying.{refusing}
use Rattle.ode_questions.proofs.comparisons.comparison_told.Goals as goal

pub returns-in_err-c-clause-says : goal.returns-in_err-c-clause-says
returns-in_err-c-clause-says c b known =
    let p = err_from_is_err_and c.from_residual.result c.from_residual.ensures.1 in
    rw (p.1, p.2) (comparison_unread b c.args.text.now _ (read_refused (comparison_of c.args.text.now) c.in_err-c.field-0.0 c.in_err-c.ensures))

pub verdict_in-requires : goal.verdict_in-requires
verdict_in-requires c = c.numbers_of_comparisons_are_in_range.ensures.piece c.args.text.now c.in_ok-c.c c.in_ok-c.ensures

pub returns-clause-says : goal.returns-clause-says
returns-clause-says c b known =
    comparison_read b c.args.text.now c.in_ok-c.c c.verdict_in.result (ap (λ (a : Answer Comparison). refusing a) c.in_ok-c.ensures) (c.verdict_in.ensures.says b known)
