use Rattle.ode_questions.proofs.QueryLaws.{by_reason}
use Rattle.ode_questions.proofs.queries.unanswered.Goals as goal

pub returns-in-TooManyRows : goal.returns-in-TooManyRows
returns-in-TooManyRows c = by_reason c.args.error c.no_rows.result c.in-TooManyRows.is c.no_rows.ensures
