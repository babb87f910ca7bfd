use Rattle.ode_questions.proofs.StepLaws.{over_calm, since_calm, since_none}
use Rattle.ode_questions.proofs.saying.told.Goals as goal

pub returns-in-Queries-clause-over : goal.returns-in-Queries-clause-over
returns-in-Queries-clause-over g c lang entries w held kept known = rw c.in-Queries.is (c.query_told.ensures.over lang entries w held kept known)

pub returns-in-Comparisons-clause-over : goal.returns-in-Comparisons-clause-over
returns-in-Comparisons-clause-over g c lang entries w held kept known =
    rw c.in-Comparisons.is (over_calm _ _ _ (c.comparison_told.ensures.says w.bones known) c.comparison_told.ensures.calm kept)

pub returns-in-Comparisons-clause-since : goal.returns-in-Comparisons-clause-since
returns-in-Comparisons-clause-since g c = since_calm _ _ _ _ c.comparison_told.ensures.calm (since_none _ _ c.requires.live)
