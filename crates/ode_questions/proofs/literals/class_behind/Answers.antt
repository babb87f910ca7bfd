use Rattle.std.proofs.Common.{◌∙◌, sym}
use Rattle.ode_questions.proofs.LiteralLaws.{none_behind, some_behind}
use Rattle.ode_questions.proofs.literals.class_behind.Goals as goal

pub returns-in-Some-clause-says : goal.returns-in-Some-clause-says
returns-in-Some-clause-says c o is = some_behind c.args.of _ o c.class_in.result (sym c.in-Some.is ∙ is) c.class_in.ensures.says

pub returns-in-None-clause-says : goal.returns-in-None-clause-says
returns-in-None-clause-says c o is = none_behind c.args.of o (sym c.in-None.is ∙ is)
