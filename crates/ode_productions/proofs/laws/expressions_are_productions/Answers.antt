use Rattle.ode_grammar.specs.declared.reader.Start.TheVariants as start
use Rattle.ode_productions.proofs.Decomposed.{expression_is, stands_text}
use Rattle.ode_productions.proofs.Texts.{expression_text}
use Rattle.ode_productions.proofs.laws.expressions_are_productions.Goals as goal

pub returns-clause-rows : goal.returns-clause-rows
returns-clause-rows c = expression_is

pub returns-clause-productions : goal.returns-clause-productions
returns-clause-productions c = λ tokens x. stands_text start.Expr tokens x.0 x.1 (expression_text x.0 x.2)
