use Rattle.ode_grammar.specs.declared.reader.Start.TheVariants as start
use Rattle.ode_productions.proofs.Decomposed.{query_is, stands_text}
use Rattle.ode_productions.proofs.PhraseTexts.{query_text}
use Rattle.ode_productions.proofs.laws.queries_are_productions.Goals as goal

pub returns-clause-rows : goal.returns-clause-rows
returns-clause-rows c = query_is

pub returns-clause-productions : goal.returns-clause-productions
returns-clause-productions c = λ tokens x. stands_text start.Query tokens x.0 x.1 (query_text x.0 x.2)
