use Rattle.ode_grammar.specs.declared.reader.Start.TheVariants as start
use Rattle.ode_productions.proofs.Decomposed.{comparison_is, stands_text}
use Rattle.ode_productions.proofs.PhraseTexts.{comparison_text}
use Rattle.ode_productions.proofs.laws.comparisons_are_productions.Goals as goal

pub returns-clause-rows : goal.returns-clause-rows
returns-clause-rows c = comparison_is

pub returns-clause-productions : goal.returns-clause-productions
returns-clause-productions c = λ tokens x. stands_text start.Comparison tokens x.0 x.1 (comparison_text x.0 x.2)
