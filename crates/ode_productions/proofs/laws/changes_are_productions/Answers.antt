use Rattle.ode_grammar.specs.declared.reader.Start.TheVariants as start
use Rattle.ode_productions.proofs.Decomposed.{change_is, stands_text}
use Rattle.ode_productions.proofs.PhraseTexts.{change_text}
use Rattle.ode_productions.proofs.laws.changes_are_productions.Goals as goal

pub returns-clause-rows : goal.returns-clause-rows
returns-clause-rows c = change_is

pub returns-clause-productions : goal.returns-clause-productions
returns-clause-productions c = λ tokens x. stands_text start.Change tokens x.0 x.1 (change_text x.0 x.2)
