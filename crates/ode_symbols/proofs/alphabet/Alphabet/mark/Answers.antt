use Rattle.ode_symbols.proofs.ConditionMarks.{by-expression}
use Rattle.ode_symbols.proofs.alphabet.Alphabet.mark.Goals as goal

pub returns-clause-of : goal.returns-clause-of
returns-clause-of c = by-expression _ c.args.e.now c.args.self.now c.args.symbol c.spell.ensures
