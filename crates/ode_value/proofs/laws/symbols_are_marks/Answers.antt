use Rattle.ode_value.proofs.SymbolLaws.{symbol-below, symbol_mark-symbol}
use Rattle.ode_value.proofs.laws.symbols_are_marks.Goals as goal

pub returns-clause-below : goal.returns-clause-below
returns-clause-below c = symbol-below

pub returns-clause-mark : goal.returns-clause-mark
returns-clause-mark c = symbol_mark-symbol
