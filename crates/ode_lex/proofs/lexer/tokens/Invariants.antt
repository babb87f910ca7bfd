-- The text is cut up to the place.
use Rattle.std.proofs.Common.{◌-◌, length}
use Rattle.ode_lex.proofs.Lexing.{IsCutTo}
use Rattle.ode_lex.proofs.lexer.tokens.Given as goal

abbrev pub invariant-loop-at : goal.invariant-loop-at
invariant-loop-at l = IsCutTo l.text l.at l.found

abbrev pub decreases-loop-at : goal.decreases-loop-at
decreases-loop-at l = length l.text - l.at
