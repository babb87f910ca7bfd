use Rattle.ode_asked_laws.proofs.Checked.{checked_numbers}
use Rattle.ode_asked_laws.proofs.Numbered.{piece_numbers, text_numbers}
use Rattle.ode_asked_laws.proofs.laws.numbers_of_comparisons_are_in_range.Goals as goal

pub returns-clause-piece : goal.returns-clause-piece
returns-clause-piece c = piece_numbers

pub returns-clause-checked : goal.returns-clause-checked
returns-clause-checked c = checked_numbers

pub returns-clause-text : goal.returns-clause-text
returns-clause-text c = text_numbers
