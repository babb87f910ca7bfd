use Rattle.ode_codec.proofs.RecordLaws.{one_spelling, record_again, record_found}
use Rattle.ode_codec.proofs.laws.one_spelling.Goals as goal

pub returns-clause-again : goal.returns-clause-again
returns-clause-again c = record_again

pub returns-clause-one : goal.returns-clause-one
returns-clause-one c = one_spelling

pub returns-clause-only : goal.returns-clause-only
returns-clause-only c = λ k bytes r a b fits e. let found = record_found k bytes r (record { a = a; b = b }) fits e in (found.rules, found.same)
