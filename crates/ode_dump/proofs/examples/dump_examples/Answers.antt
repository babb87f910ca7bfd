use Rattle.std.proofs.Common.{refl}
use Rattle.std.specs.Fmt.{digits}
use Rattle.ode_dump.proofs.examples.dump_examples.Goals as goal

pub returns-clause-dump : goal.returns-clause-dump
unfolding digits
returns-clause-dump g = refl

pub returns-clause-check : goal.returns-clause-check
unfolding digits
returns-clause-check g = refl

pub returns-clause-clock : goal.returns-clause-clock
unfolding digits
returns-clause-clock g = refl

pub returns-clause-entry : goal.returns-clause-entry
unfolding digits
returns-clause-entry g = refl

pub returns-clause-unknown : goal.returns-clause-unknown
unfolding digits
returns-clause-unknown g = refl
