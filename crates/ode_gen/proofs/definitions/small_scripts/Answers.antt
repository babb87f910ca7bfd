use Rattle.std.proofs.Common.{refl}
use Rattle.std.specs.Fmt.{digits}
use Rattle.ode_gen.specs.Generating.{lines_from}
use Rattle.ode_gen.proofs.definitions.small_scripts.Goals as goal

pub returns-clause-none : goal.returns-clause-none
unfolding lines_from
returns-clause-none c = refl

pub returns-clause-one : goal.returns-clause-one
unfolding lines_from digits
returns-clause-one c = refl

pub returns-clause-two : goal.returns-clause-two
unfolding lines_from digits
returns-clause-two c = refl
