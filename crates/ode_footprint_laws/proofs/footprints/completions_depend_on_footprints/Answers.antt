use Rattle.ode_footprint_laws.proofs.FootprintLaws as laws
use Rattle.ode_footprint_laws.proofs.footprints.completions_depend_on_footprints.Goals as goal

pub returns-clause-rounds : goal.returns-clause-rounds
returns-clause-rounds c = laws.rounds_depend

pub returns-clause-tests : goal.returns-clause-tests
returns-clause-tests c = laws.tests_depend
