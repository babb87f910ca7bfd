use Rattle.ode_run_laws.proofs.AlikeClasses.{class_settles}
use Rattle.ode_run_laws.proofs.AlikeClocks.{tick_settles, clock_settles}
use Rattle.ode_run_laws.proofs.alike.clocks_and_classes_settle_alike.Goals as goal

pub returns-clause-tick : goal.returns-clause-tick
returns-clause-tick c = tick_settles

pub returns-clause-clock : goal.returns-clause-clock
returns-clause-clock c = clock_settles

pub returns-clause-class : goal.returns-clause-class
returns-clause-class c = class_settles
