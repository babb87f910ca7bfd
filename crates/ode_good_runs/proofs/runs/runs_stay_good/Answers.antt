use Rattle.ode_good_laws.proofs.GoodAgain.{good_classes}
use Rattle.ode_good_runs.proofs.Declaring.{class_well, declared_is, good_sound, well_of}
use Rattle.ode_good_runs.proofs.Fresh.{fresh_well}
use Rattle.ode_good_runs.proofs.GoodRuns.{run_well}
use Rattle.ode_good_runs.proofs.runs.runs_stay_good.Goals as goal

pub returns-clause-fresh : goal.returns-clause-fresh
returns-clause-fresh c l rules = fresh_well l rules

pub returns-clause-sound : goal.returns-clause-sound
returns-clause-sound c l rules w good = good_sound l rules w good

pub returns-clause-run : goal.returns-clause-run
returns-clause-run c l rules changing reads w good ones script = run_well l rules reads changing w (well_of l rules w good ones) script

pub returns-clause-declared : goal.returns-clause-declared
returns-clause-declared c l rules reads w good ones left piece d read k e = class_well l rules w (well_of l rules w good ones) left k (declared_is l rules reads piece d read w.bones k (good_classes l w.bones good.bones) e)
