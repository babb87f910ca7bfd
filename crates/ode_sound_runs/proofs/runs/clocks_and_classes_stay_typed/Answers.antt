use Rattle.ode_sound_runs.proofs.TypedRuns as laws
use Rattle.ode_sound_runs.proofs.runs.clocks_and_classes_stay_typed.Goals as goal

pub returns-clause-tick : goal.returns-clause-tick
returns-clause-tick c p w h = laws.tick_typed p w h

pub returns-clause-clock : goal.returns-clause-clock
returns-clause-clock c ps last most w h = laws.clock_typed ps last most w h

pub returns-clause-class : goal.returns-clause-class
returns-clause-class c k w h adds = laws.class_typed k w h adds
