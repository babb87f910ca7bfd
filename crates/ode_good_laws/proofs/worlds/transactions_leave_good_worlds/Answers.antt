use Rattle.ode_good_laws.proofs.ClockRuns.{clock_well}
use Rattle.ode_good_laws.proofs.GoodAgain.{statement_well, entry_well, tick_well, move_well, drain_well}
use Rattle.ode_good_laws.proofs.worlds.transactions_leave_good_worlds.Goals as goal

pub returns-clause-statement : goal.returns-clause-statement
returns-clause-statement c l w h left literals known s typed = statement_well l w h left literals known s typed

pub returns-clause-entry : goal.returns-clause-entry
returns-clause-entry c l w h left q fits = entry_well l w h left q fits

pub returns-clause-tick : goal.returns-clause-tick
returns-clause-tick c l w h left p is = tick_well l w h left p is

pub returns-clause-moved : goal.returns-clause-moved
returns-clause-moved c l w h left p is = move_well l w h left p is

pub returns-clause-drain : goal.returns-clause-drain
returns-clause-drain c l most w h = drain_well l most w h

pub returns-clause-clock : goal.returns-clause-clock
returns-clause-clock c l ps last most w h all is few room = clock_well l ps last all is few most w h room
