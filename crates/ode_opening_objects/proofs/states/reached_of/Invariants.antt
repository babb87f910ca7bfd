use Rattle.std.proofs.Common.{take}
use Rattle.std.specs.List.{AllZip}
use Rattle.ode_opening_objects.proofs.StateLaws.{IsNoted}
use Rattle.ode_opening_objects.proofs.states.reached_of.Given as goal

abbrev pub invariant-loop-table : goal.invariant-loop-table
invariant-loop-table l = AllZip IsNoted l.seen (take l.table-index l.tables)
