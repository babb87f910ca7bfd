use Rattle.std.proofs.Common.{◌≡◌, ◌≤◌, ◌+◌, ◌*◌, length}
use Rattle.std.specs.List.{AllByRecursion}
use Rattle.ode_keep.specs.Entries.{Entries}
use Rattle.ode_keep.specs.Snapshots.{FitsRow}
use Rattle.ode_keep.specs.declared.spelling.TheConstants.{ROW_HEAD}
use Rattle.ode_value.specs.Records.{snapshot}
use Rattle.ode_cutting.proofs.Fronts.{IsReadTo}
use Rattle.ode_cutting.specs.declared.front.TheConstants.{PAGE_ROOM}
use Rattle.ode_cutting.proofs.front.front_of.Given as goal

abbrev pub invariant-rows : goal.invariant-rows
invariant-rows l = record {
  place : l.front.bytes + length l.rest ≡ length l.bytes;
  room : l.front.bytes ≤ PAGE_ROOM;
  rows : ROW_HEAD * l.front.rows ≤ l.front.bytes;
  read : (entries : Entries) → l.bytes ≡ snapshot entries → AllByRecursion FitsRow entries → IsReadTo entries l.front l.rest;
}

abbrev pub decreases-rows : goal.decreases-rows
decreases-rows l = length l.rest
