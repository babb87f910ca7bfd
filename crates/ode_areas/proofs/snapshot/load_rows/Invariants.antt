use Rattle.std.proofs.Common.{length}
use Rattle.ode_areas.proofs.Loading.{IsRead}
use Rattle.ode_areas.proofs.snapshot.load_rows.Given as goal

abbrev pub invariant-rows : goal.invariant-rows
invariant-rows l = IsRead l.bytes l.map l.rest l.last l.at

abbrev pub decreases-rows : goal.decreases-rows
decreases-rows l = length l.rest
