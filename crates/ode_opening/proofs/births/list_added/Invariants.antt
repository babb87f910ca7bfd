use Rattle.std.proofs.Common.{◌≡◌, [], drop, take}
use Rattle.ode_opening.specs.Births.{listed}
use Rattle.ode_opening.proofs.Listing.{with_listed}
use Rattle.ode_opening.proofs.births.list_added.Given as goal

-- those so far are listed
abbrev pub invariant-loop-place : goal.invariant-loop-place
invariant-loop-place l = with_listed l.list (listed l.heads l.count (take l.place l.records) (drop l.place l.records)) ≡ listed l.heads l.count [] l.records
