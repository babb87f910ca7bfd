use Rattle.std.proofs.Common.{length}
use Rattle.ode_keep.specs.Entries.{Entries}
use Rattle.ode_keep.specs.Snapshots.{IsSnapshot}
use Rattle.ode_cutting.proofs.Cuts.{IsCutTo}
use Rattle.ode_cutting.proofs.cutting.cut.Given as goal

abbrev pub invariant-pages : goal.invariant-pages
invariant-pages l = (entries : Entries) → IsSnapshot entries l.bytes → IsCutTo entries l.pages l.rest

abbrev pub decreases-pages : goal.decreases-pages
decreases-pages l = length l.rest
