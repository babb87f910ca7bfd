use Rattle.std.proofs.Common.{length}
use Rattle.ode_pages.proofs.Parting.{IsPast}
use Rattle.ode_pages.proofs.page.PageOf.place.Given as goal

abbrev pub invariant-entries : goal.invariant-entries
invariant-entries g l = IsPast l.key l.self l.entries l.start

abbrev pub decreases-entries : goal.decreases-entries
decreases-entries g l = length l.entries
