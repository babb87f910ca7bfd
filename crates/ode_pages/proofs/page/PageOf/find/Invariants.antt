use Rattle.std.proofs.Common.{◌≡◌, length}
use Rattle.ode_keep.specs.Entries.{value_under}
use Rattle.ode_pages.proofs.page.PageOf.find.Given as goal

abbrev pub invariant-entries : goal.invariant-entries
invariant-entries g l = value_under l.entries l.key ≡ value_under l.self l.key

abbrev pub decreases-entries : goal.decreases-entries
decreases-entries g l = length l.entries
