use Rattle.std.proofs.Common.{length}
use Rattle.ode_paging.proofs.Indexed.{IsAdded}
use Rattle.ode_paging.proofs.index.Index.add.Given as goal

abbrev pub invariant-entries : goal.invariant-entries
invariant-entries l = IsAdded l.number l.page l.fn.self l.self l.entries

abbrev pub decreases-entries : goal.decreases-entries
decreases-entries l = length l.entries
