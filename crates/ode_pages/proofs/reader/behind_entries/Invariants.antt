use Rattle.ode_pages.proofs.Loading.{AreRead}
use Rattle.ode_pages.proofs.reader.behind_entries.Given as goal

abbrev pub invariant-entries : goal.invariant-entries
invariant-entries l = AreRead l.bytes l._read l.rest l.last
