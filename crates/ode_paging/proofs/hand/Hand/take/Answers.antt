use Rattle.std.proofs.Common.{List, ℕ, ap, arith, length}
use Rattle.ode_keep.specs.Entries.{Entries}
use Rattle.ode_paging.proofs.Handed.{inserted_few}
use Rattle.ode_paging.proofs.hand.Hand.take.Goals as goal

pub returns-clause-few : goal.returns-clause-few
returns-clause-few c =
    omega (arith, ap (λ (l : List (ℕ × Entries)). length l) c.in_ok-insert.ensures.entries, inserted_few c.args.self.now.pages.entries c.args.page c.args.entries)
