use Rattle.std.proofs.Common.{refl, replicate}
use Rattle.std.specs.Prelude.{drop}
use Rattle.ode_pages.specs.declared.layout.TheConstants.{COUNT_LEN}
use Rattle.ode_pages.proofs.Decoding.{none_left}
use Rattle.ode_pages.proofs.Keeping.{kept_empty}
use Rattle.ode_pages.proofs.page.PageOf.empty.Goals as goal

pub invariant_of-result : goal.invariant_of-result
invariant_of-result g c = kept_empty g.row.N c.requires.least c.requires.most

pub returns : goal.returns
returns g c = none_left 0 (drop COUNT_LEN (replicate g.row.N 0)) refl
