use Rattle.std.proofs.Common.{◌≡◌, ◌++◌}
use Rattle.ode_paging.specs.Imaging.{rooms_in}
use Rattle.ode_paging.proofs.imaging.rooms_of.Given as goal

abbrev pub invariant-loop-page : goal.invariant-loop-page
invariant-loop-page l = l.rooms.items ++ rooms_in l.page-iterator ≡ rooms_in l.hand.pages.entries
