use Rattle.std.proofs.Common.{arith}
use Rattle.std.proofs.lemmas.Int.{ints}
use Rattle.ode_timer.proofs.DateLaws.{epoch}
use Rattle.ode_timer.proofs.calendar.second_of.Goals as goal

pub returns : goal.returns
returns c = let e = epoch in omega (arith, ints, e)
