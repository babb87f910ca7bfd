use Rattle.std.proofs.Common.{arith}
use Rattle.std.proofs.lemmas.Int.{ints}
use Rattle.ode_timer.proofs.Divisors.{by_marks}
use Rattle.ode_timer.proofs.ahead.multiples.Goals as goal

pub returns-clause-value : goal.returns-clause-value
returns-clause-value c = by_marks c.args.number c.requires.some c.args.after c.args.last c.mark-2.result c.mark.result c.from-every.result c.requires.order c.from-every.ensures
    (let v = c.mark-2.ensures.value in omega (arith, ints)) (let v = c.mark.ensures.value in omega (arith, ints))
