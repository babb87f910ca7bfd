use Rattle.std.proofs.Common.{true, false, arith}
use Rattle.std.proofs.lemmas.Int.{ints}
use Rattle.ode_timer.proofs.Divisors.{once_is}
use Rattle.ode_timer.proofs.ahead.once.Goals as goal
use Rattle.ode_timer.proofs.ahead.once.Goals.{else-after-second-via-then-after-second+else-second-last, else-after-second-via-else-after-second}

pub returns-then-second-last-clause-value : goal.returns-then-second-last-clause-value
returns-then-second-last-clause-value c =
    let a = c.if-after-second.true in
    let b = c.if-second-last.true in
    once_is c.args.second c.args.after c.args.last c.requires.order true (grind (arith, ints))

pub returns-else-after-second-clause-value : goal.returns-else-after-second-clause-value
returns-else-after-second-clause-value c = once_is c.args.second c.args.after c.args.last c.requires.order false
    (elim c.else-after-second.branch [ else-after-second-via-then-after-second+else-second-last w ↦ (let b = w.if-second-last.false in grind (arith, ints)) | else-after-second-via-else-after-second w ↦ (let a = w.if-after-second.false in grind (arith, ints)) ])
