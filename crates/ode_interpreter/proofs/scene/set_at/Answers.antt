use Rattle.std.proofs.Common.{◌≤◌, arith}
use Rattle.ode_interpreter.proofs.Locals.{set_at_end}
use Rattle.ode_interpreter.proofs.scene.set_at.Goals as goal

pub returns : goal.returns
returns c =
    let behind : c.from-place.result ≤ c.missing.counter = omega (arith, c.missing-test.false) in
    let within : c.missing.counter ≤ c.from-place.result = omega (arith, c.missing.auto.counter-end, c.if-place-len.false, c.len.ensures, c.len-counter.ensures) in
    let i = c.missing.invariant in
    set_at_end _ _ _ _ _ _ _ _ c.in_ok-push-2.ensures.ok i.length behind within i.rest c.from-place.ensures i.same
