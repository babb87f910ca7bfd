use Rattle.std.proofs.Common.{◌≤◌, ap, arith, length, take}
use Rattle.std.proofs.lemmas.List.{length-take-le}
use Rattle.ode_overlay.specs.Layers.{Layer}
use Rattle.ode_overlay.proofs.Counts.{fewer_kept}
use Rattle.ode_overlay.proofs.overlay.Overlay.kept.Goals as goal

pub returns-clause-fewer : goal.returns-clause-fewer
returns-clause-fewer c =
    let i = c.loop-collected.collected-index in
    let xs = c.args.self.now.collected in
    let same = ap (λ (x : Layer). length x.collected) c.self.view_is in
    let within : i ≤ length xs = omega (arith, same, ap length c.as_slice-collected-items.ensures) in
    omega (arith, ap length c.loop-collected.invariant, fewer_kept (take i xs), length-take-le i xs within, within)
