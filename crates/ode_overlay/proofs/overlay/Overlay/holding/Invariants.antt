use Rattle.std.proofs.Common.{◌≡◌, drop}
use Rattle.std.specs.List.{fold}
use Rattle.ode_value.specs.Changes.{with_key}
use Rattle.ode_overlay.proofs.overlay.Overlay.holding.Given as goal

abbrev pub invariant-loop-key : goal.invariant-loop-key
invariant-loop-key l = fold with_key l.all (drop l.key-index l.keys) ≡ fold with_key l.self.keys l.keys
