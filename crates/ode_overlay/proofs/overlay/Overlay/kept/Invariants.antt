use Rattle.std.proofs.Common.{◌≡◌, take}
use Rattle.std.specs.List.{filter}
use Rattle.ode_overlay.specs.Rewinding.{stays}
use Rattle.ode_overlay.proofs.overlay.Overlay.kept.Given as goal

abbrev pub invariant-loop-collected : goal.invariant-loop-collected
invariant-loop-collected l = l.kept ≡ filter stays (take l.collected-index l.self.collected)
