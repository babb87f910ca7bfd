use Rattle.std.proofs.Common.{◌≡◌, drop}
use Rattle.ode_overlay.specs.Reading.{rise_above}
use Rattle.ode_overlay.proofs.reading.rise_above.Given as goal

abbrev pub invariant-loop-version : goal.invariant-loop-version
invariant-loop-version l = rise_above l.last l.below (drop l.version-index l.versions) ≡ rise_above l.last l.low l.versions
