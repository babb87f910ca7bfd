use Rattle.std.proofs.Common.{◌≡◌, drop}
use Rattle.ode_value.specs.Symbols.{behind}
use Rattle.ode_symbols.proofs.holding.behind.Given as goal

-- what is left of the number goes on behind the masks from here on
abbrev pub invariant-loop-mask : goal.invariant-loop-mask
invariant-loop-mask l = behind l.masks l.number ≡ behind (drop l._mask-index l.masks) l.rest
