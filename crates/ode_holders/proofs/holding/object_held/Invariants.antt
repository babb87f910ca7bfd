use Rattle.std.proofs.Common.{◌≡◌, drop}
use Rattle.ode_machine.specs.Interleaving.{holder_of, others_of}
use Rattle.ode_holders.specs.Opens.{opens_as}
use Rattle.ode_holders.proofs.holding.object_held.Given as goal

-- none of those before is held
abbrev pub invariant-loop-id : goal.invariant-loop-id
invariant-loop-id l = holder_of l.ids (others_of l.session (opens_as l.sessions)) ≡ holder_of (drop l.id-index l.ids) (others_of l.session (opens_as l.sessions))
