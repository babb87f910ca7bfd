use Rattle.std.proofs.Common.{◌-◌}
use Rattle.ode_paging.proofs.Laying.{IsLaid}
use Rattle.ode_paging.proofs.payload.lay.Given as goal

abbrev pub invariant-images : goal.invariant-images
invariant-images l = IsLaid l.payload l.count l.made l.fn.images l.images l.rest l.last

abbrev pub decreases-images : goal.decreases-images
decreases-images l = l.count - l.made
