use Rattle.std.proofs.Common.{arith}
use Rattle.ode_passes.proofs.walking.are_bytes.Goals as goal

pub returns : goal.returns
returns c = λ i. omega (arith, c.type_inv.value i)
