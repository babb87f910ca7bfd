use Rattle.ode_paging.specs.Spelling.{one_payload}
use Rattle.ode_paging.proofs.laws.one_payload.Goals as goal

pub returns : goal.returns
returns c images others payload first second = one_payload images others payload first second
