use Rattle.ode_host.proofs.Calls.{looks_spares, print_spares}
use Rattle.ode_host.proofs.Moments.{looks_none}
use Rattle.ode_host.specs.declared.status.Status.TheVariants as status
use Rattle.ode_begin.proofs.Leaving.{line_leaves}
use Rattle.ode_begin.proofs.saying.damaged.Goals as goal

pub returns-in-Ok-clause-leaves : goal.returns-in-Ok-clause-leaves
returns-in-Ok-clause-leaves g c = line_leaves status.BadFile c.end_with.result _ _ _ c.end_with.ensures.status c.end_with.ensures.prints c.end_with.ensures.cause (λ is. cc (is))

pub returns-in-Ok-clause-spares : goal.returns-in-Ok-clause-spares
returns-in-Ok-clause-spares g c = print_spares _ _ _ c.end_with.ensures.prints

pub returns-in-Err-clause-spares : goal.returns-in-Err-clause-spares
returns-in-Err-clause-spares g c = looks_spares _ _ (looks_none (g.H.Host.view c.args.host.now))
