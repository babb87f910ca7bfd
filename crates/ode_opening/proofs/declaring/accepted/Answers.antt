use Rattle.ode_value.specs.Worlds.{Declared}
use Rattle.ode_opening.proofs.Built.{few_triggers}
use Rattle.ode_opening.proofs.declaring.accepted.Goals as goal

pub returns-in-Ok-clause-built : goal.returns-in-Ok-clause-built
returns-in-Ok-clause-built c =
    let declared : Declared = record { class = c.in-Ok.made.class; tree = c.args.decl.now } in
    record { compiled = c.in-Ok.ensures.tables; counts = c.in-Ok.ensures.counts; few = few_triggers c.args.known.now c.args.added.now c.args.decl.now declared c.in-Ok.ensures.answers }
