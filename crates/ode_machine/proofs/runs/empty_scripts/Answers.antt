use Rattle.std.proofs.Common.{refl}
use Rattle.ode_value.specs.Draining.{drain}
use Rattle.ode_value.specs.Limits.{drain_limit, script_limit}
use Rattle.ode_machine.specs.Runs.{pieces_items}
use Rattle.ode_machine.proofs.runs.empty_scripts.Goals as goal

pub returns-clause-text : goal.returns-clause-text
unfolding drain drain_limit script_limit pieces_items
returns-clause-text c l = refl

pub returns-clause-world : goal.returns-clause-world
unfolding drain drain_limit script_limit pieces_items
returns-clause-world c l = refl

pub returns-clause-status : goal.returns-clause-status
unfolding drain drain_limit script_limit pieces_items
returns-clause-status c l = refl
