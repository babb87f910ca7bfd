use Rattle.std.proofs.Common.{refl}
use Rattle.ode_value.specs.Limits.{script_limit, statement_limit}
use Rattle.ode_script.proofs.definitions.scripts_end_by_themselves.Goals as goal

pub returns-clause-cut : goal.returns-clause-cut
unfolding script_limit statement_limit
returns-clause-cut c = refl

pub returns-clause-blank : goal.returns-clause-blank
unfolding script_limit statement_limit
returns-clause-blank c = refl

pub returns-clause-ending : goal.returns-clause-ending
unfolding script_limit statement_limit
returns-clause-ending c = refl
