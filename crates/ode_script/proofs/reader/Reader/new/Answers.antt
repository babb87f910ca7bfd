use Rattle.std.proofs.Common.{refl}
use Rattle.ode_value.specs.Limits.{script_limit}
use Rattle.ode_script.proofs.reader.Reader.new.Goals as goal

pub returns-clause-pieces : goal.returns-clause-pieces
unfolding script_limit
returns-clause-pieces c script = record { rest = script; left = record { behind = script; told = refl; is = refl }; are = refl }
