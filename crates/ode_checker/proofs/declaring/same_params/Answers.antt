use Rattle.std.proofs.Common.{sym, arith}
use Rattle.ode_checker.proofs.DeclaringLaws.{same_params-other}
use Rattle.ode_checker.proofs.declaring.same_params.Goals as goal

pub returns-then-params-others : goal.returns-then-params-others
returns-then-params-others c = sym (same_params-other c.args.params.now c.args.others.now (λ e. absurd (omega arith)))
