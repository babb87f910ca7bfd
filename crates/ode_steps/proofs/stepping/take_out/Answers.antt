use Rattle.std.proofs.Common.{◌∙◌, Option, ap}
use Rattle.ode_steps.proofs.OpenedLaws.{fresh}
use Rattle.std.specs.Option.{unwrap_or}
use Rattle.ode_machine.specs.Interleaving.{Open}
use Rattle.ode_steps.proofs.stepping.take_out.Goals as goal

pub returns-in-Some-clause-one : goal.returns-in-Some-clause-one
returns-in-Some-clause-one c =
    ap (λ (found : Option Open). unwrap_or found (fresh c.args.session)) (rw c.in-Some.is at c.take.ensures.one)

pub returns-in-None-clause-one : goal.returns-in-None-clause-one
returns-in-None-clause-one c =
    c.fresh.ensures ∙ ap (λ (found : Option Open). unwrap_or found (fresh c.args.session)) (rw c.in-None.is at c.take.ensures.one)
