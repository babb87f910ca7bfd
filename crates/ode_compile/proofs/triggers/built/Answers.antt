use Rattle.std.proofs.Common.{subst}
use Rattle.ode_table.specs.Built.{IsRefused}
use Rattle.ode_table.proofs.BuiltLaws.{over-own}
use Rattle.ode_compile.proofs.LimitLaws.{states_pass, states_stop}
use Rattle.ode_compile.proofs.triggers.built.Goals as goal

pub returns-in-Ok-clause-few : goal.returns-in-Ok-clause-few
returns-in-Ok-clause-few c = states_pass c.args.trigger.now c.in-Ok.table.states (c.in-Ok.ensures.count c.requires.own) c.in-Ok.ensures.few

pub returns-in_ok-trigger-in-Err-TooManyStates-clause-few : goal.returns-in_ok-trigger-in-Err-TooManyStates-clause-few
returns-in_ok-trigger-in-Err-TooManyStates-clause-few c =
    let e = c.args.trigger.now.event in
    states_stop c.args.trigger.now c.in_ok-trigger-in-Err-TooManyStates.trigger c.in_ok-trigger-in-Err-TooManyStates.ensures
    (subst (IsRefused e e) c.in-Err-TooManyStates.field-0-is (c.in-Err-TooManyStates.ensures.refused e (over-own e c.args.symbols.now c.requires.own)))
