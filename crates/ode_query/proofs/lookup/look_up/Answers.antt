use Rattle.ode_query.proofs.LookupLaws.{known_enough, unknown_enough}
use Rattle.ode_query.proofs.lookup.look_up.Goals as goal

pub returns-in_ok-find-in-Some-clause-value : goal.returns-in_ok-find-in-Some-clause-value
returns-in_ok-find-in-Some-clause-value g c = λ base b test numbers held reads rise is.
    known_enough b test c.args.chosen.now numbers c.args.lookup.now is rise c.in-Some.value c.in_ok-find-in-Some.field-0 c.in_ok-value.field-0
    (c.in_ok-value.ensures.value base b held reads) c.in-Some.is c.in_ok-find-in-Some.ensures

pub returns-in-None-clause-value : goal.returns-in-None-clause-value
returns-in-None-clause-value g c = λ base b test numbers held reads rise is.
    unknown_enough b test c.args.chosen.now numbers c.args.lookup.now is rise c.new.result c.in_ok-value.field-0
    (c.in_ok-value.ensures.value base b held reads) c.in-None.is c.new.ensures
