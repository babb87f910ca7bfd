use Rattle.std.proofs.Common.{◌∙◌}
use Rattle.ode_walk.proofs.RelationLaws.{agrees, relation}
use Rattle.ode_walk.proofs.relation.relate.Goals as goal

pub returns-clause-agrees : goal.returns-clause-agrees
returns-clause-agrees c = agrees c.args.stored.now c.args.built.now c.in_ok-visits.visits c.in_ok-visits.ensures.ok

pub returns-clause-numbers : goal.returns-clause-numbers
returns-clause-numbers c =
    relation c.args.stored.now c.args.built.now c.in_ok-visits.visits c.in_ok-visits.ensures.ok c.in_ok-numbers.numbers (c.in_ok-numbers.ensures.length ∙ c.states.ensures.value)
    (rw c.as_slice.ensures at c.in_ok-numbers.ensures.given) (rw c.as_slice.ensures at c.in_ok-numbers.ensures.each)
