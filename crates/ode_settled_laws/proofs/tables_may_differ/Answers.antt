use Rattle.ode_settled_laws.proofs.TableLaws.{held_by}
use Rattle.ode_settled_laws.proofs.tables_may_differ.Goals as goal

pub returns : goal.returns
returns c = λ l records w held tables agree.
    held_by l records w held tables agree
    (c.tables_may_grow.ensures held.world.stored.tables tables held.world.stored.world w (record { stands = held.world.stands; numbered = c.good_worlds_are_numbered.ensures l w held.world.good }) agree).stands
