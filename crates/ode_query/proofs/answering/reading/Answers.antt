use Rattle.ode_query.proofs.Reading.{held_read}
use Rattle.ode_query.proofs.answering.reading.Goals as goal

pub returns : goal.returns
returns c = λ l entries w held classes declared.
    held_read c.transactions_begin_known.ensures c.views_read_known.ensures.bones l entries w held classes declared c.unchanged.result c.unchanged.ensures
