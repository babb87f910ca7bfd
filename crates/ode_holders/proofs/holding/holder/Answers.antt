use Rattle.ode_holders.proofs.holding.holder.Goals as goal

pub returns : goal.returns
returns c = rw (c.as_slice.ensures, c.looked.ensures, c.drew.ensures, c.met_queue.ensures) at c.holder_by.ensures
