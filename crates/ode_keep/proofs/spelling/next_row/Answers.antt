use Rattle.ode_keep.proofs.spelling.next_row.Goals as goal

pub returns-in_err-row-clause-none : goal.returns-in_err-row-clause-none
returns-in_err-row-clause-none c = rw c.from_residual.ensures (λ r rest fits after is. c.in_err-row.ensures.none r rest fits is)
