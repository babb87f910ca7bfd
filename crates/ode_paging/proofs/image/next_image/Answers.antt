use Rattle.ode_paging.proofs.image.next_image.Goals as goal

pub returns-in_err-image-clause-none : goal.returns-in_err-image-clause-none
returns-in_err-image-clause-none c = rw c.from_residual.ensures (λ i rest fits after is. c.in_err-image.ensures.none i rest fits is)
