use Rattle.std.proofs.Common.{◌≡◌, ⊎_elim}
use Rattle.ode_begin.proofs.Leaving.{line_idle, line_leaves}
use Rattle.ode_host.proofs.Calls.{rose_none}
use Rattle.ode_host.specs.declared.status.Status.TheVariants as status
use Rattle.ode_sessions.proofs.multi.run_multi.Goals as goal

pub returns-in-None-clause-said : goal.returns-in-None-clause-said
returns-in-None-clause-said g c is text said = c.end_with.ensures.printed (λ (cut : c.end_with.result ≡ status.WriteFault). cc) text said

pub returns-in-None-clause-unused : goal.returns-in-None-clause-unused
returns-in-None-clause-unused g c none = line_idle status.Usage c.end_with.result _ _ _ c.end_with.ensures.status c.end_with.ensures.prints c.end_with.ensures.cause (λ loud. loud)

pub returns-in-None-clause-leaves : goal.returns-in-None-clause-leaves
returns-in-None-clause-leaves g c = line_leaves status.Usage c.end_with.result _ _ _ c.end_with.ensures.status c.end_with.ensures.prints c.end_with.ensures.cause (λ is. cc (is))

pub returns-in-None-clause-reads : goal.returns-in-None-clause-reads
returns-in-None-clause-reads g c = rose_none _ _ (λ is. ⊎_elim (λ same. cc (same, is)) (λ cut. cc (cut, is)) c.end_with.ensures.status)
