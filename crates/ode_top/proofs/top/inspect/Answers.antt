use Rattle.std.proofs.Common.{subst, sym}
use Rattle.ode_host.specs.declared.status.Status.TheVariants as status
use Rattle.ode_host.proofs.Calls.{disk_host, host_calls_on, looks_calls}
use Rattle.ode_top.specs.Answers.{SaysRecords}
use Rattle.ode_top.proofs.Inspecting.{records_inspects}
use Rattle.ode_begin.proofs.Leaving.{line_leaves}
use Rattle.ode_begin.proofs.Refusing.{refused_leaves}
use Rattle.ode_top.proofs.Refusing.{refused_inspects}
use Rattle.ode_top.proofs.top.inspect.Goals as goal

-- the file was opened
pub returns-in-Ok-clause-claims : goal.returns-in-Ok-clause-claims
returns-in-Ok-clause-claims g c =
    records_inspects c.args.mode _ _ _ _ _ c.read_text.ensures.looks
    (λ image tells. subst (SaysRecords c.args.mode image) (sym c.as_slice.ensures) (c.in-Ok.ensures.text image tells)) c.in-Ok.ensures.rules
    c.end_with.ensures.status c.end_with.ensures.prints c.end_with.ensures.cause c.end_with.ensures.printed c.end_with.ensures.cut

pub returns-in-Ok-clause-leaves : goal.returns-in-Ok-clause-leaves
returns-in-Ok-clause-leaves g c =
    host_calls_on ⊥ ⊥ _ _ _ _ _ (λ none. none) (λ none. none)
    (disk_host _ ⊥ ⊥ _ _ (λ is. cc (is)) absurd (λ none. none) (looks_calls _ _ _ c.read_text.ensures.looks c.in-Ok.ensures.cause))
    (line_leaves status.Ok c.end_with.result _ _ _ c.end_with.ensures.status c.end_with.ensures.prints c.end_with.ensures.cause (λ is. cc (is)))

-- it wasn't
pub returns-in-Err-clause-claims : goal.returns-in-Err-clause-claims
returns-in-Err-clause-claims g c =
    refused_inspects g.H.Host.view _ _ _ c.in-Err.why c.refuse.result c.refuse.ensures.ends c.refuse.ensures.still
    c.refuse.ensures.prints c.refuse.ensures.cause c.refuse.ensures.printed c.refuse.ensures.cut c.read_text.ensures.looks c.in-Err.ensures.answer c.args.mode

pub returns-in-Err-clause-leaves : goal.returns-in-Err-clause-leaves
returns-in-Err-clause-leaves g c =
    refused_leaves g.H.Host.view _ _ _ c.in-Err.why c.refuse.result c.refuse.ensures.ends c.refuse.ensures.still
    c.refuse.ensures.prints c.refuse.ensures.cause c.refuse.ensures.printed c.refuse.ensures.cut
    _ (looks_calls _ _ _ c.read_text.ensures.looks c.read_text.ensures.cause) (λ is. cc (is, c.in-Err.is)) (λ is. cc (is, c.in-Err.is))
