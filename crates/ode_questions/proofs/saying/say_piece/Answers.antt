use Rattle.std.proofs.Common.{refl}
use Rattle.std.proofs.lemmas.Result.{err_from_is_err_and}
use Rattle.ode_host.proofs.Calls.{looks_spares, print_spares, spares_joined}
use Rattle.ode_questions.specs.Saying.{told}
use Rattle.ode_questions.proofs.SayingLaws.{cut_prints, is_said, print_leaves, said_prints, said_since, stands_printed, unsaid, unsaid_leaves}
use Rattle.ode_questions.proofs.saying.say_piece.Goals as goal

pub returns-in_err-said-clause-over : goal.returns-in_err-said-clause-over
returns-in_err-said-clause-over g c lang entries w held kept known =
    let p = err_from_is_err_and c.from_residual.result c.from_residual.ensures.1 in
    rw (p.1, p.2) (unsaid c.args.line (told c.args.asked w.bones c.args.text.now) _ _ _ c.told.ensures.since.looks.text c.told.result c.in_err-said.field-0.0 (c.told.ensures.over lang entries w held kept known) c.in_err-said.ensures)

pub returns-in_err-said-clause-spares : goal.returns-in_err-said-clause-spares
returns-in_err-said-clause-spares g c = looks_spares _ _ c.told.ensures.since.looks

pub returns-in_err-said-clause-leaves : goal.returns-in_err-said-clause-leaves
returns-in_err-said-clause-leaves g c =
    let p = err_from_is_err_and c.from_residual.result c.from_residual.ensures.1 in
    rw (p.1, p.2) (unsaid_leaves c.args.line _ _ _ c.told.result c.in_err-said.field-0.0 c.told.ensures.since c.in_err-said.ensures)

pub returns-in-Ok-clause-over : goal.returns-in-Ok-clause-over
returns-in-Ok-clause-over g c lang entries w held kept known =
    let is = is_said c.args.line (told c.args.asked w.bones c.args.text.now) _ c.told.result c.in_ok-said.said (c.told.ensures.over lang entries w held kept known) c.in_ok-said.ensures in
    said_prints c.args.line (told c.args.asked w.bones c.args.text.now) c.in_ok-said.said c.as_slice.result.now (g.H.Host.view c.args.host.now) (g.H.Host.view c.told.new.host) (g.H.Host.view c.print.new.self) c.told.ensures.since.looks.text is.0 c.as_slice.ensures _
    (g.met.K.Keep.stays c.told.new.heap c.told.new.host c.print.new.self entries is.1 (λ file. stands_printed _ file _ _ c.in-Ok.ensures.prints)) c.in-Ok.ensures.done

pub returns-in-Ok-clause-usable : goal.returns-in-Ok-clause-usable
returns-in-Ok-clause-usable g c = (said_since c.args.line _ _ _ c.told.result c.in_ok-said.said c.told.ensures.since c.in_ok-said.ensures).usable

pub returns-in-Ok-clause-spares : goal.returns-in-Ok-clause-spares
returns-in-Ok-clause-spares g c = spares_joined _ _ _ c.told.ensures.since.looks.keeps (looks_spares _ _ c.told.ensures.since.looks) (print_spares _ _ _ c.in-Ok.ensures.prints)

pub returns-in-Ok-clause-leaves : goal.returns-in-Ok-clause-leaves
returns-in-Ok-clause-leaves g c =
    print_leaves _ _ _ _ _ _ _ _ (λ is. cc (is)) (λ is. cc (is)) (λ is. cc (is)) (said_since c.args.line _ _ _ c.told.result c.in_ok-said.said c.told.ensures.since c.in_ok-said.ensures) c.in-Ok.ensures.prints c.in-Ok.ensures.cause

pub returns-clause-over : goal.returns-clause-over
returns-clause-over g c lang entries w held kept known =
    let is = is_said c.args.line (told c.args.asked w.bones c.args.text.now) _ c.told.result c.in_ok-said.said (c.told.ensures.over lang entries w held kept known) c.in_ok-said.ensures in
    cut_prints c.args.line (told c.args.asked w.bones c.args.text.now) c.in_ok-said.said c.as_slice.result.now (g.H.Host.view c.args.host.now) (g.H.Host.view c.told.new.host) (g.H.Host.view c.print.new.self) c.told.ensures.since.looks.text is.0 c.as_slice.ensures (g.K.Keep.holds c.told.new.heap (g.H.Host.view c.print.new.self) entries) c.in-Err.ensures.cut

pub returns-clause-spares : goal.returns-clause-spares
returns-clause-spares g c = spares_joined _ _ _ c.told.ensures.since.looks.keeps (looks_spares _ _ c.told.ensures.since.looks) (print_spares _ _ _ c.in-Err.ensures.prints)

pub returns-clause-leaves : goal.returns-clause-leaves
returns-clause-leaves g c =
    print_leaves _ _ _ _ _ _ _ _ (λ is. cc (is)) (λ is. refl) (λ is. refl) (said_since c.args.line _ _ _ c.told.result c.in_ok-said.said c.told.ensures.since c.in_ok-said.ensures) c.in-Err.ensures.prints c.in-Err.ensures.cause
