use Rattle.std.proofs.Common.{◌≡◌, ◌∙◌, Bool, false, Err, Ok, Some, ap, subst, sym}
use Rattle.std.proofs.lemmas.Result.{err_from_is_err_and}
use Rattle.ode_language.specs.Texts.{HasText}
use Rattle.ode_language.specs.Languages.{ode}
use Rattle.ode_machine.specs.Conversation.{reply_stretch}
use Rattle.ode_machine.specs.Interleaving.{step}
use Rattle.ode_sessions.proofs.CarryLaws.{put_off_carries, stopped_carries, went_carries}
use Rattle.ode_sessions.proofs.SessionLaws.{uncalled_carries}
use Rattle.ode_sessions.specs.Lines.{answer_line}
use Rattle.ode_sessions.specs.Running.{SpeaksPiece}
use Rattle.ode_steps.specs.declared.answer.Answer.{Answer}
use Rattle.ode_ends.proofs.CallLaws.{always, answer_quiet, damage_as, damage_gives, error_told, no_calls, quiet_answer, told_behind}
use Rattle.ode_transact.specs.declared.error.EngineError.TheVariants as error
use Rattle.ode_value.specs.declared.statement.Statement.{Statement}
use Rattle.ode_sessions.proofs.run.carry_step.Goals as goal

pub step-requires-clause-text : goal.step-requires-clause-text
step-requires-clause-text g c = subst (λ (s : Statement). HasText ode s) (sym (c.get.ensures ∙ c.in_ok-statement.ensures)) c.requires.text

-- the line of a step that is refused or put off
pub returns-in-Some-clause-carries : goal.returns-in-Some-clause-carries
returns-in-Some-clause-carries g c m stands =
    let reply = step ode m c.args.session c.get.result.now in
    let told : Some c.as_slice.result.now ≡ answer_line c.args.line c.in_ok-answer.answer = ap Some c.as_slice.ensures ∙ sym c.in-Some.is ∙ c.in_ok-put_off.ensures in
    subst (λ (s : Statement). SpeaksPiece g.H.Host.view g.K.Keep.holds g.K.Keep.live g.K.Keep.means m (reply_stretch m c.args.line (step ode m c.args.session s)) c.refuse.result c.step.new.self c.args.host.now c.refuse.new.host)
    (c.get.ensures ∙ c.in_ok-statement.ensures)
    (put_off_carries g.H.Host.view g.K.Keep.holds g.K.Keep.live g.K.Keep.means g.met.K.Keep.stands g.met.K.Keep.stays m c.args.line c.as_slice.result.now c.step.new.self c.args.host.now c.step.new.host c.refuse.new.host c.refuse.result
    c.refuse.ensures.any_moment c.refuse.ensures.was c.refuse.ensures.printed c.refuse.ensures.stands c.refuse.ensures.sound
    reply c.in_ok-answer.answer (c.in_ok-answer.ensures.answer m stands)
    told
    (record {
      stands = c.in_ok-answer.ensures.stands m stands;
      printed = c.in_ok-answer.ensures.printed m stands;
      any_moment = λ said more told. c.in_ok-answer.ensures.any_moment m said more stands told;
    }))

pub returns-in-Some-clause-leaves : goal.returns-in-Some-clause-leaves
returns-in-Some-clause-leaves g c = told_behind _ _ _ _ _ (answer_quiet c.in_ok-answer.answer _ _ c.in_ok-answer.ensures.leaves) c.refuse.ensures.leaves

pub returns-in-Some-clause-live : goal.returns-in-Some-clause-live
returns-in-Some-clause-live g c = always c.refuse.result _ c.in_ok-answer.ensures.live

-- it settled, or was accepted
pub returns-clause-carries : goal.returns-clause-carries
returns-clause-carries g c m stands =
    subst (λ (s : Statement). SpeaksPiece g.H.Host.view g.K.Keep.holds g.K.Keep.live g.K.Keep.means m (reply_stretch m c.args.line (step ode m c.args.session s)) (Ok false) c.step.new.self c.args.host.now c.step.new.host)
    (c.get.ensures ∙ c.in_ok-statement.ensures)
    (went_carries g.H.Host.view g.K.Keep.holds g.K.Keep.live g.K.Keep.means m c.step.new.self c.args.host.now c.step.new.host c.args.line (step ode m c.args.session c.get.result.now)
    c.in_ok-answer.answer (c.in_ok-answer.ensures.answer m stands)
    (sym c.in-None.is ∙ c.in_ok-put_off.ensures)
    (record {
      stands = c.in_ok-answer.ensures.stands m stands;
      printed = c.in_ok-answer.ensures.printed m stands;
      any_moment = λ said more told. c.in_ok-answer.ensures.any_moment m said more stands told;
    }))

pub returns-clause-leaves : goal.returns-clause-leaves
returns-clause-leaves g c = quiet_answer _ _ _ (answer_quiet c.in_ok-answer.answer _ _ c.in_ok-answer.ensures.leaves)

-- no memory for the statement
pub returns-in_err-statement-clause-carries : goal.returns-in_err-statement-clause-carries
returns-in_err-statement-clause-carries g c m stands =
    let p = err_from_is_err_and c.from_residual.result c.from_residual.ensures.1 in
    rw (p.1, p.2) (uncalled_carries g.H.Host.view g.K.Keep.holds g.K.Keep.live g.K.Keep.means g.met.K.Keep.stands g.met.K.Keep.stays m _ c.args.sessions.now c.args.host.now)

pub returns-in_err-statement-clause-leaves : goal.returns-in_err-statement-clause-leaves
returns-in_err-statement-clause-leaves g c =
    let p = err_from_is_err_and c.from_residual.result c.from_residual.ensures.1 in
    rw (p.1, p.2) (no_calls _ _ _ (λ is. cc (is)) (λ is. cc (is)))

-- the step stopped
pub returns-in_err-answer-clause-carries : goal.returns-in_err-answer-clause-carries
returns-in_err-answer-clause-carries g c m stands =
    let p = err_from_is_err_and c.from_residual-in_err-answer.result c.from_residual-in_err-answer.ensures.1 in
    rw (p.1, p.2)
    (subst (λ (s : Statement). SpeaksPiece g.H.Host.view g.K.Keep.holds g.K.Keep.live g.K.Keep.means m (reply_stretch m c.args.line (step ode m c.args.session s)) (Err c.in_err-answer.field-0.0) c.step.new.self c.args.host.now c.step.new.host)
    (c.get.ensures ∙ c.in_ok-statement.ensures)
    (stopped_carries g.H.Host.view g.K.Keep.holds g.K.Keep.live g.K.Keep.means m c.step.new.self c.args.host.now c.step.new.host c.args.line (step ode m c.args.session c.get.result.now) c.in_err-answer.field-0.0
    (λ said more told. c.in_err-answer.ensures.any_moment m said more stands told)
    (damage_as Answer Bool c.in_err-answer.field-0.0 ⊥ (damage_gives {R = Answer} (Err c.in_err-answer.field-0.0) _ ⊥ (λ none. none m stands) c.in_err-answer.ensures.undamaged))))

pub returns-in_err-answer-clause-leaves : goal.returns-in_err-answer-clause-leaves
returns-in_err-answer-clause-leaves g c =
    let p = err_from_is_err_and c.from_residual-in_err-answer.result c.from_residual-in_err-answer.ensures.1 in
    rw (p.1, p.2) (error_told Answer Bool _ _ _ c.in_err-answer.ensures.leaves)

-- no memory for the line
pub returns-in_err-put_off-clause-carries : goal.returns-in_err-put_off-clause-carries
returns-in_err-put_off-clause-carries g c m stands =
    let p = err_from_is_err_and c.from_residual-in_err-put_off.result c.from_residual-in_err-put_off.ensures.1 in
    rw (p.1, p.2)
    (subst (λ (s : Statement). SpeaksPiece g.H.Host.view g.K.Keep.holds g.K.Keep.live g.K.Keep.means m (reply_stretch m c.args.line (step ode m c.args.session s)) (Err error.Memory) c.step.new.self c.args.host.now c.step.new.host)
    (c.get.ensures ∙ c.in_ok-statement.ensures)
    (stopped_carries g.H.Host.view g.K.Keep.holds g.K.Keep.live g.K.Keep.means m c.step.new.self c.args.host.now c.step.new.host c.args.line (step ode m c.args.session c.get.result.now) error.Memory
    (λ said more told. c.in_ok-answer.ensures.any_moment m said more stands told) tt))

pub returns-in_err-put_off-clause-leaves : goal.returns-in_err-put_off-clause-leaves
returns-in_err-put_off-clause-leaves g c =
    let p = err_from_is_err_and c.from_residual-in_err-put_off.result c.from_residual-in_err-put_off.ensures.1 in
    rw (p.1, p.2) (told_behind _ _ _ _ _ (answer_quiet c.in_ok-answer.answer _ _ c.in_ok-answer.ensures.leaves) (no_calls _ _ _ (λ is. cc (is)) (λ is. cc (is))))
