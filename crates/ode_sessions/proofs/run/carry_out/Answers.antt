use Rattle.std.proofs.Common.{◌∙◌, ℕ, List, [], ◌∷◌, subst, sym}
use Rattle.std.proofs.lemmas.Result.{err_from_is_err_and}
use Rattle.ode_language.specs.Languages.{ode}
use Rattle.ode_machine.specs.Conversation.{Spoken, spoken_stretch}
use Rattle.ode_machine.specs.Runs.{Refuses}
use Rattle.ode_sessions.proofs.CarryLaws.{no_session_is, says_is, unread_is}
use Rattle.ode_sessions.proofs.SessionLaws.{first_line_carries, uncalled_carries}
use Rattle.ode_sessions.specs.Running.{SpeaksPiece}
use Rattle.ode_sessions.specs.Speaking.{HasSaid, IsSpoken, spoken}
use Rattle.ode_sessions.specs.declared.speaking.Spoken as code
use Rattle.ode_ends.proofs.CallLaws.{always, no_calls}
use Rattle.ode_sessions.proofs.run.carry_out.Goals as goal

pub carry_step-requires-clause-text : goal.carry_step-requires-clause-text
carry_step-requires-clause-text g c = subst HasSaid c.in-Says.is c.in_ok-said.ensures.text

-- a statement of a session
pub returns-in-Says-clause-carries : goal.returns-in-Says-clause-carries
returns-in-Says-clause-carries g c m stands =
    let meant = subst (λ (s : code.Spoken). IsSpoken s (spoken c.args.text.now)) c.in-Says.is c.in_ok-said.ensures.spoken in
    subst (λ (t : Spoken). SpeaksPiece g.H.Host.view g.K.Keep.holds g.K.Keep.live g.K.Keep.means m (spoken_stretch ode spoken m c.args.line t) c.carry_step.result c.carry_step.new.sessions c.args.host.now c.carry_step.new.host)
    (sym (says_is (spoken c.args.text.now) c.in-Says.session c.in-Says.statement meant)) (c.carry_step.ensures.carries m stands)

-- a piece that names no session
pub returns-in_ok-text-in-NoSession-clause-carries : goal.returns-in_ok-text-in-NoSession-clause-carries
returns-in_ok-text-in-NoSession-clause-carries g c m stands =
    let meant = subst (λ (s : code.Spoken). IsSpoken s (spoken c.args.text.now)) c.in-NoSession.is c.in_ok-said.ensures.spoken in
    subst (λ (t : Spoken). SpeaksPiece g.H.Host.view g.K.Keep.holds g.K.Keep.live g.K.Keep.means m (spoken_stretch ode spoken m c.args.line t) c.refuse.result c.args.sessions.now c.args.host.now c.refuse.new.host)
    (sym (no_session_is (spoken c.args.text.now) meant))
    (subst (λ (l : List ℕ). SpeaksPiece g.H.Host.view g.K.Keep.holds g.K.Keep.live g.K.Keep.means m (m, Refuses l ∷ []) c.refuse.result c.args.sessions.now c.args.host.now c.refuse.new.host)
    (c.as_slice.ensures ∙ c.in_ok-text-in-NoSession.ensures)
    (first_line_carries g.H.Host.view g.K.Keep.holds g.K.Keep.live g.K.Keep.means g.met.K.Keep.stands g.met.K.Keep.stays m c.as_slice.result.now c.args.sessions.now c.args.host.now c.refuse.new.host stands
    c.refuse.ensures.any_moment c.refuse.result c.refuse.ensures.was c.refuse.ensures.printed c.refuse.ensures.stands c.refuse.ensures.sound))

pub returns-in_ok-text-in-NoSession-clause-live : goal.returns-in_ok-text-in-NoSession-clause-live
returns-in_ok-text-in-NoSession-clause-live g c = always c.refuse.result _ c.requires.live

-- a piece that gives no statement
pub returns-in_ok-text-in-Unread-clause-carries : goal.returns-in_ok-text-in-Unread-clause-carries
returns-in_ok-text-in-Unread-clause-carries g c m stands =
    let meant = subst (λ (s : code.Spoken). IsSpoken s (spoken c.args.text.now)) c.in-Unread.is c.in_ok-said.ensures.spoken in
    subst (λ (t : Spoken). SpeaksPiece g.H.Host.view g.K.Keep.holds g.K.Keep.live g.K.Keep.means m (spoken_stretch ode spoken m c.args.line t) c.refuse-in-Unread.result c.args.sessions.now c.args.host.now c.refuse-in-Unread.new.host)
    (sym (unread_is (spoken c.args.text.now) c.in-Unread.why meant))
    (subst (λ (l : List ℕ). SpeaksPiece g.H.Host.view g.K.Keep.holds g.K.Keep.live g.K.Keep.means m (m, Refuses l ∷ []) c.refuse-in-Unread.result c.args.sessions.now c.args.host.now c.refuse-in-Unread.new.host)
    (c.as_slice-in-Unread.ensures ∙ c.in_ok-text-in-Unread.ensures)
    (first_line_carries g.H.Host.view g.K.Keep.holds g.K.Keep.live g.K.Keep.means g.met.K.Keep.stands g.met.K.Keep.stays m c.as_slice-in-Unread.result.now c.args.sessions.now c.args.host.now c.refuse-in-Unread.new.host stands
    c.refuse-in-Unread.ensures.any_moment c.refuse-in-Unread.result c.refuse-in-Unread.ensures.was c.refuse-in-Unread.ensures.printed c.refuse-in-Unread.ensures.stands c.refuse-in-Unread.ensures.sound))

pub returns-in_ok-text-in-Unread-clause-live : goal.returns-in_ok-text-in-Unread-clause-live
returns-in_ok-text-in-Unread-clause-live g c = always c.refuse-in-Unread.result _ c.requires.live

-- no memory
pub returns-in_err-said-clause-carries : goal.returns-in_err-said-clause-carries
returns-in_err-said-clause-carries g c m stands =
    let p = err_from_is_err_and c.from_residual.result c.from_residual.ensures.1 in
    rw (p.1, p.2) (uncalled_carries g.H.Host.view g.K.Keep.holds g.K.Keep.live g.K.Keep.means g.met.K.Keep.stands g.met.K.Keep.stays m _ c.args.sessions.now c.args.host.now)

pub returns-in_err-said-clause-leaves : goal.returns-in_err-said-clause-leaves
returns-in_err-said-clause-leaves g c =
    let p = err_from_is_err_and c.from_residual.result c.from_residual.ensures.1 in
    rw (p.1, p.2) (no_calls _ _ _ (λ is. cc (is)) (λ is. cc (is)))

pub returns-in_err-text-in-NoSession-clause-carries : goal.returns-in_err-text-in-NoSession-clause-carries
returns-in_err-text-in-NoSession-clause-carries g c m stands =
    let p = err_from_is_err_and c.from_residual-in_err-text-in-NoSession.result c.from_residual-in_err-text-in-NoSession.ensures.1 in
    rw (p.1, p.2) (uncalled_carries g.H.Host.view g.K.Keep.holds g.K.Keep.live g.K.Keep.means g.met.K.Keep.stands g.met.K.Keep.stays m _ c.args.sessions.now c.args.host.now)

pub returns-in_err-text-in-NoSession-clause-leaves : goal.returns-in_err-text-in-NoSession-clause-leaves
returns-in_err-text-in-NoSession-clause-leaves g c =
    let p = err_from_is_err_and c.from_residual-in_err-text-in-NoSession.result c.from_residual-in_err-text-in-NoSession.ensures.1 in
    rw (p.1, p.2) (no_calls _ _ _ (λ is. cc (is)) (λ is. cc (is)))

pub returns-in_err-text-in-Unread-clause-carries : goal.returns-in_err-text-in-Unread-clause-carries
returns-in_err-text-in-Unread-clause-carries g c m stands =
    let p = err_from_is_err_and c.from_residual-in_err-text-in-Unread.result c.from_residual-in_err-text-in-Unread.ensures.1 in
    rw (p.1, p.2) (uncalled_carries g.H.Host.view g.K.Keep.holds g.K.Keep.live g.K.Keep.means g.met.K.Keep.stands g.met.K.Keep.stays m _ c.args.sessions.now c.args.host.now)

pub returns-in_err-text-in-Unread-clause-leaves : goal.returns-in_err-text-in-Unread-clause-leaves
returns-in_err-text-in-Unread-clause-leaves g c =
    let p = err_from_is_err_and c.from_residual-in_err-text-in-Unread.result c.from_residual-in_err-text-in-Unread.ensures.1 in
    rw (p.1, p.2) (no_calls _ _ _ (λ is. cc (is)) (λ is. cc (is)))
