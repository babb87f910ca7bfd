use Rattle.std.proofs.Common.{◌≡◌, ◌∙◌, false, ap, subst, sym}
use Rattle.std.specs.Prelude.{IfOk, IsErrOf, OnErr, OnOk}
use Rattle.ode_host.specs.Host.{HostCalls, Printed}
use Rattle.ode_language.specs.Languages.{ode}
use Rattle.ode_machine.specs.Commands.{changes}
use Rattle.ode_machine.specs.Sessions.{Session}
use Rattle.ode_transact.specs.Items.{texts_of}
use Rattle.ode_transact.specs.Errors.{OnDamaged}
use Rattle.ode_transact.specs.Output.{all_heard, counting}
use Rattle.ode_transact.specs.declared.output.Output.{Output}
use Rattle.ode_transact.specs.declared.error.EngineError.TheVariants as error
use Rattle.ode_engine.specs.Serving.{IsAnswer, IsLive, StandsFor, output_of, session_after, settlings}
use Rattle.ode_engine.proofs.EngineLaws.{counts_on, err_on, leaves_on, live_on, ok_on, says_on, stands_on, taken_stands, taken_usable, undamaged_on}
use Rattle.ode_engine.proofs.KeptLaws.{grown_on, kept_on}
use Rattle.ode_transact.specs.Logging.{Logs}
use Rattle.ode_engine.proofs.engine.Engine.change.Goals as goal

pub change_in-step-requires-clause-usable : goal.change_in-step-requires-clause-usable
change_in-step-requires-clause-usable g c = taken_usable g.K.Keep.live c.args.self.now.rest c.args.self.now.running c.in-Some.state (sym c.take.ensures.took ∙ c.in-Some.is) c.requires.live.one

pub returns-in-Some-clause-answer : goal.returns-in-Some-clause-answer
returns-in-Some-clause-answer g c session is =
    let answer = changes ode session c.args.c.now in
    let serves = c.change_in-step.ensures.serves session is.goes_on (taken_stands g.H.Host.view g.K.Keep.holds g.K.Keep.live ode session c.args.self.now.rest c.args.self.now.running c.in-Some.state c.args.host.now (sym c.take.ensures.took ∙ c.in-Some.is) is.has) in
    subst (λ r. IfOk r (λ done. IsAnswer done answer)) (sym c.answer.ensures.says) (says_on g.H.Host.view g.K.Keep.holds g.K.Keep.live ode c.change_in-step.result answer serves.answers)

pub returns-in-Some-clause-stands : goal.returns-in-Some-clause-stands
returns-in-Some-clause-stands g c session is =
    let answer = changes ode session c.args.c.now in
    let serves = c.change_in-step.ensures.serves session is.goes_on (taken_stands g.H.Host.view g.K.Keep.holds g.K.Keep.live ode session c.args.self.now.rest c.args.self.now.running c.in-Some.state c.args.host.now (sym c.take.ensures.took ∙ c.in-Some.is) is.has) in
    subst (λ r. OnOk r (StandsFor g.H.Host.view g.K.Keep.holds g.K.Keep.live ode (session_after session answer) c.answer.new.self c.change_in-step.new.host)) (sym c.answer.ensures.says)
    (stands_on g.H.Host.view g.K.Keep.holds g.K.Keep.live ode c.change_in-step.result (session_after session answer) c.answer.new.self _ c.change_in-step.new.host c.answer.ensures.has serves.goes_on serves.stands)

pub returns-in-Some-clause-printed : goal.returns-in-Some-clause-printed
returns-in-Some-clause-printed g c session is =
    let answer = changes ode session c.args.c.now in
    let serves = c.change_in-step.ensures.serves session is.goes_on (taken_stands g.H.Host.view g.K.Keep.holds g.K.Keep.live ode session c.args.self.now.rest c.args.self.now.running c.in-Some.state c.args.host.now (sym c.take.ensures.took ∙ c.in-Some.is) is.has) in
    let text = Printed (texts_of (all_heard c.args.self.now.quiet (settlings answer))) (g.H.Host.view c.args.host.now) (g.H.Host.view c.change_in-step.new.host) in
    subst (λ r. OnOk r text) (sym c.answer.ensures.says) (ok_on g.H.Host.view g.K.Keep.holds g.K.Keep.live ode c.change_in-step.result text serves.printed)

pub returns-in-Some-clause-counts : goal.returns-in-Some-clause-counts
returns-in-Some-clause-counts g c session is =
    let answer = changes ode session c.args.c.now in
    let serves = c.change_in-step.ensures.serves session is.goes_on (taken_stands g.H.Host.view g.K.Keep.holds g.K.Keep.live ode session c.args.self.now.rest c.args.self.now.running c.in-Some.state c.args.host.now (sym c.take.ensures.took ∙ c.in-Some.is) is.has) in
    let told = output_of c.answer.new.self ≡ counting (output_of c.args.self.now) (texts_of (settlings answer)) in
    subst (λ r. OnOk r told) (sym c.answer.ensures.says)
    (ok_on g.H.Host.view g.K.Keep.holds g.K.Keep.live ode c.change_in-step.result told
    (counts_on c.change_in-step.result (output_of c.args.self.now) c.change_in-step.new.output (output_of c.answer.new.self) c.take.new.self.quiet (texts_of (settlings answer)) (ap (λ (o : Output). o.quiet) c.take.ensures.output) c.answer.ensures.output serves.counts))

pub returns-in-Some-clause-any_moment : goal.returns-in-Some-clause-any_moment
returns-in-Some-clause-any_moment g c session said more is told =
    let serves = c.change_in-step.ensures.serves session is.goes_on (taken_stands g.H.Host.view g.K.Keep.holds g.K.Keep.live ode session c.args.self.now.rest c.args.self.now.running c.in-Some.state c.args.host.now (sym c.take.ensures.took ∙ c.in-Some.is) is.has) in
    serves.any_moment said more told

pub returns-in-Some-clause-leaves : goal.returns-in-Some-clause-leaves
returns-in-Some-clause-leaves g c =
    let old = g.H.Host.view c.args.host.now in
    let new = g.H.Host.view c.change_in-step.new.host in
    subst (λ r. HostCalls (IsErrOf r error.DiskFault) (IsErrOf r error.WriteFault) old new) (sym c.answer.ensures.says) (leaves_on g.H.Host.view g.K.Keep.holds g.K.Keep.live ode c.change_in-step.result old new c.change_in-step.ensures.leaves)

pub returns-in-Some-clause-undamaged : goal.returns-in-Some-clause-undamaged
returns-in-Some-clause-undamaged g c =
    subst (λ r. OnDamaged r ((session : Session) → StandsFor g.H.Host.view g.K.Keep.holds g.K.Keep.live ode session c.args.self.now c.args.host.now → ⊥)) (sym c.answer.ensures.says)
    (undamaged_on g.H.Host.view g.K.Keep.holds g.K.Keep.live ode c.change_in-step.result (λ session. StandsFor g.H.Host.view g.K.Keep.holds g.K.Keep.live ode session c.args.self.now c.args.host.now)
    (λ session is. (c.change_in-step.ensures.serves session is.goes_on (taken_stands g.H.Host.view g.K.Keep.holds g.K.Keep.live ode session c.args.self.now.rest c.args.self.now.running c.in-Some.state c.args.host.now (sym c.take.ensures.took ∙ c.in-Some.is) is.has)).sound))

pub returns-in-Some-clause-live : goal.returns-in-Some-clause-live
returns-in-Some-clause-live g c =
    subst (λ r. OnOk r (IsLive g.K.Keep.live c.answer.new.self)) (sym c.answer.ensures.says)
    (live_on g.H.Host.view g.K.Keep.holds g.K.Keep.live ode c.change_in-step.result c.answer.new.self _ (c.take.ensures.same ∙ c.requires.live.lives) c.answer.ensures.has c.change_in-step.ensures.usable)

pub returns-in-Some-clause-dead : goal.returns-in-Some-clause-dead
returns-in-Some-clause-dead g c =
    subst (λ r. OnErr r (c.answer.new.self.live ≡ false)) (sym c.answer.ensures.says) (err_on g.H.Host.view g.K.Keep.holds g.K.Keep.live ode c.change_in-step.result (c.answer.new.self.live ≡ false) c.answer.ensures.dead)

pub returns-in-Some-clause-logs : goal.returns-in-Some-clause-logs
returns-in-Some-clause-logs g c session entries is disk =
    let answer = changes ode session c.args.c.now in
    let kept = Logs g.K.Keep.means ode session.world entries (settlings answer) c.args.self.now.log c.answer.new.self.log (g.H.Host.view c.change_in-step.new.host) in
    subst (λ r. OnOk r kept) (sym c.answer.ensures.says)
    (ok_on g.H.Host.view g.K.Keep.holds g.K.Keep.live ode c.change_in-step.result kept
    (kept_on g.K.Keep.means c.change_in-step.result session.world entries (settlings answer) c.args.self.now.log c.take.new.self.log c.change_in-step.new.log c.answer.new.self.log (g.H.Host.view c.change_in-step.new.host) c.take.ensures.log c.answer.ensures.log
    (c.change_in-step.ensures.logs session entries is.goes_on (taken_stands g.H.Host.view g.K.Keep.holds g.K.Keep.live ode session c.args.self.now.rest c.args.self.now.running c.in-Some.state c.args.host.now (sym c.take.ensures.took ∙ c.in-Some.is) is.has) disk)))

pub returns-in-Some-clause-grown : goal.returns-in-Some-clause-grown
returns-in-Some-clause-grown g c = grown_on c.args.self.now.log c.take.new.self.log c.change_in-step.new.log c.answer.new.self.log c.take.ensures.log c.answer.ensures.log c.change_in-step.ensures.grown
