use Rattle.std.proofs.Common.{◌≡◌, ◌∙◌, false, subst, sym}
use Rattle.std.specs.Prelude.{IfOk, IsErrOf, OnErr, OnOk, length}
use Rattle.ode_host.specs.Host.{HostCalls, Printed}
use Rattle.ode_language.specs.Languages.{ode}
use Rattle.ode_machine.specs.Interleaving.{Interleaved, finish}
use Rattle.ode_steps.proofs.CallLaws.{err_on, leaves_on, live_on, ok_on, says_on, stands_on, taken_rests, taken_stands, undamaged_on}
use Rattle.ode_steps.specs.Serving.{IsLive, StandsFor, closed_behind}
use Rattle.ode_transact.specs.Errors.{OnDamaged}
use Rattle.ode_transact.specs.Items.{texts_of}
use Rattle.ode_transact.specs.declared.error.EngineError.TheVariants as error
use Rattle.ode_steps.proofs.sessions.Sessions.finish.Goals as goal

pub finish_in-step-requires-clause-live : goal.finish_in-step-requires-clause-live
finish_in-step-requires-clause-live g c = (taken_rests g.K.Keep.live c.args.self.now.rest c.in-Some.rest (sym c.take.ensures.value ∙ c.in-Some.is) c.requires.live.there).0

pub finish_in-step-requires-clause-fit : goal.finish_in-step-requires-clause-fit
finish_in-step-requires-clause-fit g c = (taken_rests g.K.Keep.live c.args.self.now.rest c.in-Some.rest (sym c.take.ensures.value ∙ c.in-Some.is) c.requires.live.there).1

pub finish_in-step-requires-clause-aligned : goal.finish_in-step-requires-clause-aligned
finish_in-step-requires-clause-aligned g c = (taken_rests g.K.Keep.live c.args.self.now.rest c.in-Some.rest (sym c.take.ensures.value ∙ c.in-Some.is) c.requires.live.there).2

pub returns-in-Some-clause-answer : goal.returns-in-Some-clause-answer
returns-in-Some-clause-answer g c m is =
    let serves = c.finish_in-step.ensures.settles m (taken_stands g.H.Host.view g.K.Keep.holds g.K.Keep.live ode m c.args.self.now.rest c.in-Some.rest c.args.self.now.sessions c.args.host.now (sym c.take.ensures.value ∙ c.in-Some.is) is) in
    subst (λ r. IfOk r (λ count. count ≡ length (finish m))) (sym c.answer.ensures.says) (says_on g.H.Host.view g.K.Keep.holds g.K.Keep.live ode c.finish_in-step.result (λ count. count ≡ length (finish m)) serves.counts)

pub returns-in-Some-clause-stands : goal.returns-in-Some-clause-stands
returns-in-Some-clause-stands g c m is =
    let serves = c.finish_in-step.ensures.settles m (taken_stands g.H.Host.view g.K.Keep.holds g.K.Keep.live ode m c.args.self.now.rest c.in-Some.rest c.args.self.now.sessions c.args.host.now (sym c.take.ensures.value ∙ c.in-Some.is) is) in
    subst (λ r. OnOk r (StandsFor g.H.Host.view g.K.Keep.holds g.K.Keep.live ode (closed_behind m (finish m)) c.answer.new.self c.finish_in-step.new.host)) (sym c.answer.ensures.says)
    (stands_on g.H.Host.view g.K.Keep.holds g.K.Keep.live ode c.finish_in-step.result (closed_behind m (finish m)) c.answer.new.self _ _ c.finish_in-step.new.host c.answer.ensures.has c.answer.ensures.same serves.stands)

pub returns-in-Some-clause-printed : goal.returns-in-Some-clause-printed
returns-in-Some-clause-printed g c m is =
    let serves = c.finish_in-step.ensures.settles m (taken_stands g.H.Host.view g.K.Keep.holds g.K.Keep.live ode m c.args.self.now.rest c.in-Some.rest c.args.self.now.sessions c.args.host.now (sym c.take.ensures.value ∙ c.in-Some.is) is) in
    let text = Printed (texts_of (finish m)) (g.H.Host.view c.args.host.now) (g.H.Host.view c.finish_in-step.new.host) in
    subst (λ r. OnOk r text) (sym c.answer.ensures.says) (ok_on g.H.Host.view g.K.Keep.holds g.K.Keep.live ode c.finish_in-step.result text serves.printed)

pub returns-in-Some-clause-any_moment : goal.returns-in-Some-clause-any_moment
returns-in-Some-clause-any_moment g c m said more is told =
    (c.finish_in-step.ensures.settles m (taken_stands g.H.Host.view g.K.Keep.holds g.K.Keep.live ode m c.args.self.now.rest c.in-Some.rest c.args.self.now.sessions c.args.host.now (sym c.take.ensures.value ∙ c.in-Some.is) is)).any_moment said more told

pub returns-in-Some-clause-leaves : goal.returns-in-Some-clause-leaves
returns-in-Some-clause-leaves g c =
    let old = g.H.Host.view c.args.host.now in
    let new = g.H.Host.view c.finish_in-step.new.host in
    subst (λ r. HostCalls (IsErrOf r error.DiskFault) (IsErrOf r error.WriteFault) old new) (sym c.answer.ensures.says) (leaves_on g.H.Host.view g.K.Keep.holds g.K.Keep.live ode c.finish_in-step.result old new c.finish_in-step.ensures.leaves)

pub returns-in-Some-clause-undamaged : goal.returns-in-Some-clause-undamaged
returns-in-Some-clause-undamaged g c =
    subst (λ r. OnDamaged r ((m : Interleaved) → StandsFor g.H.Host.view g.K.Keep.holds g.K.Keep.live ode m c.args.self.now c.args.host.now → ⊥)) (sym c.answer.ensures.says)
    (undamaged_on g.H.Host.view g.K.Keep.holds g.K.Keep.live ode c.finish_in-step.result (λ m. StandsFor g.H.Host.view g.K.Keep.holds g.K.Keep.live ode m c.args.self.now c.args.host.now)
    (λ m is. (c.finish_in-step.ensures.settles m (taken_stands g.H.Host.view g.K.Keep.holds g.K.Keep.live ode m c.args.self.now.rest c.in-Some.rest c.args.self.now.sessions c.args.host.now (sym c.take.ensures.value ∙ c.in-Some.is) is)).sound))

pub returns-in-Some-clause-live : goal.returns-in-Some-clause-live
returns-in-Some-clause-live g c =
    subst (λ r. OnOk r (IsLive g.K.Keep.live c.answer.new.self)) (sym c.answer.ensures.says)
    (live_on g.H.Host.view g.K.Keep.holds g.K.Keep.live ode c.finish_in-step.result c.answer.new.self _ c.requires.live.lives c.answer.ensures.has c.finish_in-step.ensures.usable)

pub returns-in-Some-clause-dead : goal.returns-in-Some-clause-dead
returns-in-Some-clause-dead g c =
    subst (λ r. OnErr r (c.answer.new.self.live ≡ false)) (sym c.answer.ensures.says) (err_on g.H.Host.view g.K.Keep.holds g.K.Keep.live ode c.finish_in-step.result (c.answer.new.self.live ≡ false) c.answer.ensures.dead)
