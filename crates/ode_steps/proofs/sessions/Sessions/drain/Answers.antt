use Rattle.std.proofs.Common.{◌≡◌, ◌∙◌, ◌++◌, ℕ, false, length, subst, sym}
use Rattle.std.specs.Prelude.{IfOk, IsErrOf, OnErr, OnOk}
use Rattle.ode_host.specs.Host.{HostCalls, LeavesOnly, Printed}
use Rattle.ode_interleaved_laws.proofs.ComingLaws.{drained_well}
use Rattle.ode_interleaved_laws.proofs.GoingLaws.{none_open}
use Rattle.ode_language.specs.Languages.{ode}
use Rattle.ode_machine.specs.Interleaving.{Interleaved}
use Rattle.ode_machine.specs.Moments.{IsAfterSome}
use Rattle.ode_steps.proofs.CallLaws.{damaged_on, drained_counts, drained_printed, drained_rests, drained_stands, err_on, leaves_on, live_on, taken_rests, taken_stands}
use Rattle.ode_steps.specs.Serving.{IsLive, StandsFor, closed_behind}
use Rattle.ode_transact.proofs.OutputLaws.{all_heard_loud}
use Rattle.ode_transact.specs.Errors.{OnDamaged}
use Rattle.ode_transact.specs.Items.{items_of, texts_of}
use Rattle.ode_transact.specs.Resting.{HoldsBy}
use Rattle.ode_transact.specs.declared.error.EngineError.TheVariants as error
use Rattle.ode_value.specs.Draining.{drain as drained, world_after}
use Rattle.ode_value.specs.Language.{Settlings}
use Rattle.ode_value.specs.Limits.{drain_limit}
use Rattle.ode_value.specs.Pasts.{lists}
use Rattle.ode_steps.proofs.sessions.Sessions.drain.Goals as goal

pub drain-step-requires-clause-live : goal.drain-step-requires-clause-live
drain-step-requires-clause-live g c = (taken_rests g.K.Keep.live c.args.self.now.rest c.in-Some.rest (sym c.take.ensures.value ∙ c.in-Some.is) c.requires.live.there).0

pub drain-step-requires-clause-fit : goal.drain-step-requires-clause-fit
drain-step-requires-clause-fit g c = (taken_rests g.K.Keep.live c.args.self.now.rest c.in-Some.rest (sym c.take.ensures.value ∙ c.in-Some.is) c.requires.live.there).1

pub returns-in-Some-clause-answer : goal.returns-in-Some-clause-answer
unfolding drain_limit
returns-in-Some-clause-answer g c m is =
    let stands = taken_stands g.H.Host.view g.K.Keep.holds g.K.Keep.live ode m c.args.self.now.rest c.in-Some.rest c.args.self.now.sessions c.args.host.now (sym c.take.ensures.value ∙ c.in-Some.is) is in
    let settled = drained lists drain_limit m.world in
    subst (λ r. IfOk r (λ (ran : ℕ). ran ≡ length settled)) (sym c.answer.ensures.says)
    (drained_counts g.H.Host.view g.K.Keep.holds g.K.Keep.live ode c.drain-step.result (λ (ran : ℕ). ran ≡ length settled) m settled c.args.host.now c.drain-step.new.host (c.drain-step.ensures.done ode m.world stands.goes_on.well stands.rests))

pub returns-in-Some-clause-stands : goal.returns-in-Some-clause-stands
unfolding drain_limit
returns-in-Some-clause-stands g c m is =
    let stands = taken_stands g.H.Host.view g.K.Keep.holds g.K.Keep.live ode m c.args.self.now.rest c.in-Some.rest c.args.self.now.sessions c.args.host.now (sym c.take.ensures.value ∙ c.in-Some.is) is in
    let settled = drained lists drain_limit m.world in
    subst (λ r. OnOk r (StandsFor g.H.Host.view g.K.Keep.holds g.K.Keep.live ode (closed_behind m settled) c.answer.new.self c.drain-step.new.host)) (sym c.answer.ensures.says)
    (drained_stands g.H.Host.view g.K.Keep.holds g.K.Keep.live ode c.drain-step.result (λ (ran : ℕ). ran ≡ length settled) m settled c.answer.new.self _ c.args.self.now.sessions c.args.host.now c.drain-step.new.host
    (none_open (world_after m.world settled) (drained_well m.world stands.goes_on.well)) c.answer.ensures.has c.answer.ensures.same c.requires.closed (c.drain-step.ensures.done ode m.world stands.goes_on.well stands.rests))

pub returns-in-Some-clause-printed : goal.returns-in-Some-clause-printed
unfolding drain_limit
returns-in-Some-clause-printed g c m is =
    let stands = taken_stands g.H.Host.view g.K.Keep.holds g.K.Keep.live ode m c.args.self.now.rest c.in-Some.rest c.args.self.now.sessions c.args.host.now (sym c.take.ensures.value ∙ c.in-Some.is) is in
    let settled = drained lists drain_limit m.world in
    subst (λ r. OnOk r (Printed (texts_of settled) (g.H.Host.view c.args.host.now) (g.H.Host.view c.drain-step.new.host))) (sym c.answer.ensures.says)
    (drained_printed g.H.Host.view g.K.Keep.holds g.K.Keep.live ode c.drain-step.result (λ (ran : ℕ). ran ≡ length settled) m settled c.args.host.now c.drain-step.new.host (c.drain-step.ensures.done ode m.world stands.goes_on.well stands.rests))

pub returns-in-Some-clause-any_moment : goal.returns-in-Some-clause-any_moment
unfolding drain_limit
returns-in-Some-clause-any_moment g c m said more is told =
    let stands = taken_stands g.H.Host.view g.K.Keep.holds g.K.Keep.live ode m c.args.self.now.rest c.in-Some.rest c.args.self.now.sessions c.args.host.now (sym c.take.ensures.value ∙ c.in-Some.is) is in
    subst (λ (settled : Settlings). LeavesOnly (g.H.Host.view c.args.host.now) (g.H.Host.view c.drain-step.new.host) (IsAfterSome (HoldsBy ode g.K.Keep.means) (items_of settled ++ more) m.world said)) (all_heard_loud (drained lists drain_limit m.world))
    (c.drain-step.ensures.any_moment ode m.world said more stands.goes_on.well stands.rests told)

pub returns-in-Some-clause-leaves : goal.returns-in-Some-clause-leaves
returns-in-Some-clause-leaves g c =
    let old = g.H.Host.view c.args.host.now in
    let new = g.H.Host.view c.drain-step.new.host in
    subst (λ r. HostCalls (IsErrOf r error.DiskFault) (IsErrOf r error.WriteFault) old new) (sym c.answer.ensures.says) (leaves_on g.H.Host.view g.K.Keep.holds g.K.Keep.live ode c.drain-step.result old new c.drain-step.ensures.leaves)

pub returns-in-Some-clause-undamaged : goal.returns-in-Some-clause-undamaged
returns-in-Some-clause-undamaged g c =
    subst (λ r. OnDamaged r ((m : Interleaved) → StandsFor g.H.Host.view g.K.Keep.holds g.K.Keep.live ode m c.args.self.now c.args.host.now → ⊥)) (sym c.answer.ensures.says)
    (damaged_on g.H.Host.view g.K.Keep.holds g.K.Keep.live ode c.drain-step.result _ _ c.drain-step.ensures.undamaged (λ never m is.
    let stands = taken_stands g.H.Host.view g.K.Keep.holds g.K.Keep.live ode m c.args.self.now.rest c.in-Some.rest c.args.self.now.sessions c.args.host.now (sym c.take.ensures.value ∙ c.in-Some.is) is in
    never ode m.world stands.goes_on.well stands.rests))

pub returns-in-Some-clause-live : goal.returns-in-Some-clause-live
returns-in-Some-clause-live g c =
    subst (λ r. OnOk r (IsLive g.K.Keep.live c.answer.new.self)) (sym c.answer.ensures.says)
    (live_on g.H.Host.view g.K.Keep.holds g.K.Keep.live ode c.drain-step.result c.answer.new.self _ c.requires.live.lives c.answer.ensures.has
    (drained_rests g.H.Host.view g.K.Keep.holds g.K.Keep.live ode c.drain-step.result c.in-Some.rest (taken_rests g.K.Keep.live c.args.self.now.rest c.in-Some.rest (sym c.take.ensures.value ∙ c.in-Some.is) c.requires.live.there) c.drain-step.ensures.usable c.drain-step.ensures.parts))

pub returns-in-Some-clause-dead : goal.returns-in-Some-clause-dead
returns-in-Some-clause-dead g c =
    subst (λ r. OnErr r (c.answer.new.self.live ≡ false)) (sym c.answer.ensures.says) (err_on g.H.Host.view g.K.Keep.holds g.K.Keep.live ode c.drain-step.result (c.answer.new.self.live ≡ false) c.answer.ensures.dead)
