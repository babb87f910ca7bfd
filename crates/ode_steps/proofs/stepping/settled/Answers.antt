use Rattle.std.proofs.Common.{◌∙◌, ◌++◌, subst, sym}
use Rattle.ode_engine.proofs.FaultLaws.{undamaged_by}
use Rattle.ode_engine.proofs.ServeLaws.{quiet_none, told_none}
use Rattle.ode_host.proofs.Calls.{host_calls_as}
use Rattle.ode_host.specs.Host.{LeavesOnly, Printed}
use Rattle.ode_language.specs.Languages.{ode}
use Rattle.ode_machine.specs.Moments.{IsAfterSome}
use Rattle.ode_steps.proofs.OpenedLaws.{none_are, some_open}
use Rattle.ode_steps.proofs.ServeLaws.{drained_serves, loud_all, settled_serves, undrained_serves}
use Rattle.ode_transact.specs.Items.{items_of, texts_of}
use Rattle.ode_transact.specs.Resting.{HoldsBy}
use Rattle.ode_value.specs.Draining.{drain}
use Rattle.ode_value.specs.Language.{Settlings}
use Rattle.ode_value.specs.Limits.{drain_limit}
use Rattle.ode_value.specs.Pasts.{lists}
use Rattle.std.proofs.lemmas.Result.{err_from_is_err_and}
use Rattle.ode_steps.proofs.stepping.settled.Goals as goal

pub returns-then-not-is_empty-clause-serves : goal.returns-then-not-is_empty-clause-serves
returns-then-not-is_empty-clause-serves g c m s before printed leaves well rests goes_on =
    settled_serves g.H.Host.view g.K.Keep.holds g.K.Keep.live g.K.Keep.means ode g.met.K.Keep.stands g.met.H.Host.text_stands m s c.args.rest c.args.sessions.now before c.args.host.now (some_open c.args.sessions.now (sym c.if-not-is_empty.true ∙ c.is_empty.ensures)) printed leaves rests goes_on

pub returns-then-not-is_empty-clause-leaves : goal.returns-then-not-is_empty-clause-leaves
returns-then-not-is_empty-clause-leaves g c =
    told_none _ _ _ (quiet_none (g.H.Host.view c.args.host.now))

pub returns-in_err-rest-clause-serves : goal.returns-in_err-rest-clause-serves
unfolding drain_limit
returns-in_err-rest-clause-serves g c m s before printed leaves well rests goes_on =
    let p = err_from_is_err_and c.from_residual.result c.from_residual.ensures.1 in
    rw (p.1, p.2) (undrained_serves g.H.Host.view g.K.Keep.holds g.K.Keep.live g.K.Keep.means ode g.met.K.Keep.stands g.met.H.Host.text_stands m s _ c.args.sessions.now before c.args.host.now c.drain.new.host (none_are c.args.sessions.now (sym c.if-not-is_empty.false ∙ c.is_empty.ensures)) printed leaves
    (λ said more is. subst (λ (all : Settlings). LeavesOnly (g.H.Host.view c.args.host.now) (g.H.Host.view c.drain.new.host) (IsAfterSome (HoldsBy ode g.K.Keep.means) (items_of all ++ more) s.0 said)) (loud_all c.loud-output.result.quiet c.loud-output.ensures (drain lists drain_limit s.0)) (c.in_err-rest.ensures.any_moment ode s.0 said more well rests is))
    (undamaged_by _ _ c.in_err-rest.ensures.undamaged (λ never. never ode s.0 well rests)))

pub returns-in_err-rest-clause-leaves : goal.returns-in_err-rest-clause-leaves
returns-in_err-rest-clause-leaves g c =
    let p = err_from_is_err_and c.from_residual.result c.from_residual.ensures.1 in
    rw (p.1, p.2) (host_calls_as _ _ _ _ _ _ (λ is. cc (is)) (λ is. cc (is)) (λ is. cc (is)) (λ is. cc (is)) c.in_err-rest.ensures.leaves)

pub returns-clause-serves : goal.returns-clause-serves
unfolding drain_limit
returns-clause-serves g c m s before printed leaves well rests goes_on =
    let drained = c.in_ok-rest.ensures.done ode s.0 well rests in
    drained_serves g.H.Host.view g.K.Keep.holds g.K.Keep.live g.K.Keep.means ode g.met.K.Keep.stands g.met.H.Host.text_stands m s c.in_ok-rest.rest c.in_ok-rest.ran c.args.sessions.now before c.args.host.now c.drain.new.host (none_are c.args.sessions.now (sym c.if-not-is_empty.false ∙ c.is_empty.ensures)) printed leaves
    (λ said more is. subst (λ (all : Settlings). LeavesOnly (g.H.Host.view c.args.host.now) (g.H.Host.view c.drain.new.host) (IsAfterSome (HoldsBy ode g.K.Keep.means) (items_of all ++ more) s.0 said)) (loud_all c.loud-output.result.quiet c.loud-output.ensures (drain lists drain_limit s.0)) (c.in_ok-rest.ensures.any_moment ode s.0 said more well rests is))
    (subst (λ (all : Settlings). Printed (texts_of all) (g.H.Host.view c.args.host.now) (g.H.Host.view c.drain.new.host)) (loud_all c.loud-output.result.quiet c.loud-output.ensures (drain lists drain_limit s.0)) drained.1)
    drained.0.1 drained.0.0 goes_on

pub returns-clause-leaves : goal.returns-clause-leaves
returns-clause-leaves g c =
    host_calls_as _ _ _ _ _ _ (λ is. cc (is)) (λ is. cc (is)) (λ is. cc (is)) (λ is. cc (is)) c.in_ok-rest.ensures.leaves
