use Rattle.std.proofs.Common.{◌∙◌, ap, refl, subst, sym, List, Option}
use Rattle.ode_host.proofs.Calls.{host_calls_as}
use Rattle.ode_language.specs.Languages.{ode}
use Rattle.ode_machine.specs.Sessions.{Session, closed}
use Rattle.ode_transact.specs.Errors.{OnDamaged}
use Rattle.ode_transact.specs.declared.output.Output.{Output}
use Rattle.ode_value.specs.Draining.{drain as drained, world_after}
use Rattle.ode_value.specs.Limits.{drain_limit}
use Rattle.ode_value.specs.Pasts.{lists}
use Rattle.ode_engine.specs.Serving.{StandsFor}
use Rattle.ode_engine.specs.declared.commanding.State.TheVariants as state
use Rattle.ode_engine.proofs.EngineLaws.{closed_rest, put_stands}
use Rattle.ode_engine.proofs.FaultLaws.{damaged_as}
use Rattle.ode_engine.proofs.SessionLaws.{drained_session}
use Rattle.ode_engine.proofs.KeptLaws.{grown_on}
use Rattle.ode_transact.specs.Logging.{Kept, Logs}
use Rattle.ode_engine.proofs.engine.Engine.drain.Goals as goal

pub returns-in-Ok-clause-answer : goal.returns-in-Ok-clause-answer
unfolding drain_limit
returns-in-Ok-clause-answer g c session is =
    let rests = closed_rest g.H.Host.view g.K.Keep.holds g.K.Keep.live ode session c.args.self.now.rest c.args.self.now.running c.in-Some.rest c.args.host.now (sym c.take.ensures.value ∙ c.in-Some.is) c.requires.closed is.has in
    (c.in-Ok.ensures.done ode session.world is.goes_on.well rests).0.1

pub returns-in-Ok-clause-stands : goal.returns-in-Ok-clause-stands
unfolding drain_limit
returns-in-Ok-clause-stands g c session is =
    let rests = closed_rest g.H.Host.view g.K.Keep.holds g.K.Keep.live ode session c.args.self.now.rest c.args.self.now.running c.in-Some.rest c.args.host.now (sym c.take.ensures.value ∙ c.in-Some.is) c.requires.closed is.has in
    let done = c.in-Ok.ensures.done ode session.world is.goes_on.well rests in
    record {
      goes_on = drained_session session.world is.goes_on.well;
      has = put_stands g.H.Host.view g.K.Keep.holds g.K.Keep.live ode (closed (world_after session.world (drained lists drain_limit session.world))) (state.Rest c.in-Ok.rest) c.put.new.self.rest c.put.new.self.running c.drain.new.host
          c.put.ensures.has.0 c.put.ensures.has.1 (refl, done.0.0);
    }

pub returns-in-Ok-clause-printed : goal.returns-in-Ok-clause-printed
unfolding drain_limit
returns-in-Ok-clause-printed g c session is =
    let rests = closed_rest g.H.Host.view g.K.Keep.holds g.K.Keep.live ode session c.args.self.now.rest c.args.self.now.running c.in-Some.rest c.args.host.now (sym c.take.ensures.value ∙ c.in-Some.is) c.requires.closed is.has in
    (c.in-Ok.ensures.done ode session.world is.goes_on.well rests).1

pub returns-in-Ok-clause-counts : goal.returns-in-Ok-clause-counts
unfolding drain_limit
returns-in-Ok-clause-counts g c session is =
    let rests = closed_rest g.H.Host.view g.K.Keep.holds g.K.Keep.live ode session c.args.self.now.rest c.args.self.now.running c.in-Some.rest c.args.host.now (sym c.take.ensures.value ∙ c.in-Some.is) c.requires.closed is.has in
    c.put.ensures.output ∙ ap (λ (o : Output). record { quiet = c.args.self.now.quiet; counted = o.counted }) (c.in-Ok.ensures.counts ode session.world is.goes_on.well rests)

pub returns-in-Ok-clause-any_moment : goal.returns-in-Ok-clause-any_moment
unfolding drain_limit
returns-in-Ok-clause-any_moment g c session said more is told =
    let rests = closed_rest g.H.Host.view g.K.Keep.holds g.K.Keep.live ode session c.args.self.now.rest c.args.self.now.running c.in-Some.rest c.args.host.now (sym c.take.ensures.value ∙ c.in-Some.is) c.requires.closed is.has in
    c.in-Ok.ensures.any_moment ode session.world said more is.goes_on.well rests told

pub returns-in-Ok-clause-leaves : goal.returns-in-Ok-clause-leaves
returns-in-Ok-clause-leaves g c = host_calls_as _ _ _ _ _ _ (λ told. cc (told)) (λ told. cc (told)) (λ told. cc (told)) (λ told. cc (told)) c.in-Ok.ensures.leaves

pub returns-in-Err-clause-any_moment : goal.returns-in-Err-clause-any_moment
unfolding drain_limit
returns-in-Err-clause-any_moment g c session said more is told =
    let rests = closed_rest g.H.Host.view g.K.Keep.holds g.K.Keep.live ode session c.args.self.now.rest c.args.self.now.running c.in-Some.rest c.args.host.now (sym c.take.ensures.value ∙ c.in-Some.is) c.requires.closed is.has in
    c.in-Err.ensures.any_moment ode session.world said more is.goes_on.well rests told

pub returns-in-Err-clause-undamaged : goal.returns-in-Err-clause-undamaged
returns-in-Err-clause-undamaged g c =
    subst (λ r. OnDamaged r ((session : Session) → StandsFor g.H.Host.view g.K.Keep.holds g.K.Keep.live ode session c.args.self.now c.args.host.now → ⊥)) (sym c.fail.ensures.says)
    (damaged_as c.in-Err.error _ _ c.in-Err.ensures.undamaged (λ never session is. never ode session.world is.goes_on.well
    (closed_rest g.H.Host.view g.K.Keep.holds g.K.Keep.live ode session c.args.self.now.rest c.args.self.now.running c.in-Some.rest c.args.host.now (sym c.take.ensures.value ∙ c.in-Some.is) c.requires.closed is.has)))

pub returns-in-Ok-clause-logs : goal.returns-in-Ok-clause-logs
unfolding drain_limit
returns-in-Ok-clause-logs g c session entries is disk =
    let rests = closed_rest g.H.Host.view g.K.Keep.holds g.K.Keep.live ode session c.args.self.now.rest c.args.self.now.running c.in-Some.rest c.args.host.now (sym c.take.ensures.value ∙ c.in-Some.is) c.requires.closed is.has in
    subst (λ (log : Option (List Kept)). Logs g.K.Keep.means ode session.world entries (drained lists drain_limit session.world) c.args.self.now.log log (g.H.Host.view c.drain.new.host)) (sym c.put.ensures.log)
    (c.in-Ok.ensures.logs ode session.world entries is.goes_on.well rests disk)

pub returns-in-Ok-clause-grown : goal.returns-in-Ok-clause-grown
returns-in-Ok-clause-grown g c = grown_on c.args.self.now.log c.args.self.now.log c.drain.new.log c.put.new.self.log refl c.put.ensures.log c.drain.ensures.grown

pub returns-in-Err-clause-grown : goal.returns-in-Err-clause-grown
returns-in-Err-clause-grown g c = grown_on c.args.self.now.log c.args.self.now.log c.drain.new.log c.fail.new.self.log refl c.fail.ensures.log c.drain.ensures.grown
