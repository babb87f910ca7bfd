use Rattle.std.proofs.Common.{Option, subst, sym}
use Rattle.ode_holders.proofs.PlaceLaws.{none_is, taken_is}
use Rattle.ode_holders.specs.Opens.{taken_all}
use Rattle.ode_language.specs.Languages.{ode}
use Rattle.ode_machine.specs.Interleaving.{view, Open, run_on}
use Rattle.ode_transact.specs.Contexts.{ContextRuns}
use Rattle.std.proofs.lemmas.Result.{IfOk-weaker}
use Rattle.std.proofs.lemmas.Option.{slice_get-get_or}
use Rattle.std.specs.Prelude.{get_or}
use Rattle.ode_steps.proofs.OpenedLaws.{place_within}
use Rattle.ode_value.specs.Acts.{reached}
use Rattle.ode_steps.proofs.stepping.view_of.Goals as goal

pub returns-in-Some-clause-runs : goal.returns-in-Some-clause-runs
returns-in-Some-clause-runs g c =
    let place = rw c.in-Some.is at c.place_of.ensures in
    IfOk-weaker c.view.result _ _ (λ ctx runs w rests. subst (λ (own : Option Open). ContextRuns g.H.Host.view g.K.Keep.holds g.K.Keep.live ode w ctx c.view.new.host (view w own)) (taken_is c.args.session c.args.sessions.now c.in-Some.at (get_or c.args.sessions.now c.in-Some.at c.index-sessions-at.result) (sym place) (slice_get-get_or c.args.sessions.now c.in-Some.at c.index-sessions-at.result (place_within c.args.session c.args.sessions.now c.in-Some.at (sym place))))
    (subst (λ taken. ContextRuns g.H.Host.view g.K.Keep.holds g.K.Keep.live ode w ctx c.view.new.host (reached (run_on w (taken_all taken)))) c.as_slice.ensures (runs w rests))) c.view.ensures.runs

pub returns-in-None-clause-runs : goal.returns-in-None-clause-runs
returns-in-None-clause-runs g c =
    let place = rw c.in-None.is at c.place_of.ensures in
    IfOk-weaker c.view-in-None.result _ _ (λ ctx runs w rests. subst (λ (own : Option Open). ContextRuns g.H.Host.view g.K.Keep.holds g.K.Keep.live ode w ctx c.view-in-None.new.host (view w own)) (none_is c.args.session c.args.sessions.now (sym place)) (runs w rests)) c.view-in-None.ensures.runs
