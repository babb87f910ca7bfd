use Rattle.std.proofs.Common.{rules, ◌∙◌, ◌++◌, ◌<◌, ℕ, [], ◌∷◌, subst, sym}
use Rattle.std.proofs.lemmas.Result.{IfOk-weaker}
use Rattle.ode_host.proofs.Calls.{host_calls_on}
use Rattle.ode_machine.proofs.MomentLaws.{settling_leaves}
use Rattle.ode_opened.specs.declared.opened.Opened.{Opened}
use Rattle.ode_overlay_laws.specs.Standing.{origin_as}
use Rattle.ode_schema.specs.Parts.{AreFit}
use Rattle.ode_good_laws.specs.Well.{IsWell}
use Rattle.ode_transact.proofs.BeginLaws.{damaged_before}
use Rattle.ode_transact.proofs.DamageLaws.{damaged_so}
use Rattle.ode_transact.proofs.EndingLaws.{calls_as}
use Rattle.ode_transact.proofs.LogLaws.{grown_then, logs_on}
use Rattle.ode_transact.proofs.OutputLaws.{counted_then}
use Rattle.ode_transact.proofs.TransactSteps.{drain_leaves, drain_then}
use Rattle.ode_transact.specs.Items.{items_of, texts_of}
use Rattle.ode_transact.specs.Output.{all_heard, heard}
use Rattle.ode_transact.specs.Resting.{HoldsBy, IsAtRest}
use Rattle.ode_transact.specs.Working.{IsFromFront, work_of}
use Rattle.ode_value.specs.Draining.{drain}
use Rattle.ode_value.specs.Language.{Language, ListWorld}
use Rattle.ode_value.specs.Limits.{transaction_limit}
use Rattle.ode_value.specs.Pasts.{lists}
use Rattle.ode_value.specs.Settling.{transaction}
use Rattle.ode_transact.proofs.transacting.transact_and_drain.Goals as goal

pub returns-in_err-rest-clause-any_moment : goal.returns-in_err-rest-clause-any_moment
returns-in_err-rest-clause-any_moment g c = λ l w said more well rest front behind printed.
    let s = transaction lists (origin_as c.args.origin) (work_of c.args.work lists) w in
    settling_leaves (HoldsBy l g.K.Keep.means) (heard c.args.output.now.quiet s.1) (items_of (all_heard c.args.output.now.quiet (drain lists c.args.most s.0)) ++ more) w s.0 said _ _ (c.transact.ensures.any_moment l w said well rest front behind printed)

pub returns-in_err-rest-clause-leaves : goal.returns-in_err-rest-clause-leaves
returns-in_err-rest-clause-leaves g c = calls_as c.transact.result c.from_residual.result c.in_err-rest.field-0.0 _ _ (search rules) (search rules) c.transact.ensures.leaves

pub drain-requires : goal.drain-requires
drain-requires g c = record { live = c.in_ok-rest.ensures.usable; fit = subst AreFit (sym c.in_ok-rest.ensures.parts) c.requires.fit }

pub returns-clause-done : goal.returns-clause-done
returns-clause-done g c = λ l w well rest front behind.
    let s = transaction lists (origin_as c.args.origin) (work_of c.args.work lists) w in
    let first = c.in_ok-rest.ensures.done l w rest front behind in
    drain_then c.args.output.now c.transact.new.output w s (drain lists c.args.most s.0) (g.H.Host.view c.args.host.now) (g.H.Host.view c.transact.new.host) (g.H.Host.view c.drain.new.host)
    (c.in_ok-rest.ensures.counts l w rest front behind) c.drain.result (λ v k. IsAtRest g.H.Host.view g.K.Keep.holds g.K.Keep.live l v k c.drain.new.host) first.1 (c.drain.ensures.done l s.0 behind first.0)

pub returns-clause-counts : goal.returns-clause-counts
returns-clause-counts g c = λ l w well rest front behind.
    let s = transaction lists (origin_as c.args.origin) (work_of c.args.work lists) w in
    let first = c.in_ok-rest.ensures.done l w rest front behind in
    counted_then c.drain.result c.args.output.now c.transact.new.output c.drain.new.output s.1 (texts_of (drain lists c.args.most s.0)) (c.in_ok-rest.ensures.counts l w rest front behind)
    (c.drain.ensures.counts l s.0 behind first.0)

pub returns-clause-any_moment : goal.returns-clause-any_moment
returns-clause-any_moment g c = λ l w said more well rest front behind printed.
    let s = transaction lists (origin_as c.args.origin) (work_of c.args.work lists) w in
    let first = c.in_ok-rest.ensures.done l w rest front behind in
    drain_leaves c.args.output.now c.transact.new.output w s (drain lists c.args.most s.0) (g.H.Host.view c.args.host.now) (g.H.Host.view c.transact.new.host) (g.H.Host.view c.drain.new.host)
    (c.in_ok-rest.ensures.counts l w rest front behind) (HoldsBy l g.K.Keep.means) more said (c.transact.ensures.any_moment l w said well rest front behind printed)
    (c.drain.ensures.any_moment l s.0 (said ++ heard c.args.output.now.quiet s.1) more behind first.0 (first.1 said printed))

pub returns-clause-parts : goal.returns-clause-parts
returns-clause-parts g c = IfOk-weaker c.drain.result _ _ (λ r is. is ∙ c.in_ok-rest.ensures.parts) c.drain.ensures.parts

pub returns-clause-leaves : goal.returns-clause-leaves
returns-clause-leaves g c = host_calls_on _ _ _ _ _ _ _ (λ failed. cc (failed)) (λ failed. cc (failed)) c.in_ok-rest.ensures.leaves c.drain.ensures.leaves

pub returns-in_err-rest-clause-undamaged : goal.returns-in_err-rest-clause-undamaged
returns-in_err-rest-clause-undamaged g c =
    let Undamaged : Type 0 = (l : Language) (w : ListWorld) → IsWell l w → IsAtRest g.H.Host.view g.K.Keep.holds g.K.Keep.live l w c.args.rest c.args.host.now → IsFromFront c.args.origin w → w.bones.transaction < transaction_limit
    → IsWell l (transaction lists (origin_as c.args.origin) (work_of c.args.work lists) w).0 → ⊥ in
    damaged_before (Opened g.row.K.Denot) (Opened g.row.K.Denot × ℕ) c.from_residual.result c.in_err-rest.field-0.0 (search rules) Undamaged Undamaged (λ damaged. damaged) c.in_err-rest.ensures.undamaged

pub returns-clause-undamaged : goal.returns-clause-undamaged
returns-clause-undamaged g c =
    let Before : Type 0 = (l : Language) (w : ListWorld) → IsWell l w → IsAtRest g.H.Host.view g.K.Keep.holds g.K.Keep.live l w c.in_ok-rest.rest c.transact.new.host → ⊥ in
    let Undamaged : Type 0 = (l : Language) (w : ListWorld) → IsWell l w → IsAtRest g.H.Host.view g.K.Keep.holds g.K.Keep.live l w c.args.rest c.args.host.now → IsFromFront c.args.origin w → w.bones.transaction < transaction_limit
    → IsWell l (transaction lists (origin_as c.args.origin) (work_of c.args.work lists) w).0 → ⊥ in
    damaged_so c.drain.result Before Undamaged (λ damaged l w well rest front left behind.
    damaged l (transaction lists (origin_as c.args.origin) (work_of c.args.work lists) w).0 behind (c.in_ok-rest.ensures.done l w rest front behind).0)
    c.drain.ensures.undamaged

pub returns-in_err-rest-clause-grown : goal.returns-in_err-rest-clause-grown
returns-in_err-rest-clause-grown g c = c.transact.ensures.grown

pub returns-clause-grown : goal.returns-clause-grown
returns-clause-grown g c = grown_then c.args.log.now c.transact.new.log c.drain.new.log c.transact.ensures.grown c.drain.ensures.grown

pub returns-clause-logs : goal.returns-clause-logs
returns-clause-logs g c = λ l w entries rest front disk behind.
    let s = transaction lists (origin_as c.args.origin) (work_of c.args.work lists) w in
    let first = c.in_ok-rest.ensures.done l w rest front behind in
    logs_on g.K.Keep.means l c.drain.result w entries (s ∷ []) (drain lists c.args.most s.0) c.args.log.now c.transact.new.log c.drain.new.log (g.H.Host.view c.transact.new.host) (g.H.Host.view c.drain.new.host)
    (c.in_ok-rest.ensures.logs l w entries rest front disk behind) (λ m has. c.drain.ensures.logs l s.0 m behind first.0 has)
