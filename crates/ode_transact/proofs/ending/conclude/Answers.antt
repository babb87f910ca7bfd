use Rattle.std.proofs.Common.{◌∙◌, ◌++◌, ◌≤◌, ℕ, List, Option, ap, sym}
use Rattle.std.proofs.lemmas.Result.{IfOk-weaker}
use Rattle.ode_keep.specs.Entries.{Entries, applied, record_bytes}
use Rattle.ode_keep.specs.declared.limits.TheConstants.{MAX_PAGED_BYTES}
use Rattle.ode_good_laws.specs.Well.{IsWell}
use Rattle.ode_opened.specs.declared.opened.Opened.{Opened}
use Rattle.ode_transact.proofs.DamageLaws.{damaged_so}
use Rattle.ode_transact.proofs.EndingLaws.{batch_leaves, ends_at_rest, printed_as}
use Rattle.ode_transact.proofs.LogLaws.{held_disk, logs_settled}
use Rattle.ode_transact.proofs.OutputLaws.{counted_as}
use Rattle.ode_transact.proofs.RecordLaws.{records_are_light}
use Rattle.ode_transact.specs.Output.{heard}
use Rattle.ode_transact.specs.Preparing.{IsPrepared}
use Rattle.ode_transact.specs.Working.{settled_by}
use Rattle.ode_value.specs.Language.{Language, ListTx, ListWorld}
use Rattle.ode_value.specs.declared.reason.Reason.{Reason}
use Rattle.ode_transact.proofs.ending.conclude.Goals as goal

pub returns-clause-done : goal.returns-clause-done
returns-clause-done g c = λ l w t ending is well.
    let s = settled_by ending t in
    ends_at_rest g.H.Host.view g.K.Keep.holds g.K.Keep.live l w t s is.ran c.args.ctx is.there c.args.host.now c.close.new.host is.runs is.context c.args.prepared.batch _ is.over is.parts well c.close.result
    c.close.ensures.done c.close.ensures.parts c.close.ensures.bytes c.close.ensures.usable

pub returns-clause-printed : goal.returns-clause-printed
returns-clause-printed g c = λ l w t ending is.
    let line = c.as_slice.ensures ∙ is.lined in
    printed_as c.close.result _ _ (g.H.Host.view c.args.host.now) (g.H.Host.view c.close.new.host)
    (ap (λ (text : List ℕ). heard c.args.output.now.quiet text) (ap (λ (b : List ℕ). c.args.ctx.text ++ b) line ∙ sym is.over.prints)) c.close.ensures.printed

pub returns-clause-counts : goal.returns-clause-counts
returns-clause-counts g c = λ l w t ending is.
    let line = c.as_slice.ensures ∙ is.lined in
    counted_as c.close.result c.args.output.now c.close.new.output _ _ (ap (λ (b : List ℕ). c.args.ctx.text ++ b) line ∙ sym is.over.prints) c.close.ensures.counts

pub returns-clause-any_moment : goal.returns-clause-any_moment
returns-clause-any_moment g c = λ l w t ending said well is behind printed.
    let s = settled_by ending t in
    let line = c.as_slice.ensures ∙ is.lined in
    batch_leaves l g.K.Keep.means is.runs.entries c.args.prepared.batch w s.0 said _ (heard c.args.output.now.quiet s.1) (g.H.Host.view c.args.host.now) (g.H.Host.view c.close.new.host)
    is.runs.world well.ones (is.over.holds behind.good).held behind.ones
    (ap (λ (text : List ℕ). heard c.args.output.now.quiet text) (ap (λ (b : List ℕ). c.args.ctx.text ++ b) line ∙ sym is.over.prints))
    (c.close.ensures.any_moment is.runs.entries said is.context.state.records printed)

pub returns-clause-undamaged : goal.returns-clause-undamaged
returns-clause-undamaged g c =
    let Before : Type 0 = (entries : Entries) → g.K.Keep.holds c.args.ctx.heap (g.H.Host.view c.args.host.now) entries → record_bytes (applied c.args.prepared.batch entries) ≤ MAX_PAGED_BYTES → ⊥ in
    let Undamaged : Type 0 = (l : Language) (w : ListWorld) (t : ListTx) (ending : Option Reason)
    → IsPrepared g.H.Host.view g.K.Keep.holds g.K.Keep.live l w t ending c.args.prepared.number c.args.prepared.line c.args.prepared.batch c.args.ctx c.args.host.now → IsWell l (settled_by ending t).0 → ⊥ in
    damaged_so c.close.result Before Undamaged (λ damaged l w t ending is well.
    damaged is.runs.entries is.context.state.records
    (records_are_light l (applied c.args.prepared.batch is.runs.entries) (settled_by ending t).0 (is.over.holds well.good).held.world))
    c.close.ensures.undamaged

pub returns-clause-logs : goal.returns-clause-logs
returns-clause-logs g c = λ l w t ending entries is well disk.
    let s = settled_by ending t in
    let records = held_disk g.H.Host.view g.K.Keep.holds g.K.Keep.means g.met.K.Keep.stands g.met.K.Keep.one_map c.args.ctx.heap c.args.host.now is.runs.entries entries is.context.state.records disk in
    logs_settled g.H.Host.view g.K.Keep.holds g.K.Keep.means g.met.K.Keep.stands g.met.K.Keep.one_map (λ (rest : Opened g.row.K.Denot). rest.keeper) c.close.result l w s.0 s.1 entries is.runs.entries c.args.prepared.number c.args.prepared.batch
    c.args.log.now c.close.new.log c.close.new.host records is.numbered ((is.over.holds well.good).held.world, well.ones) c.close.ensures.kept
    (IfOk-weaker c.close.result _ _ (λ rest keeps. keeps is.runs.entries is.context.state.records) c.close.ensures.done)
