use Rattle.std.proofs.Common.{rules, Err, ℕ, List, ap, refl, ◌≡◌, ◌∙◌, sym}
use Rattle.std.proofs.lemmas.Result.{IfOk-weaker, err_from_is_err_and}
use Rattle.ode_transact.proofs.DamageLaws.{damaged_so}
use Rattle.ode_transact.proofs.RecordLaws.{records_are_light}
use Rattle.ode_declare.proofs.TakeLaws.{damaged_as, parts_alone, parts_kept, taken_rests}
use Rattle.ode_declare.proofs.taking.take_in.Goals as goal
use Rattle.ode_schema.specs.Parts.{AreAligned, AreFit}
use Rattle.ode_host.proofs.Moments.{joined}
use Rattle.ode_keep.specs.Entries.{applied}
use Rattle.ode_machine.specs.Moments.{LeavesSettling}
use Rattle.ode_machine.specs.Works.{declares}
use Rattle.ode_opened.specs.declared.opened.Opened.{Opened}
use Rattle.ode_transact.proofs.EndingLaws.{batch_leaves, before_leaves, fails_as, looks_leave, looks_then, none_rose, printed_behind}
use Rattle.ode_transact.proofs.LogLaws.{disk_looks, held_disk, logs_settled}
use Rattle.ode_transact.proofs.OutputLaws.{counted_as}
use Rattle.ode_transact.specs.Output.{heard, heard_of}
use Rattle.ode_transact.specs.Resting.{HoldsBy, resting_parts}
use Rattle.ode_value.specs.Pasts.{lists}
use Rattle.ode_value.specs.Settling.{transaction}
use Rattle.ode_value.specs.Transactions.{Script}

pub returns-in_err-prepared-clause-any_moment : goal.returns-in_err-prepared-clause-any_moment
returns-in_err-prepared-clause-any_moment g c = λ l w d said well is taken behind printed.
    let s = heard_of c.args.output.now.quiet (transaction lists Script (declares d) w) in
    looks_leave _ _ (LeavesSettling (HoldsBy l g.K.Keep.means) w s.0 said s.1)
    (before_leaves l g.K.Keep.means is.entries w s.0 said s.1 _ (g.met.K.Keep.stands c.args.rest.keeper c.args.host.now is.entries is.records) (g.met.H.Host.text_stands c.args.host.now) printed is.world well.ones)
    c.prepare.ensures.looks

pub returns-in_err-prepared-clause-leaves : goal.returns-in_err-prepared-clause-leaves
returns-in_err-prepared-clause-leaves g c =
    let p = err_from_is_err_and c.from_residual.result c.from_residual.ensures.1 in
    let same : c.from_residual.result ≡ Err c.in_err-prepared.field-0.0 = rw (p.1, p.2) refl in
    fails_as c.prepare.result c.from_residual.result c.in_err-prepared.field-0.0 _ _ (search rules) same c.prepare.ensures.looks c.prepare.ensures.cause c.prepare.ensures.silent

pub returns-clause-done : goal.returns-clause-done
returns-clause-done g c = λ l w d is taken well.
    let s = transaction lists Script (declares d) w in
    let made = c.in_ok-prepared.ensures in
    let over = made.settles l w d is taken in (
      taken_rests g.H.Host.view g.K.Keep.holds g.K.Keep.live c.settle.result l w d c.args.made c.args.rest c.in_ok-prepared.prepared.0 c.args.host.now c.prepare.new.host c.settle.new.host is.entries c.in_ok-prepared.prepared.1.batch s is
          taken.class made.parts (made.bytes ∙ taken.weighs) over.0 well.good (made.holds l w is) made.fit.0 c.settle.ensures.same c.settle.ensures.done c.settle.ensures.usable,
      printed_behind c.settle.result _ _ (g.H.Host.view c.args.host.now) (g.H.Host.view c.prepare.new.host) (g.H.Host.view c.settle.new.host) c.prepare.ensures.looks (ap (λ (text : List ℕ). heard c.args.output.now.quiet text) (c.as_slice.ensures ∙ over.2 ∙ sym over.0.prints)) c.settle.ensures.printed,
    )

pub returns-clause-counts : goal.returns-clause-counts
returns-clause-counts g c = λ l w d is taken well.
    let over = c.in_ok-prepared.ensures.settles l w d is taken in
    counted_as c.settle.result c.args.output.now c.settle.new.output _ _ (c.as_slice.ensures ∙ over.2 ∙ sym over.0.prints) c.settle.ensures.counts

pub returns-clause-any_moment : goal.returns-clause-any_moment
returns-clause-any_moment g c = λ l w d said well is taken behind printed.
    let s = heard_of c.args.output.now.quiet (transaction lists Script (declares d) w) in
    let made = c.in_ok-prepared.ensures in
    let over = made.settles l w d is taken in
    joined _ _ _ (LeavesSettling (HoldsBy l g.K.Keep.means) w s.0 said s.1)
    (looks_leave _ _ (LeavesSettling (HoldsBy l g.K.Keep.means) w s.0 said s.1)
    (before_leaves l g.K.Keep.means is.entries w s.0 said s.1 _ (g.met.K.Keep.stands c.args.rest.keeper c.args.host.now is.entries is.records) (g.met.H.Host.text_stands c.args.host.now) printed is.world well.ones)
    c.prepare.ensures.looks)
    (batch_leaves l g.K.Keep.means is.entries c.in_ok-prepared.prepared.1.batch w s.0 said _ s.1 _ _ is.world well.ones (over.0.holds behind.good).held behind.ones (ap (λ (text : List ℕ). heard c.args.output.now.quiet text) (c.as_slice.ensures ∙ over.2 ∙ sym over.0.prints))
    (c.settle.ensures.any_moment is.entries said (made.holds l w is) (c.prepare.ensures.looks.text ∙ printed)))

pub returns-clause-leaves : goal.returns-clause-leaves
returns-clause-leaves g c = looks_then _ _ _ _ _ c.prepare.ensures.looks (none_rose _ _ _ (λ failed. cc (failed)) c.in_ok-prepared.ensures.cause) c.settle.ensures.leaves

pub returns-clause-fit : goal.returns-clause-fit
returns-clause-fit g c = parts_kept AreFit c.settle.result (resting_parts c.in_ok-prepared.prepared.0) c.in_ok-prepared.ensures.fit.0 (parts_alone c.settle.result _ _ c.settle.ensures.same)

pub returns-clause-aligned : goal.returns-clause-aligned
returns-clause-aligned g c = parts_kept AreAligned c.settle.result (resting_parts c.in_ok-prepared.prepared.0) c.in_ok-prepared.ensures.fit.1 (parts_alone c.settle.result _ _ c.settle.ensures.same)

pub returns-clause-usable : goal.returns-clause-usable
returns-clause-usable g c = c.settle.ensures.usable

pub returns-in_err-prepared-clause-undamaged : goal.returns-in_err-prepared-clause-undamaged
returns-in_err-prepared-clause-undamaged g c =
    let p = err_from_is_err_and c.from_residual.result c.from_residual.ensures.1 in
    let same : c.from_residual.result ≡ Err c.in_err-prepared.field-0.0 = rw (p.1, p.2) refl in
    damaged_as c.prepare.result c.from_residual.result c.in_err-prepared.field-0.0 _ _ (search rules) same c.prepare.ensures.undamaged (λ damaged l w d is taken left few behind. damaged l w is left few)

pub returns-clause-undamaged : goal.returns-clause-undamaged
returns-clause-undamaged g c = damaged_so c.settle.result _ _ (λ damaged l w d is taken left few behind.
    let s = transaction lists Script (declares d) w in
    let made = c.in_ok-prepared.ensures in
    let over = made.settles l w d is taken in
    damaged is.entries (made.holds l w is) (records_are_light l (applied c.in_ok-prepared.prepared.1.batch is.entries) s.0 (over.0.holds behind.good).held.world)) c.settle.ensures.undamaged

pub returns-clause-logs : goal.returns-clause-logs
returns-clause-logs g c = λ l w d entries is taken disk well.
    let s = transaction lists Script (declares d) w in
    let over = c.in_ok-prepared.ensures.settles l w d is taken in
    let holds = c.in_ok-prepared.ensures.holds l w is in
    let same = held_disk g.H.Host.view g.K.Keep.holds g.K.Keep.means g.met.K.Keep.stands g.met.K.Keep.one_map c.in_ok-prepared.prepared.0.keeper c.prepare.new.host is.entries entries holds
    (disk_looks g.K.Keep.means entries _ _ c.prepare.ensures.looks disk) in
    logs_settled g.H.Host.view g.K.Keep.holds g.K.Keep.means g.met.K.Keep.stands g.met.K.Keep.one_map (λ (o : Opened g.row.K.Denot). o.keeper) c.settle.result l w s.0 s.1 entries is.entries c.in_ok-prepared.prepared.1.number c.in_ok-prepared.prepared.1.batch
    c.args.log.now c.settle.new.log c.settle.new.host same over.1 ((over.0.holds well.good).held.world, well.ones) c.settle.ensures.kept
    (IfOk-weaker c.settle.result _ _ (λ after keeps. keeps is.entries holds) c.settle.ensures.done)
