use Rattle.std.proofs.Common.{rules, Err, ℕ, List, ap, length, refl, ◌≡◌, ◌∙◌, ◌<◌, sym, subst}
use Rattle.std.proofs.lemmas.Result.{IfOk-weaker, err_from_is_err_and}
use Rattle.ode_change.proofs.Taken.{taken_over, taken_rests, text_taken}
use Rattle.ode_change.proofs.taking.take_in.Goals as goal
use Rattle.ode_changed_laws.specs.Records.{with_counters}
use Rattle.ode_codec.specs.declared.record.Counters.{Counters}
use Rattle.ode_declare.proofs.TakeLaws.{damaged_as, parts_alone, parts_kept}
use Rattle.ode_schema.specs.Parts.{AreAligned, AreFit, places_from}
use Rattle.ode_host.proofs.Calls.{rose_none}
use Rattle.ode_host.proofs.Moments.{looks_none}
use Rattle.ode_keep.specs.Entries.{applied}
use Rattle.ode_machine.specs.Moments.{LeavesSettling}
use Rattle.ode_machine.specs.Works.{changes_class}
use Rattle.ode_opened.specs.declared.opened.Opened.{Opened}
use Rattle.ode_transact.proofs.DamageLaws.{damaged_so}
use Rattle.ode_transact.proofs.EndingLaws.{batch_leaves, before_leaves, fails_as, looks_leave, printed_behind}
use Rattle.ode_transact.proofs.LogLaws.{held_disk, logs_settled}
use Rattle.ode_transact.proofs.OutputLaws.{counted_as}
use Rattle.ode_transact.proofs.RecordLaws.{records_are_light}
use Rattle.ode_transact.specs.Output.{heard, heard_of}
use Rattle.ode_transact.specs.Resting.{HoldsBy, resting_parts}
use Rattle.ode_value.specs.Limits.{transaction_limit}
use Rattle.ode_value.specs.Pasts.{lists}
use Rattle.ode_value.specs.Settling.{transaction}
use Rattle.ode_value.specs.Transactions.{Script}

-- ---- before it is handed over nothing is done

pub returns-in_err-gathered-clause-any_moment : goal.returns-in_err-gathered-clause-any_moment
returns-in_err-gathered-clause-any_moment g c = λ l w classes said well is taken behind printed.
    let s = heard_of c.args.output.now.quiet (transaction lists Script (changes_class lists classes c.args.change.now) w) in
    looks_leave _ _ (LeavesSettling (HoldsBy l g.K.Keep.means) w s.0 said s.1)
    (before_leaves l g.K.Keep.means is.entries w s.0 said s.1 _ (g.met.K.Keep.stands c.args.rest.keeper c.args.host.now is.entries is.records) (g.met.H.Host.text_stands c.args.host.now) printed is.world well.ones)
    (looks_none _)

pub returns-in_err-gathered-clause-leaves : goal.returns-in_err-gathered-clause-leaves
returns-in_err-gathered-clause-leaves g c =
    let p = err_from_is_err_and c.from_residual.result c.from_residual.ensures.1 in
    let same : c.from_residual.result ≡ Err c.in_err-gathered.field-0.0 = rw (p.1, p.2) refl in
    fails_as c.gather.result c.from_residual.result c.in_err-gathered.field-0.0 _ _ (search rules) same (looks_none _) (rose_none _ _ c.gather.ensures.calm) c.gather.ensures.silent

pub returns-in_err-gathered-clause-undamaged : goal.returns-in_err-gathered-clause-undamaged
returns-in_err-gathered-clause-undamaged g c =
    let p = err_from_is_err_and c.from_residual.result c.from_residual.ensures.1 in
    let same : c.from_residual.result ≡ Err c.in_err-gathered.field-0.0 = rw (p.1, p.2) refl in
    damaged_as c.gather.result c.from_residual.result c.in_err-gathered.field-0.0 _ _ (search rules) same c.gather.ensures.undamaged (λ damaged l w classes is taken left few over behind.
    damaged (subst (λ (k : Counters). k.next_transaction < transaction_limit) (sym taken.counters) left) few)

pub returns-in_err-after-clause-any_moment : goal.returns-in_err-after-clause-any_moment
returns-in_err-after-clause-any_moment g c = λ l w classes said well is taken behind printed.
    let s = heard_of c.args.output.now.quiet (transaction lists Script (changes_class lists classes c.args.change.now) w) in
    looks_leave _ _ (LeavesSettling (HoldsBy l g.K.Keep.means) w s.0 said s.1)
    (before_leaves l g.K.Keep.means is.entries w s.0 said s.1 _ (g.met.K.Keep.stands c.args.rest.keeper c.args.host.now is.entries is.records) (g.met.H.Host.text_stands c.args.host.now) printed is.world well.ones)
    (looks_none _)

pub returns-in_err-after-clause-leaves : goal.returns-in_err-after-clause-leaves
returns-in_err-after-clause-leaves g c =
    let p = err_from_is_err_and c.from_residual-in_err-after.result c.from_residual-in_err-after.ensures.1 in
    let same : c.from_residual-in_err-after.result ≡ Err c.in_err-after.field-0.0 = rw (p.1, p.2) refl in
    fails_as c.with_classes.result c.from_residual-in_err-after.result c.in_err-after.field-0.0 _ _ (search rules) same (looks_none _) (rose_none _ _ c.with_classes.ensures.calm) c.with_classes.ensures.silent

pub returns-in_err-after-clause-undamaged : goal.returns-in_err-after-clause-undamaged
returns-in_err-after-clause-undamaged g c =
    let p = err_from_is_err_and c.from_residual-in_err-after.result c.from_residual-in_err-after.ensures.1 in
    let same : c.from_residual-in_err-after.result ≡ Err c.in_err-after.field-0.0 = rw (p.1, p.2) refl in
    damaged_as c.with_classes.result c.from_residual-in_err-after.result c.in_err-after.field-0.0 _ _ (search rules) same c.with_classes.ensures.undamaged (λ damaged l w classes is taken left few over behind. damaged over)

-- ---- then it is

pub returns-clause-done : goal.returns-clause-done
returns-clause-done g c = λ l w classes is taken well.
    let change = c.args.change.now in
    let s = transaction lists Script (changes_class lists classes change) w in
    let made = c.in_ok-after.ensures in
    let gathered = c.in_ok-gathered.ensures in
    let own = c.known_changes_settle.ensures l is.entries w is.world change classes taken.behind taken.few c.as_bytes-name.ensures.name.short taken.light in
    let put = gathered.batch ∙ ap (λ (n : ℕ). with_counters c.args.counters n c.args.batch) c.len.ensures in
    let over = taken_over l w change classes c.args.counters c.args.behind.classes (length c.args.behind.added) c.args.batch c.args.bytes taken is.world.world.stored.tables is.entries s c.in_ok-gathered.gathered.batch put own in
    let text = c.as_slice.ensures ∙ text_taken l w change classes c.args.counters c.args.behind.classes (length c.args.behind.added) c.args.batch c.args.bytes taken c.in_ok-gathered.gathered.text gathered.text ∙ sym over.prints in (
      taken_rests g.H.Host.view g.K.Keep.holds g.K.Keep.live l w change classes c.args.rest c.in_ok-after.after c.args.host.now c.settle.new.host is c.requires.aligned taken.behind
          (made.classes ∙ taken.classes) made.tables (made.maps ∙ ap (places_from 0) (sym made.classes)) c.settle.result c.in_ok-gathered.gathered.batch s over well.good (made.bytes ∙ taken.weighs)
          (subst (λ k. g.K.Keep.holds k (g.H.Host.view c.args.host.now) is.entries) (sym made.keeper) is.records) made.fit c.settle.ensures.same c.settle.ensures.done c.settle.ensures.usable,
      printed_behind c.settle.result _ _ (g.H.Host.view c.args.host.now) (g.H.Host.view c.args.host.now) (g.H.Host.view c.settle.new.host) (looks_none _) (ap (λ (said : List ℕ). heard c.args.output.now.quiet said) text) c.settle.ensures.printed,
    )

pub returns-clause-counts : goal.returns-clause-counts
returns-clause-counts g c = λ l w classes is taken well.
    let change = c.args.change.now in
    let s = transaction lists Script (changes_class lists classes change) w in
    let gathered = c.in_ok-gathered.ensures in
    let own = c.known_changes_settle.ensures l is.entries w is.world change classes taken.behind taken.few c.as_bytes-name.ensures.name.short taken.light in
    let put = gathered.batch ∙ ap (λ (n : ℕ). with_counters c.args.counters n c.args.batch) c.len.ensures in
    let over = taken_over l w change classes c.args.counters c.args.behind.classes (length c.args.behind.added) c.args.batch c.args.bytes taken is.world.world.stored.tables is.entries s c.in_ok-gathered.gathered.batch put own in
    let text = c.as_slice.ensures ∙ text_taken l w change classes c.args.counters c.args.behind.classes (length c.args.behind.added) c.args.batch c.args.bytes taken c.in_ok-gathered.gathered.text gathered.text ∙ sym over.prints in
    counted_as c.settle.result c.args.output.now c.settle.new.output _ _ text c.settle.ensures.counts

pub returns-clause-any_moment : goal.returns-clause-any_moment
returns-clause-any_moment g c = λ l w classes said well is taken behind printed.
    let change = c.args.change.now in
    let s = transaction lists Script (changes_class lists classes change) w in
    let now = heard_of c.args.output.now.quiet s in
    let made = c.in_ok-after.ensures in
    let gathered = c.in_ok-gathered.ensures in
    let own = c.known_changes_settle.ensures l is.entries w is.world change classes taken.behind taken.few c.as_bytes-name.ensures.name.short taken.light in
    let put = gathered.batch ∙ ap (λ (n : ℕ). with_counters c.args.counters n c.args.batch) c.len.ensures in
    let over = taken_over l w change classes c.args.counters c.args.behind.classes (length c.args.behind.added) c.args.batch c.args.bytes taken is.world.world.stored.tables is.entries s c.in_ok-gathered.gathered.batch put own in
    let text = c.as_slice.ensures ∙ text_taken l w change classes c.args.counters c.args.behind.classes (length c.args.behind.added) c.args.batch c.args.bytes taken c.in_ok-gathered.gathered.text gathered.text ∙ sym over.prints in
    batch_leaves l g.K.Keep.means is.entries c.in_ok-gathered.gathered.batch w now.0 said _ now.1 _ _ is.world well.ones (over.holds behind.good).held behind.ones (ap (λ (heard_text : List ℕ). heard c.args.output.now.quiet heard_text) text)
    (c.settle.ensures.any_moment is.entries said (subst (λ k. g.K.Keep.holds k (g.H.Host.view c.args.host.now) is.entries) (sym made.keeper) is.records) printed)

pub returns-clause-fit : goal.returns-clause-fit
returns-clause-fit g c = parts_kept AreFit c.settle.result (resting_parts c.in_ok-after.after) c.in_ok-after.ensures.fit (parts_alone c.settle.result _ _ c.settle.ensures.same)

pub returns-clause-aligned : goal.returns-clause-aligned
returns-clause-aligned g c = parts_kept AreAligned c.settle.result (resting_parts c.in_ok-after.after) c.in_ok-after.ensures.aligned (parts_alone c.settle.result _ _ c.settle.ensures.same)

pub returns-clause-undamaged : goal.returns-clause-undamaged
returns-clause-undamaged g c = damaged_so c.settle.result _ _ (λ damaged l w classes is taken left few fits behind.
    let change = c.args.change.now in
    let s = transaction lists Script (changes_class lists classes change) w in
    let made = c.in_ok-after.ensures in
    let gathered = c.in_ok-gathered.ensures in
    let own = c.known_changes_settle.ensures l is.entries w is.world change classes taken.behind taken.few c.as_bytes-name.ensures.name.short taken.light in
    let put = gathered.batch ∙ ap (λ (n : ℕ). with_counters c.args.counters n c.args.batch) c.len.ensures in
    let over = taken_over l w change classes c.args.counters c.args.behind.classes (length c.args.behind.added) c.args.batch c.args.bytes taken is.world.world.stored.tables is.entries s c.in_ok-gathered.gathered.batch put own in
    damaged is.entries (subst (λ k. g.K.Keep.holds k (g.H.Host.view c.args.host.now) is.entries) (sym made.keeper) is.records)
    (records_are_light l (applied c.in_ok-gathered.gathered.batch is.entries) s.0 (over.holds behind.good).held.world)) c.settle.ensures.undamaged

pub returns-clause-logs : goal.returns-clause-logs
returns-clause-logs g c = λ l w classes entries is taken disk well.
    let change = c.args.change.now in
    let s = transaction lists Script (changes_class lists classes change) w in
    let made = c.in_ok-after.ensures in
    let gathered = c.in_ok-gathered.ensures in
    let own = c.known_changes_settle.ensures l is.entries w is.world change classes taken.behind taken.few c.as_bytes-name.ensures.name.short taken.light in
    let put = gathered.batch ∙ ap (λ (n : ℕ). with_counters c.args.counters n c.args.batch) c.len.ensures in
    let over = taken_over l w change classes c.args.counters c.args.behind.classes (length c.args.behind.added) c.args.batch c.args.bytes taken is.world.world.stored.tables is.entries s c.in_ok-gathered.gathered.batch put own in
    let same = held_disk g.H.Host.view g.K.Keep.holds g.K.Keep.means g.met.K.Keep.stands g.met.K.Keep.one_map c.args.rest.keeper c.args.host.now is.entries entries is.records disk in
    logs_settled g.H.Host.view g.K.Keep.holds g.K.Keep.means g.met.K.Keep.stands g.met.K.Keep.one_map (λ (o : Opened g.row.K.Denot). o.keeper) c.settle.result l w s.0 s.1 entries is.entries c.in_ok-gathered.gathered.number c.in_ok-gathered.gathered.batch
    c.args.log.now c.settle.new.log c.settle.new.host same (gathered.number ∙ ap (λ (k : Counters). k.next_transaction) taken.counters) ((over.holds well.good).held.world, well.ones) c.settle.ensures.kept
    (IfOk-weaker c.settle.result _ _ (λ after keeps. keeps is.entries (subst (λ k. g.K.Keep.holds k (g.H.Host.view c.args.host.now) is.entries) (sym made.keeper) is.records)) c.settle.ensures.done)
