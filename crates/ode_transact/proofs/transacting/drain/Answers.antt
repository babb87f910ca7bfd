use Rattle.std.proofs.Common.{rules, ◌∙◌, ◌<◌, ℕ, Option, arith, refl, sym}
use Rattle.ode_codec.specs.declared.record.Entry as stored
use Rattle.ode_good_laws.specs.Well.{IsWell}
use Rattle.ode_host.proofs.Calls.{host_calls_as, host_calls_on}
use Rattle.ode_host.proofs.Moments.{looks_none}
use Rattle.ode_opened.specs.declared.opened.Opened.{Opened}
use Rattle.ode_overlay.specs.declared.origin.Origin.TheVariants as from
use Rattle.ode_transact.proofs.BeginLaws.{damaged_before, still_left}
use Rattle.ode_transact.proofs.DrainSteps.{calls_look, calls_none, drain_counts, drain_ends, drain_left, drain_logs, drain_looks, drained_all, front_well, logged_goes, logged_starts, one_left, settled_entry}
use Rattle.ode_transact.proofs.EndingLaws.{calls_as, fails_as, none_rose}
use Rattle.ode_transact.proofs.FrontLaws.{front_left, next_runs, no_next}
use Rattle.ode_transact.proofs.LogLaws.{grown_none, grown_then, logs_looks, logs_more, logs_none}
use Rattle.ode_transact.proofs.transacting.drain.Goals as goal
use Rattle.ode_transact.specs.Resting.{IsAtRest}
use Rattle.ode_transact.specs.Working.{IsFromFront}
use Rattle.ode_value.specs.Language.{Language, ListWorld}
use Rattle.ode_value.specs.Limits.{transaction_limit}

pub entries-init : goal.entries-init
entries-init g c = record {
  logged = λ lang w well rest entries disk.
      logged_starts g.H.Host.view g.K.Keep.holds g.K.Keep.live g.K.Keep.means lang w c.args.rest c.args.host.now c.args.output.now c.args.most well rest entries c.args.log.now
      (logs_none g.K.Keep.means lang w entries c.args.log.now (g.H.Host.view c.args.host.now) disk);
  grown = grown_none c.args.log.now;
  few = omega arith;
  usable = c.requires.live;
  parts = refl;
  calls = calls_none (g.H.Host.view c.args.host.now);
}

pub returns-in_err-back-clause-any_moment : goal.returns-in_err-back-clause-any_moment
returns-in_err-back-clause-any_moment g c = λ l w said more well rest printed.
    drain_left g.H.Host.view g.K.Keep.holds g.K.Keep.live g.K.Keep.means g.met.K.Keep.stands g.met.H.Host.text_stands l w c.entries.rest c.args.host.now c.entries.host c.args.output.now c.entries.output c.args.most c.entries.ran
    (c.entries.invariant.logged l w well rest rest.entries (g.met.K.Keep.stands c.args.rest.keeper c.args.host.now rest.entries rest.records)).so c.next_entry.new.host c.next_entry.ensures.looks said more printed

pub returns-in_err-back-clause-leaves : goal.returns-in_err-back-clause-leaves
returns-in_err-back-clause-leaves g c =
    host_calls_on ⊥ ⊥ _ _ _ _ _ (λ none. none) (λ none. none) c.entries.invariant.calls
    (fails_as c.next_entry.result c.from_residual.result c.in_err-back.field-0.0 _ _ (search rules) (search rules) c.next_entry.ensures.looks c.next_entry.ensures.cause c.next_entry.ensures.silent)

pub returns-in-None-clause-done : goal.returns-in-None-clause-done
returns-in-None-clause-done g c = λ l w well rest.
    let so = (c.entries.invariant.logged l w well rest rest.entries (g.met.K.Keep.stands c.args.rest.keeper c.args.host.now rest.entries rest.records)).so in
    let next = c.in_ok-back.ensures.is l so.now so.rest in
    let on = drain_looks g.H.Host.view g.K.Keep.holds g.K.Keep.live g.K.Keep.means g.met.K.Keep.stands g.met.H.Host.text_stands l w c.entries.rest c.args.host.now c.entries.host c.args.output.now c.entries.output c.args.most c.entries.ran so
    c.in_ok-back.back c.next_entry.new.host c.next_entry.ensures.looks next.0 in
    let ends = drain_ends g.H.Host.view g.K.Keep.holds g.K.Keep.live g.K.Keep.means l w c.in_ok-back.back c.args.host.now c.next_entry.new.host c.args.output.now c.entries.output c.args.most c.entries.ran on (no_next so.now _ (sym c.in-None.is ∙ next.1)) in
    ((ends.0, ends.1), ends.2)

pub returns-in-None-clause-counts : goal.returns-in-None-clause-counts
returns-in-None-clause-counts g c = λ l w well rest.
    let so = (c.entries.invariant.logged l w well rest rest.entries (g.met.K.Keep.stands c.args.rest.keeper c.args.host.now rest.entries rest.records)).so in
    let next = c.in_ok-back.ensures.is l so.now so.rest in
    drain_counts g.H.Host.view g.K.Keep.holds g.K.Keep.live g.K.Keep.means l w c.entries.rest c.args.host.now c.entries.host c.args.output.now c.entries.output c.args.most c.entries.ran so (no_next so.now _ (sym c.in-None.is ∙ next.1))

pub returns-in-None-clause-any_moment : goal.returns-in-None-clause-any_moment
returns-in-None-clause-any_moment g c = λ l w said more well rest printed.
    drain_left g.H.Host.view g.K.Keep.holds g.K.Keep.live g.K.Keep.means g.met.K.Keep.stands g.met.H.Host.text_stands l w c.entries.rest c.args.host.now c.entries.host c.args.output.now c.entries.output c.args.most c.entries.ran
    (c.entries.invariant.logged l w well rest rest.entries (g.met.K.Keep.stands c.args.rest.keeper c.args.host.now rest.entries rest.records)).so c.next_entry.new.host c.next_entry.ensures.looks said more printed

pub returns-in-None-clause-leaves : goal.returns-in-None-clause-leaves
returns-in-None-clause-leaves g c =
    host_calls_as ⊥ ⊥ _ _ _ _ absurd (λ failed. cc (failed)) absurd (λ failed. cc (failed))
    (calls_look _ _ (g.H.Host.view c.next_entry.new.host) c.entries.invariant.calls c.next_entry.ensures.looks (none_rose _ _ _ (λ failed. cc (failed)) c.in_ok-back.ensures.cause))

pub returns-in_err-rest-in-Some-clause-any_moment : goal.returns-in_err-rest-in-Some-clause-any_moment
returns-in_err-rest-in-Some-clause-any_moment g c = λ l w said more well rest printed.
    let so = (c.entries.invariant.logged l w well rest rest.entries (g.met.K.Keep.stands c.args.rest.keeper c.args.host.now rest.entries rest.records)).so in
    let next = c.in_ok-back.ensures.is l so.now so.rest in
    let on = drain_looks g.H.Host.view g.K.Keep.holds g.K.Keep.live g.K.Keep.means g.met.K.Keep.stands g.met.H.Host.text_stands l w c.entries.rest c.args.host.now c.entries.host c.args.output.now c.entries.output c.args.most c.entries.ran so
    c.in_ok-back.back c.next_entry.new.host c.next_entry.ensures.looks next.0 in
    let front = next_runs so.now c.in-Some.number c.in-Some.entry (sym c.in-Some.is ∙ next.1) in
    let behind = front_well l so.now c.in-Some.number c.in-Some.entry front (λ most. c.transactions_leave_good_worlds.ensures.drain l most so.now so.well) in
    one_left g.H.Host.view g.K.Keep.holds g.K.Keep.live g.K.Keep.means g.met.K.Keep.stands g.met.H.Host.text_stands l w c.in_ok-back.back c.args.host.now c.next_entry.new.host c.args.output.now c.entries.output c.args.most c.entries.ran on
    c.in-Some.number c.in-Some.entry front c.entries-test.true (g.H.Host.view c.transact.new.host) said more printed
    (λ text is. c.transact.ensures.any_moment l so.now text so.well next.0 (front.e, front.more, front.front) behind is)

pub returns-in_err-rest-in-Some-clause-leaves : goal.returns-in_err-rest-in-Some-clause-leaves
returns-in_err-rest-in-Some-clause-leaves g c =
    host_calls_on ⊥ ⊥ _ _ _ _ _ (λ none. none) (λ none. none)
    (calls_look _ _ (g.H.Host.view c.next_entry.new.host) c.entries.invariant.calls c.next_entry.ensures.looks (none_rose _ _ _ (λ failed. cc (failed)) c.in_ok-back.ensures.cause))
    (calls_as c.transact.result c.from_residual-in_err-rest-in-Some.result c.in_err-rest-in-Some.field-0.0 _ _ (search rules) (search rules) c.transact.ensures.leaves)

pub entries-preserved : goal.entries-preserved
entries-preserved g c = record {
  logged = λ lang w well rest entries disk.
      let was = c.entries.invariant.logged lang w well rest entries disk in
      let so = was.so in
      let next = c.in_ok-back.ensures.is lang so.now so.rest in
      let on = drain_looks g.H.Host.view g.K.Keep.holds g.K.Keep.live g.K.Keep.means g.met.K.Keep.stands g.met.H.Host.text_stands lang w c.entries.rest c.args.host.now c.entries.host c.args.output.now c.entries.output c.args.most c.entries.ran so
      c.in_ok-back.back c.next_entry.new.host c.next_entry.ensures.looks next.0 in
      let front = next_runs so.now c.in-Some.number c.in-Some.entry (sym c.in-Some.is ∙ next.1) in
      let behind = front_well lang so.now c.in-Some.number c.in-Some.entry front (λ most. c.transactions_leave_good_worlds.ensures.drain lang most so.now so.well) in
      let done = c.in_ok-rest-in-Some.ensures.done lang so.now next.0 (front.e, front.more, front.front) behind in
      logged_goes g.H.Host.view g.K.Keep.holds g.K.Keep.live g.K.Keep.means g.met.K.Keep.stands g.met.H.Host.text_stands lang w c.in_ok-back.back c.args.host.now c.next_entry.new.host c.args.output.now c.entries.output c.args.most c.entries.ran on
      c.in-Some.number c.in-Some.entry front c.entries-test.true c.in_ok-rest-in-Some.rest c.transact.new.host c.transact.new.output behind done.0 done.1
      (c.in_ok-rest-in-Some.ensures.counts lang so.now next.0 (front.e, front.more, front.front) behind)
      (λ text is. c.in_ok-rest-in-Some.ensures.any_moment lang so.now text so.well next.0 (front.e, front.more, front.front) behind is) entries c.args.log.now c.transact.new.log
      (logs_more g.K.Keep.means lang w so.now entries so.settled _ c.args.log.now c.entries.log c.transact.new.log (g.H.Host.view c.next_entry.new.host) (g.H.Host.view c.transact.new.host) so.is.world
      (logs_looks g.K.Keep.means lang w entries so.settled c.args.log.now c.entries.log (g.H.Host.view c.entries.host) (g.H.Host.view c.next_entry.new.host) c.next_entry.ensures.looks was.logs)
      (λ m has. c.in_ok-rest-in-Some.ensures.logs lang so.now m next.0 (front.e, front.more, front.front) has behind));
  grown = grown_then c.args.log.now c.entries.log c.transact.new.log c.entries.invariant.grown c.transact.ensures.grown;
  few = let less = c.entries-test.true in omega (arith, less);
  usable = c.in_ok-rest-in-Some.ensures.usable;
  parts = c.in_ok-rest-in-Some.ensures.parts ∙ c.in_ok-back.ensures.parts ∙ c.entries.invariant.parts;
  calls =
      host_calls_on ⊥ ⊥ ⊥ ⊥ _ _ _ (λ none. none) (λ none. none)
      (calls_look _ _ (g.H.Host.view c.next_entry.new.host) c.entries.invariant.calls c.next_entry.ensures.looks (none_rose _ _ _ (λ failed. cc (failed)) c.in_ok-back.ensures.cause))
      (host_calls_as _ _ ⊥ ⊥ _ _ (λ failed. cc (failed)) absurd (λ failed. cc (failed)) absurd c.in_ok-rest-in-Some.ensures.leaves);
}

pub returns-clause-done : goal.returns-clause-done
returns-clause-done g c = λ l w well rest.
    let so = (c.entries.invariant.logged l w well rest rest.entries (g.met.K.Keep.stands c.args.rest.keeper c.args.host.now rest.entries rest.records)).so in
    let all = c.entries-test.false in
    let ends = drain_ends g.H.Host.view g.K.Keep.holds g.K.Keep.live g.K.Keep.means l w c.entries.rest c.args.host.now c.entries.host c.args.output.now c.entries.output c.args.most c.entries.ran so (drained_all c.args.most c.entries.ran so.now (omega (arith, all))) in
    ((ends.0, ends.1), ends.2)

pub returns-clause-counts : goal.returns-clause-counts
returns-clause-counts g c = λ l w well rest.
    let so = (c.entries.invariant.logged l w well rest rest.entries (g.met.K.Keep.stands c.args.rest.keeper c.args.host.now rest.entries rest.records)).so in
    let all = c.entries-test.false in
    drain_counts g.H.Host.view g.K.Keep.holds g.K.Keep.live g.K.Keep.means l w c.entries.rest c.args.host.now c.entries.host c.args.output.now c.entries.output c.args.most c.entries.ran so
    (drained_all c.args.most c.entries.ran so.now (omega (arith, all)))

pub returns-clause-any_moment : goal.returns-clause-any_moment
returns-clause-any_moment g c = λ l w said more well rest printed.
    drain_left g.H.Host.view g.K.Keep.holds g.K.Keep.live g.K.Keep.means g.met.K.Keep.stands g.met.H.Host.text_stands l w c.entries.rest c.args.host.now c.entries.host c.args.output.now c.entries.output c.args.most c.entries.ran
    (c.entries.invariant.logged l w well rest rest.entries (g.met.K.Keep.stands c.args.rest.keeper c.args.host.now rest.entries rest.records)).so c.entries.host (looks_none (g.H.Host.view c.entries.host)) said more printed

pub returns-clause-leaves : goal.returns-clause-leaves
returns-clause-leaves g c = host_calls_as ⊥ ⊥ _ _ _ _ absurd (λ failed. cc (failed)) absurd (λ failed. cc (failed)) c.entries.invariant.calls

pub returns-in_err-back-clause-undamaged : goal.returns-in_err-back-clause-undamaged
returns-in_err-back-clause-undamaged g c =
    let Before : Type 0 = (l : Language) (w : ListWorld) → IsAtRest g.H.Host.view g.K.Keep.holds g.K.Keep.live l w c.entries.rest c.entries.host → ⊥ in
    let Undamaged : Type 0 = (l : Language) (w : ListWorld) → IsWell l w → IsAtRest g.H.Host.view g.K.Keep.holds g.K.Keep.live l w c.args.rest c.args.host.now → ⊥ in
    damaged_before (Opened g.row.K.Denot × Option (ℕ × stored.Entry)) (Opened g.row.K.Denot × ℕ) c.from_residual.result c.in_err-back.field-0.0 (search rules) Before Undamaged
    (λ damaged l w well rest. let so = (c.entries.invariant.logged l w well rest rest.entries (g.met.K.Keep.stands c.args.rest.keeper c.args.host.now rest.entries rest.records)).so in damaged l so.now so.rest) c.in_err-back.ensures.undamaged

pub returns-in_err-rest-in-Some-clause-undamaged : goal.returns-in_err-rest-in-Some-clause-undamaged
returns-in_err-rest-in-Some-clause-undamaged g c =
    let Before : Type 0 = (l : Language) (w : ListWorld) → IsWell l w → IsAtRest g.H.Host.view g.K.Keep.holds g.K.Keep.live l w c.in_ok-back.back c.next_entry.new.host → IsFromFront (from.Entry c.in-Some.number c.in-Some.entry.generation) w → w.bones.transaction < transaction_limit
    → IsWell l (settled_entry w c.in-Some.number c.in-Some.entry).0 → ⊥ in
    let Undamaged : Type 0 = (l : Language) (w : ListWorld) → IsWell l w → IsAtRest g.H.Host.view g.K.Keep.holds g.K.Keep.live l w c.args.rest c.args.host.now → ⊥ in
    damaged_before (Opened g.row.K.Denot) (Opened g.row.K.Denot × ℕ) c.from_residual-in_err-rest-in-Some.result c.in_err-rest-in-Some.field-0.0 (search rules) Before Undamaged (λ damaged l w well rest.
    let so = (c.entries.invariant.logged l w well rest rest.entries (g.met.K.Keep.stands c.args.rest.keeper c.args.host.now rest.entries rest.records)).so in
    let next = c.in_ok-back.ensures.is l so.now so.rest in
    let front = next_runs so.now c.in-Some.number c.in-Some.entry (sym c.in-Some.is ∙ next.1) in
    let behind = front_well l so.now c.in-Some.number c.in-Some.entry front (λ most. c.transactions_leave_good_worlds.ensures.drain l most so.now so.well) in
    damaged l so.now so.well next.0 (front.e, front.more, front.front) (still_left so.now.bones.transaction (front_left so.now c.in-Some.number c.in-Some.entry front)) behind)
    c.in_err-rest-in-Some.ensures.undamaged

pub returns-in-None-clause-logs : goal.returns-in-None-clause-logs
returns-in-None-clause-logs g c = λ l w entries well rest disk.
    let was = c.entries.invariant.logged l w well rest entries disk in
    let so = was.so in
    let next = c.in_ok-back.ensures.is l so.now so.rest in
    drain_logs g.H.Host.view g.K.Keep.holds g.K.Keep.live g.K.Keep.means l w c.entries.rest c.args.host.now c.entries.host c.args.output.now c.entries.output c.args.most c.entries.ran so (no_next so.now _ (sym c.in-None.is ∙ next.1)) entries c.args.log.now c.entries.log (g.H.Host.view c.next_entry.new.host)
    (logs_looks g.K.Keep.means l w entries so.settled c.args.log.now c.entries.log (g.H.Host.view c.entries.host) (g.H.Host.view c.next_entry.new.host) c.next_entry.ensures.looks was.logs)

pub returns-in-None-clause-grown : goal.returns-in-None-clause-grown
returns-in-None-clause-grown g c = c.entries.invariant.grown

pub returns-in_err-back-clause-grown : goal.returns-in_err-back-clause-grown
returns-in_err-back-clause-grown g c = c.entries.invariant.grown

pub returns-in_err-rest-in-Some-clause-grown : goal.returns-in_err-rest-in-Some-clause-grown
returns-in_err-rest-in-Some-clause-grown g c = grown_then c.args.log.now c.entries.log c.transact.new.log c.entries.invariant.grown c.transact.ensures.grown

pub returns-clause-logs : goal.returns-clause-logs
returns-clause-logs g c = λ l w entries well rest disk.
    let was = c.entries.invariant.logged l w well rest entries disk in
    let all = c.entries-test.false in
    drain_logs g.H.Host.view g.K.Keep.holds g.K.Keep.live g.K.Keep.means l w c.entries.rest c.args.host.now c.entries.host c.args.output.now c.entries.output c.args.most c.entries.ran was.so (drained_all c.args.most c.entries.ran was.so.now (omega (arith, all))) entries c.args.log.now c.entries.log (g.H.Host.view c.entries.host) was.logs

pub returns-clause-grown : goal.returns-clause-grown
returns-clause-grown g c = c.entries.invariant.grown
