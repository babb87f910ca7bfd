use Rattle.std.proofs.Common.{rules, ◌≡◌, ◌∙◌, ◌+◌, ◌-◌, ◌<◌, ◌≤◌, ℕ, Option, FitsSigned, drop, length, of_z, refl, subst, sym, to_z, w64, ℤ, ◌++◌}
use Rattle.std.proofs.Math.Facts.{to_z-of_z}
use Rattle.std.proofs.lemmas.List.{drop_all}
use Rattle.std.specs.List.{AllByRecursion}
use Rattle.ode_clock.proofs.TickSteps.{HasLogged, log_goes, logs_begin, move_counts, move_fits, move_goes, move_left, move_logs, move_stops, next_log, no_log, tick_counts, tick_left, tick_stops}
use Rattle.ode_clock.proofs.WellLaws.{has_numbers}
use Rattle.ode_clock.proofs.clocking.run_clock.Goals as goal
use Rattle.ode_clock.specs.Clocking.{clock_settled, settled_with}
use Rattle.ode_good_laws.specs.Well.{IsWell}
use Rattle.ode_good_runs.proofs.DueLaws.{behind_fits}
use Rattle.ode_host.proofs.Calls.{host_calls_as, host_calls_on}
use Rattle.ode_host.specs.Host.{LeavesOnly, Printed}
use Rattle.ode_language.specs.Languages.{ode}
use Rattle.ode_machine.specs.Moments.{IsAfterSome}
use Rattle.ode_machine.specs.Works.{move}
use Rattle.ode_opened.specs.declared.opened.Opened.{Opened}
use Rattle.ode_timer.specs.Due.{behind}
use Rattle.ode_transact.proofs.BeginLaws.{damaged_before}
use Rattle.ode_transact.proofs.DrainSteps.{calls_none}
use Rattle.ode_transact.proofs.LogLaws.{grown_none, grown_then, logs_more}
use Rattle.ode_transact.specs.Items.{items_of, texts_of}
use Rattle.ode_transact.specs.Logging.{Logs}
use Rattle.ode_transact.specs.Output.{all_heard, counting}
use Rattle.ode_transact.specs.Resting.{HoldsBy, IsAtRest}
use Rattle.ode_value.specs.Draining.{world_after}
use Rattle.ode_value.specs.GoodWorlds.{IsPosition}
use Rattle.ode_value.specs.Language.{Language, ListWorld}
use Rattle.ode_value.specs.Limits.{drain_limit, due_limit, number_limit, transaction_limit}
use Rattle.ode_value.specs.Pasts.{lists}

pub ticks-init : goal.ticks-init
unfolding drain_limit
ticks-init g c = record {
  logged = λ w last well fit few left rest entries disk.
      logs_begin g.H.Host.view g.K.Keep.holds g.K.Keep.live g.K.Keep.means ode w c.args.due.now last c.args.rest c.args.host.now c.args.output.now (has_numbers w well left (length c.args.due.now) few) fit few rest entries c.args.log.now disk;
  grown = grown_none c.args.log.now;
  usable = c.requires.live;
  parts = refl;
  calls = calls_none (g.H.Host.view c.args.host.now);
}

pub returns-in_err-back-clause-any_moment : goal.returns-in_err-back-clause-any_moment
returns-in_err-back-clause-any_moment g c = λ w said more well fit few left rest printed.
    let so = (next_log g.H.Host.view g.K.Keep.holds g.K.Keep.live g.K.Keep.means ode w c.args.due.now c.ticks.at-index c.at-item.result (behind c.args.to) c.ticks.rest c.args.host.now c.ticks.host c.args.output.now c.ticks.output c.ticks.left c.ticks.settled rest.entries c.args.log.now c.ticks.log c.ticks-test.true c.at-item.is
    (c.ticks.invariant.logged w (behind c.args.to) well fit few left rest rest.entries (g.met.K.Keep.stands c.args.rest.keeper c.args.host.now rest.entries rest.records))).so in
    let number = tick_left g.H.Host.view g.K.Keep.holds g.K.Keep.live g.K.Keep.means ode w c.args.due.now c.at-item.result (drop (c.ticks.at-index + 1) c.args.due.now) (behind c.args.to) c.ticks.rest c.args.host.now c.ticks.host c.args.output.now c.ticks.output c.ticks.left c.ticks.settled so in
    tick_stops g.H.Host.view g.K.Keep.holds g.K.Keep.live g.K.Keep.means ode w c.args.due.now c.at-item.result (drop (c.ticks.at-index + 1) c.args.due.now) (behind c.args.to) c.ticks.rest c.args.host.now c.ticks.host c.args.output.now c.ticks.output c.ticks.left c.ticks.settled so
    (g.H.Host.view c.tick.new.host) (λ text items is. c.tick.ensures.any_moment ode so.now text items so.has.0 so.fit.0 number so.rest is) said more printed

pub returns-in_err-back-clause-undamaged : goal.returns-in_err-back-clause-undamaged
returns-in_err-back-clause-undamaged g c =
    let Before : Type 0 = (l : Language) (w : ListWorld) → IsWell l w → IsPosition c.at-item.result → w.bones.transaction < transaction_limit → IsAtRest g.H.Host.view g.K.Keep.holds g.K.Keep.live l w c.ticks.rest c.ticks.host → ⊥ in
    let Undamaged : Type 0 = (w : ListWorld) → IsWell ode w → AllByRecursion IsPosition c.args.due.now → length c.args.due.now ≤ due_limit → w.bones.transaction < number_limit → IsAtRest g.H.Host.view g.K.Keep.holds g.K.Keep.live ode w c.args.rest c.args.host.now → ⊥ in
    damaged_before (Opened g.row.K.Denot × Option ℕ) (Opened g.row.K.Denot × ℕ) c.from_residual.result c.in_err-back.field-0.0 (search rules) Before Undamaged (λ damaged w well fit few left rest.
    let so = (next_log g.H.Host.view g.K.Keep.holds g.K.Keep.live g.K.Keep.means ode w c.args.due.now c.ticks.at-index c.at-item.result (behind c.args.to) c.ticks.rest c.args.host.now c.ticks.host c.args.output.now c.ticks.output c.ticks.left c.ticks.settled rest.entries c.args.log.now c.ticks.log c.ticks-test.true c.at-item.is
    (c.ticks.invariant.logged w (behind c.args.to) well fit few left rest rest.entries (g.met.K.Keep.stands c.args.rest.keeper c.args.host.now rest.entries rest.records))).so in
    let number = tick_left g.H.Host.view g.K.Keep.holds g.K.Keep.live g.K.Keep.means ode w c.args.due.now c.at-item.result (drop (c.ticks.at-index + 1) c.args.due.now) (behind c.args.to) c.ticks.rest c.args.host.now c.ticks.host c.args.output.now c.ticks.output c.ticks.left c.ticks.settled so in
    damaged ode so.now so.has.0 so.fit.0 number so.rest) c.in_err-back.ensures.undamaged

pub ticks-preserved : goal.ticks-preserved
ticks-preserved g c = record {
  logged = λ w last well fit few left rest entries disk.
      let was = next_log g.H.Host.view g.K.Keep.holds g.K.Keep.live g.K.Keep.means ode w c.args.due.now c.ticks.at-index c.at-item.result last c.ticks.rest c.args.host.now c.ticks.host c.args.output.now c.ticks.output c.ticks.left c.ticks.settled entries c.args.log.now c.ticks.log c.ticks-test.true c.at-item.is
      (c.ticks.invariant.logged w last well fit few left rest entries disk) in
      let so = was.so in
      let number = tick_left g.H.Host.view g.K.Keep.holds g.K.Keep.live g.K.Keep.means ode w c.args.due.now c.at-item.result (drop (c.ticks.at-index + 1) c.args.due.now) last c.ticks.rest c.args.host.now c.ticks.host c.args.output.now c.ticks.output c.ticks.left c.ticks.settled so in
      let counts = tick_counts g.H.Host.view g.K.Keep.holds g.K.Keep.live g.K.Keep.means ode w c.args.due.now c.at-item.result (drop (c.ticks.at-index + 1) c.args.due.now) last c.ticks.rest c.args.host.now c.ticks.host c.args.output.now c.ticks.output c.ticks.left c.ticks.settled so c.in_ok-back.ran c.in_ok-back.ensures.few in
      let done = c.in_ok-back.ensures.done ode so.now so.has.0 so.fit.0 number so.rest in
      subst (λ (n : ℕ). HasLogged g.H.Host.view g.K.Keep.holds g.K.Keep.live g.K.Keep.means ode w c.args.due.now (drop (c.ticks.at-index + 1) c.args.due.now) last c.in_ok-back.back c.args.host.now c.tick.new.host c.args.output.now c.tick.new.output n c.settled_behind-settled.result entries c.args.log.now c.tick.new.log)
      (sym c.left_behind-left.ensures)
      (subst (λ (n : ℕ). HasLogged g.H.Host.view g.K.Keep.holds g.K.Keep.live g.K.Keep.means ode w c.args.due.now (drop (c.ticks.at-index + 1) c.args.due.now) last c.in_ok-back.back c.args.host.now c.tick.new.host c.args.output.now c.tick.new.output (c.ticks.left - (settled_with c.in_ok-back.ran - 1)) n entries c.args.log.now c.tick.new.log)
      (sym (c.settled_behind-settled.ensures counts))
      (log_goes g.H.Host.view g.K.Keep.holds g.K.Keep.live g.K.Keep.means ode w c.args.due.now c.at-item.result (drop (c.ticks.at-index + 1) c.args.due.now) last c.ticks.rest c.args.host.now c.ticks.host c.args.output.now c.ticks.output c.ticks.left c.ticks.settled so
      c.in_ok-back.back c.tick.new.host c.tick.new.output c.in_ok-back.ran c.in_ok-back.ensures.few done.0 done.1 (c.in_ok-back.ensures.counts ode so.now so.has.0 so.fit.0 number so.rest)
      (λ text items is. c.in_ok-back.ensures.any_moment ode so.now text items so.has.0 so.fit.0 number so.rest is) entries c.args.log.now c.tick.new.log
      (logs_more g.K.Keep.means ode w so.now entries so.settled _ c.args.log.now c.ticks.log c.tick.new.log (g.H.Host.view c.ticks.host) (g.H.Host.view c.tick.new.host) so.is.world was.logs
      (λ m has. c.in_ok-back.ensures.logs ode so.now m so.has.0 so.fit.0 number so.rest has))));
  grown = grown_then c.args.log.now c.ticks.log c.tick.new.log c.ticks.invariant.grown c.tick.ensures.grown;
  usable = c.in_ok-back.ensures.usable;
  parts = c.in_ok-back.ensures.parts ∙ c.ticks.invariant.parts;
  calls =
      host_calls_on ⊥ ⊥ ⊥ ⊥ _ _ _ (λ none. none) (λ none. none) c.ticks.invariant.calls
      (host_calls_as _ _ ⊥ ⊥ _ _ (λ failed. cc (failed)) absurd (λ failed. cc (failed)) absurd c.in_ok-back.ensures.leaves);
}

pub returns-in_err-rest-clause-any_moment : goal.returns-in_err-rest-clause-any_moment
returns-in_err-rest-clause-any_moment g c = λ w said more well fit few left rest printed.
    let to = to_z w64 (of_z w64 c.args.to) in
    let same : to ≡ c.args.to = to_z-of_z c.ranges.to in
    let so = (no_log g.H.Host.view g.K.Keep.holds g.K.Keep.live g.K.Keep.means ode w c.args.due.now c.ticks.at-index (behind to) c.ticks.rest c.args.host.now c.ticks.host c.args.output.now c.ticks.output c.ticks.left c.ticks.settled rest.entries c.args.log.now c.ticks.log
    (drop_all c.ticks.at-index c.args.due.now c.ticks-test.false) (c.ticks.invariant.logged w (behind to) well fit few left rest rest.entries (g.met.K.Keep.stands c.args.rest.keeper c.args.host.now rest.entries rest.records))).so in
    let number = move_left g.H.Host.view g.K.Keep.holds g.K.Keep.live g.K.Keep.means ode w c.args.due.now (behind to) c.ticks.rest c.args.host.now c.ticks.host c.args.output.now c.ticks.output c.ticks.left c.ticks.settled so in
    let moved = c.transactions_leave_good_worlds.ensures.moved ode so.now so.has.0 number (behind to) (behind_fits to (subst (FitsSigned w64) (sym same) c.ranges.to)) in
    subst (λ (t : ℤ). LeavesOnly (g.H.Host.view c.args.host.now) (g.H.Host.view c.transact_and_drain.new.host) (IsAfterSome (HoldsBy ode g.K.Keep.means) (items_of (all_heard c.args.output.now.quiet (clock_settled w (t, c.args.due.now))) ++ more) w said)) same
    (move_stops g.H.Host.view g.K.Keep.holds g.K.Keep.live g.K.Keep.means ode w c.args.due.now (behind to) c.ticks.rest c.args.host.now c.ticks.host c.args.output.now c.ticks.output c.ticks.left c.ticks.settled so
    (g.H.Host.view c.transact_and_drain.new.host) (λ text items is. c.transact_and_drain.ensures.any_moment ode so.now text items so.has.0 so.rest tt moved is) said more printed)

pub returns-clause-done : goal.returns-clause-done
returns-clause-done g c = λ w well fit few left rest.
    let to = to_z w64 (of_z w64 c.args.to) in
    let same : to ≡ c.args.to = to_z-of_z c.ranges.to in
    let so = (no_log g.H.Host.view g.K.Keep.holds g.K.Keep.live g.K.Keep.means ode w c.args.due.now c.ticks.at-index (behind to) c.ticks.rest c.args.host.now c.ticks.host c.args.output.now c.ticks.output c.ticks.left c.ticks.settled rest.entries c.args.log.now c.ticks.log
    (drop_all c.ticks.at-index c.args.due.now c.ticks-test.false) (c.ticks.invariant.logged w (behind to) well fit few left rest rest.entries (g.met.K.Keep.stands c.args.rest.keeper c.args.host.now rest.entries rest.records))).so in
    let number = move_left g.H.Host.view g.K.Keep.holds g.K.Keep.live g.K.Keep.means ode w c.args.due.now (behind to) c.ticks.rest c.args.host.now c.ticks.host c.args.output.now c.ticks.output c.ticks.left c.ticks.settled so in
    let moved = c.transactions_leave_good_worlds.ensures.moved ode so.now so.has.0 number (behind to) (behind_fits to (subst (FitsSigned w64) (sym same) c.ranges.to)) in
    let fits = move_fits g.H.Host.view g.K.Keep.holds g.K.Keep.live g.K.Keep.means ode w c.args.due.now (behind to) c.ticks.rest c.args.host.now c.ticks.host c.args.output.now c.ticks.output c.ticks.left c.ticks.settled so c.in_ok-rest.ran c.in_ok-rest.ensures.few in
    let counts : c.saturating_add-2.result ≡ c.ticks.settled + c.in_ok-rest.ran + 1 = search (rules, fits) in
    let done = c.in_ok-rest.ensures.done ode so.now so.has.0 so.rest tt moved in
    let goes = move_goes g.H.Host.view g.K.Keep.holds g.K.Keep.live g.K.Keep.means ode w c.args.due.now (behind to) c.ticks.rest c.args.host.now c.ticks.host c.args.output.now c.ticks.output c.ticks.left c.ticks.settled so
    c.in_ok-rest.rest c.transact_and_drain.new.host c.in_ok-rest.ran c.in_ok-rest.ensures.few done.0 done.1 in
    subst (λ (t : ℤ). (IsAtRest g.H.Host.view g.K.Keep.holds g.K.Keep.live ode (world_after w (clock_settled w (t, c.args.due.now))) c.in_ok-rest.rest c.transact_and_drain.new.host × (c.saturating_add-2.result ≡ length (clock_settled w (t, c.args.due.now))))
    × Printed (texts_of (all_heard c.args.output.now.quiet (clock_settled w (t, c.args.due.now)))) (g.H.Host.view c.args.host.now) (g.H.Host.view c.transact_and_drain.new.host)) same ((goes.0.0, counts ∙ goes.0.1), goes.1)

pub returns-clause-counts : goal.returns-clause-counts
returns-clause-counts g c = λ w well fit few left rest.
    let to = to_z w64 (of_z w64 c.args.to) in
    let same : to ≡ c.args.to = to_z-of_z c.ranges.to in
    let so = (no_log g.H.Host.view g.K.Keep.holds g.K.Keep.live g.K.Keep.means ode w c.args.due.now c.ticks.at-index (behind to) c.ticks.rest c.args.host.now c.ticks.host c.args.output.now c.ticks.output c.ticks.left c.ticks.settled rest.entries c.args.log.now c.ticks.log
    (drop_all c.ticks.at-index c.args.due.now c.ticks-test.false) (c.ticks.invariant.logged w (behind to) well fit few left rest rest.entries (g.met.K.Keep.stands c.args.rest.keeper c.args.host.now rest.entries rest.records))).so in
    let number = move_left g.H.Host.view g.K.Keep.holds g.K.Keep.live g.K.Keep.means ode w c.args.due.now (behind to) c.ticks.rest c.args.host.now c.ticks.host c.args.output.now c.ticks.output c.ticks.left c.ticks.settled so in
    let moved = c.transactions_leave_good_worlds.ensures.moved ode so.now so.has.0 number (behind to) (behind_fits to (subst (FitsSigned w64) (sym same) c.ranges.to)) in
    subst (λ (t : ℤ). c.transact_and_drain.new.output ≡ counting c.args.output.now (texts_of (clock_settled w (t, c.args.due.now)))) same
    (move_counts g.H.Host.view g.K.Keep.holds g.K.Keep.live g.K.Keep.means ode w c.args.due.now (behind to) c.ticks.rest c.args.host.now c.ticks.host c.args.output.now c.ticks.output c.ticks.left c.ticks.settled so
    c.transact_and_drain.new.output (c.in_ok-rest.ensures.counts ode so.now so.has.0 so.rest tt moved))

pub returns-clause-any_moment : goal.returns-clause-any_moment
returns-clause-any_moment g c = λ w said more well fit few left rest printed.
    let to = to_z w64 (of_z w64 c.args.to) in
    let same : to ≡ c.args.to = to_z-of_z c.ranges.to in
    let so = (no_log g.H.Host.view g.K.Keep.holds g.K.Keep.live g.K.Keep.means ode w c.args.due.now c.ticks.at-index (behind to) c.ticks.rest c.args.host.now c.ticks.host c.args.output.now c.ticks.output c.ticks.left c.ticks.settled rest.entries c.args.log.now c.ticks.log
    (drop_all c.ticks.at-index c.args.due.now c.ticks-test.false) (c.ticks.invariant.logged w (behind to) well fit few left rest rest.entries (g.met.K.Keep.stands c.args.rest.keeper c.args.host.now rest.entries rest.records))).so in
    let number = move_left g.H.Host.view g.K.Keep.holds g.K.Keep.live g.K.Keep.means ode w c.args.due.now (behind to) c.ticks.rest c.args.host.now c.ticks.host c.args.output.now c.ticks.output c.ticks.left c.ticks.settled so in
    let moved = c.transactions_leave_good_worlds.ensures.moved ode so.now so.has.0 number (behind to) (behind_fits to (subst (FitsSigned w64) (sym same) c.ranges.to)) in
    subst (λ (t : ℤ). LeavesOnly (g.H.Host.view c.args.host.now) (g.H.Host.view c.transact_and_drain.new.host) (IsAfterSome (HoldsBy ode g.K.Keep.means) (items_of (all_heard c.args.output.now.quiet (clock_settled w (t, c.args.due.now))) ++ more) w said)) same
    (move_stops g.H.Host.view g.K.Keep.holds g.K.Keep.live g.K.Keep.means ode w c.args.due.now (behind to) c.ticks.rest c.args.host.now c.ticks.host c.args.output.now c.ticks.output c.ticks.left c.ticks.settled so
    (g.H.Host.view c.transact_and_drain.new.host) (λ text items is. c.transact_and_drain.ensures.any_moment ode so.now text items so.has.0 so.rest tt moved is) said more printed)

pub returns-in_err-rest-clause-undamaged : goal.returns-in_err-rest-clause-undamaged
returns-in_err-rest-clause-undamaged g c =
    let to = to_z w64 (of_z w64 c.args.to) in
    let same : to ≡ c.args.to = to_z-of_z c.ranges.to in
    let Before : Type 0 = (l : Language) (w : ListWorld) → IsWell l w → IsAtRest g.H.Host.view g.K.Keep.holds g.K.Keep.live l w c.ticks.rest c.ticks.host → Unit {0} → w.bones.transaction < transaction_limit
    → IsWell l (move lists (behind to) w).0 → ⊥ in
    let Undamaged : Type 0 = (w : ListWorld) → IsWell ode w → AllByRecursion IsPosition c.args.due.now → length c.args.due.now ≤ due_limit → w.bones.transaction < number_limit → IsAtRest g.H.Host.view g.K.Keep.holds g.K.Keep.live ode w c.args.rest c.args.host.now → ⊥ in
    damaged_before (Opened g.row.K.Denot × ℕ) (Opened g.row.K.Denot × ℕ) c.from_residual-in_err-rest.result c.in_err-rest.field-0.0 (search rules) Before Undamaged (λ damaged w well fit few left rest.
    let so = (no_log g.H.Host.view g.K.Keep.holds g.K.Keep.live g.K.Keep.means ode w c.args.due.now c.ticks.at-index (behind to) c.ticks.rest c.args.host.now c.ticks.host c.args.output.now c.ticks.output c.ticks.left c.ticks.settled rest.entries c.args.log.now c.ticks.log
    (drop_all c.ticks.at-index c.args.due.now c.ticks-test.false) (c.ticks.invariant.logged w (behind to) well fit few left rest rest.entries (g.met.K.Keep.stands c.args.rest.keeper c.args.host.now rest.entries rest.records))).so in
    let number = move_left g.H.Host.view g.K.Keep.holds g.K.Keep.live g.K.Keep.means ode w c.args.due.now (behind to) c.ticks.rest c.args.host.now c.ticks.host c.args.output.now c.ticks.output c.ticks.left c.ticks.settled so in
    damaged ode so.now so.has.0 so.rest tt number (c.transactions_leave_good_worlds.ensures.moved ode so.now so.has.0 number (behind to) (behind_fits to (subst (FitsSigned w64) (sym same) c.ranges.to)))) c.in_err-rest.ensures.undamaged

pub returns-clause-logs : goal.returns-clause-logs
returns-clause-logs g c = λ w entries well fit few left rest disk.
    let to = to_z w64 (of_z w64 c.args.to) in
    let same : to ≡ c.args.to = to_z-of_z c.ranges.to in
    let was = no_log g.H.Host.view g.K.Keep.holds g.K.Keep.live g.K.Keep.means ode w c.args.due.now c.ticks.at-index (behind to) c.ticks.rest c.args.host.now c.ticks.host c.args.output.now c.ticks.output c.ticks.left c.ticks.settled entries c.args.log.now c.ticks.log
    (drop_all c.ticks.at-index c.args.due.now c.ticks-test.false) (c.ticks.invariant.logged w (behind to) well fit few left rest entries disk) in
    let so = was.so in
    let number = move_left g.H.Host.view g.K.Keep.holds g.K.Keep.live g.K.Keep.means ode w c.args.due.now (behind to) c.ticks.rest c.args.host.now c.ticks.host c.args.output.now c.ticks.output c.ticks.left c.ticks.settled so in
    let moved = c.transactions_leave_good_worlds.ensures.moved ode so.now so.has.0 number (behind to) (behind_fits to (subst (FitsSigned w64) (sym same) c.ranges.to)) in
    subst (λ (t : ℤ). Logs g.K.Keep.means ode w entries (clock_settled w (t, c.args.due.now)) c.args.log.now c.transact_and_drain.new.log (g.H.Host.view c.transact_and_drain.new.host)) same
    (move_logs g.H.Host.view g.K.Keep.holds g.K.Keep.live g.K.Keep.means ode w c.args.due.now (behind to) c.ticks.rest c.args.host.now c.ticks.host c.args.output.now c.ticks.output c.ticks.left c.ticks.settled so entries c.args.log.now c.transact_and_drain.new.log (g.H.Host.view c.transact_and_drain.new.host)
    (logs_more g.K.Keep.means ode w so.now entries so.settled _ c.args.log.now c.ticks.log c.transact_and_drain.new.log (g.H.Host.view c.ticks.host) (g.H.Host.view c.transact_and_drain.new.host) so.is.world was.logs
    (λ m has. c.in_ok-rest.ensures.logs ode so.now m so.rest tt has moved)))

pub returns-in_err-back-clause-grown : goal.returns-in_err-back-clause-grown
returns-in_err-back-clause-grown g c = grown_then c.args.log.now c.ticks.log c.tick.new.log c.ticks.invariant.grown c.tick.ensures.grown

pub returns-in_err-rest-clause-grown : goal.returns-in_err-rest-clause-grown
returns-in_err-rest-clause-grown g c = grown_then c.args.log.now c.ticks.log c.transact_and_drain.new.log c.ticks.invariant.grown c.transact_and_drain.ensures.grown

pub returns-clause-grown : goal.returns-clause-grown
returns-clause-grown g c = grown_then c.args.log.now c.ticks.log c.transact_and_drain.new.log c.ticks.invariant.grown c.transact_and_drain.ensures.grown
