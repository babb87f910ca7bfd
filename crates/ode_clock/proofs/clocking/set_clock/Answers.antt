use Rattle.std.proofs.Common.{rules, ◌≡◌, ◌∙◌, ◌++◌, ◌<◌, ◌≤◌, ℕ, ℤ, List, Ok, Result, ap, length, of_z, subst, sym, to_z, w64}
use Rattle.std.proofs.Math.Facts.{to_z-of_z}
use Rattle.std.specs.List.{AllByRecursion}
use Rattle.ode_clock.proofs.TickSteps.{look_stops}
use Rattle.ode_clock.proofs.WellLaws.{due_are}
use Rattle.ode_clock.proofs.clocking.set_clock.Goals as goal
use Rattle.ode_clock.specs.Clocking.{Clocks, clock_settled}
use Rattle.ode_good_laws.specs.Well.{IsWell}
use Rattle.ode_good_runs.proofs.Literals.{ok_same}
use Rattle.ode_host.proofs.Moments.{joined}
use Rattle.ode_host.specs.Host.{LeavesOnly, Printed}
use Rattle.ode_language.specs.Languages.{ode}
use Rattle.ode_machine.specs.Moments.{IsAfterSome}
use Rattle.ode_machine.specs.Refusals.{ticks_in}
use Rattle.ode_opened.specs.declared.opened.Opened.{Opened}
use Rattle.ode_transact.proofs.BeginLaws.{damaged_before}
use Rattle.ode_transact.proofs.LogLaws.{disk_looks}
use Rattle.ode_transact.specs.Items.{items_of, texts_of}
use Rattle.ode_transact.specs.Logging.{Logs}
use Rattle.ode_transact.specs.Output.{all_heard, counting}
use Rattle.ode_transact.specs.Resting.{HoldsBy, IsAtRest}
use Rattle.ode_value.specs.Answers.{Answer}
use Rattle.ode_value.specs.Draining.{world_after}
use Rattle.ode_value.specs.GoodWorlds.{IsPosition}
use Rattle.ode_value.specs.Language.{ListWorld}
use Rattle.ode_value.specs.Limits.{due_limit, number_limit}
use Rattle.ode_value.specs.Worlds.{Position}
use Rattle.ode_value.specs.declared.reason.Refusal.{Refusal}

pub returns-in_err-rest-clause-any_moment : goal.returns-in_err-rest-clause-any_moment
returns-in_err-rest-clause-any_moment g c = λ w t said more well left rest is printed.
    look_stops g.H.Host.view g.K.Keep.holds g.K.Keep.live g.K.Keep.means g.met.K.Keep.stands g.met.H.Host.text_stands ode w c.args.rest c.args.host.now c.ticks.new.host well rest c.ticks.ensures.looks (all_heard c.args.output.now.quiet (clock_settled w t)) said more printed

pub returns-in_err-rest-clause-undamaged : goal.returns-in_err-rest-clause-undamaged
returns-in_err-rest-clause-undamaged g c =
    let Before : Type 0 = (w : ListWorld) → IsAtRest g.H.Host.view g.K.Keep.holds g.K.Keep.live ode w c.args.rest c.args.host.now → ⊥ in
    let Undamaged : Type 0 = (w : ListWorld) → IsWell ode w → w.bones.transaction < number_limit → IsAtRest g.H.Host.view g.K.Keep.holds g.K.Keep.live ode w c.args.rest c.args.host.now → ⊥ in
    damaged_before (Opened g.row.K.Denot × Result (ℤ × List Position) Refusal) (Opened g.row.K.Denot × Result ℕ Refusal) c.from_residual.result c.in_err-rest.field-0.0 (search rules) Before Undamaged
    (λ damaged w well left rest. damaged w rest) c.in_err-rest.ensures.undamaged

pub returns-in_err-rest-in-Ok-clause-any_moment : goal.returns-in_err-rest-in-Ok-clause-any_moment
returns-in_err-rest-in-Ok-clause-any_moment g c = λ w t said more well left rest is printed.
    let at = c.in_ok-rest.ensures.is w rest in
    let here : Ok (c.in-Ok.to, c.as_slice.result.now) ≡ ticks_in ode w.bones c.args.text.now = ap (λ (ps : List Position). Ok (c.in-Ok.to, ps)) c.as_slice.ensures ∙ sym c.in-Ok.is ∙ at.1 in
    let due = due_are w well c.args.text.now (c.in-Ok.to, c.as_slice.result.now) (sym here) in
    let to = to_z w64 (of_z w64 c.in-Ok.to) in
    let there : Ok (to, c.as_slice.result.now) ≡ ticks_in ode w.bones c.args.text.now = ap (λ (t : ℤ). Ok (t, c.as_slice.result.now)) (to_z-of_z due.0) ∙ here in
    subst (λ (t : ℤ × List Position). LeavesOnly (g.H.Host.view c.args.host.now) (g.H.Host.view c.run_clock.new.host) (IsAfterSome (HoldsBy ode g.K.Keep.means) (items_of (all_heard c.args.output.now.quiet (clock_settled w t)) ++ more) w said))
    (ok_same (to, c.as_slice.result.now) t (there ∙ is))
    (joined (g.H.Host.view c.args.host.now) (g.H.Host.view c.ticks.new.host) (g.H.Host.view c.run_clock.new.host) (IsAfterSome (HoldsBy ode g.K.Keep.means) (items_of (all_heard c.args.output.now.quiet (clock_settled w (to, c.as_slice.result.now))) ++ more) w said)
    (look_stops g.H.Host.view g.K.Keep.holds g.K.Keep.live g.K.Keep.means g.met.K.Keep.stands g.met.H.Host.text_stands ode w c.args.rest c.args.host.now c.ticks.new.host well rest c.ticks.ensures.looks
    (all_heard c.args.output.now.quiet (clock_settled w (to, c.as_slice.result.now))) said more printed)
    (c.run_clock.ensures.any_moment w said more well due.1 due.2 left at.0 (c.ticks.ensures.looks.text ∙ printed)))

pub returns-in_err-rest-in-Ok-clause-undamaged : goal.returns-in_err-rest-in-Ok-clause-undamaged
returns-in_err-rest-in-Ok-clause-undamaged g c =
    let Before : Type 0 = (w : ListWorld) → IsWell ode w → AllByRecursion IsPosition c.as_slice.result.now → length c.as_slice.result.now ≤ due_limit → w.bones.transaction < number_limit
    → IsAtRest g.H.Host.view g.K.Keep.holds g.K.Keep.live ode w c.in_ok-rest.rest c.ticks.new.host → ⊥ in
    let Undamaged : Type 0 = (w : ListWorld) → IsWell ode w → w.bones.transaction < number_limit → IsAtRest g.H.Host.view g.K.Keep.holds g.K.Keep.live ode w c.args.rest c.args.host.now → ⊥ in
    damaged_before (Opened g.row.K.Denot × ℕ) (Opened g.row.K.Denot × Result ℕ Refusal) c.from_residual-in_err-rest-in-Ok.result c.in_err-rest-in-Ok.field-0.0 (search rules) Before Undamaged (λ damaged w well left rest.
    let at = c.in_ok-rest.ensures.is w rest in
    let here : Ok (c.in-Ok.to, c.as_slice.result.now) ≡ ticks_in ode w.bones c.args.text.now = ap (λ (ps : List Position). Ok (c.in-Ok.to, ps)) c.as_slice.ensures ∙ sym c.in-Ok.is ∙ at.1 in
    let due = due_are w well c.args.text.now (c.in-Ok.to, c.as_slice.result.now) (sym here) in
    damaged w well due.1 due.2 left at.0) c.in_err-rest-in-Ok.ensures.undamaged

pub returns-in_ok-rest-in-Ok-clause-done : goal.returns-in_ok-rest-in-Ok-clause-done
returns-in_ok-rest-in-Ok-clause-done g c = λ w well left rest.
    let at = c.in_ok-rest.ensures.is w rest in
    let here : Ok (c.in-Ok.to, c.as_slice.result.now) ≡ ticks_in ode w.bones c.args.text.now = ap (λ (ps : List Position). Ok (c.in-Ok.to, ps)) c.as_slice.ensures ∙ sym c.in-Ok.is ∙ at.1 in
    let due = due_are w well c.args.text.now (c.in-Ok.to, c.as_slice.result.now) (sym here) in
    let to = to_z w64 (of_z w64 c.in-Ok.to) in
    let there : Ok (to, c.as_slice.result.now) ≡ ticks_in ode w.bones c.args.text.now = ap (λ (t : ℤ). Ok (t, c.as_slice.result.now)) (to_z-of_z due.0) ∙ here in
    let done = c.in_ok-rest-in-Ok.ensures.done w well due.1 due.2 left at.0 in
    subst (λ (a : Answer (ℤ × List Position)). Clocks a (Ok c.in_ok-rest-in-Ok.settled) (IsAtRest g.H.Host.view g.K.Keep.holds g.K.Keep.live ode w c.in_ok-rest-in-Ok.rest c.run_clock.new.host)
    (λ t count. (count ≡ length (clock_settled w t)) × IsAtRest g.H.Host.view g.K.Keep.holds g.K.Keep.live ode (world_after w (clock_settled w t)) c.in_ok-rest-in-Ok.rest c.run_clock.new.host
    × Printed (texts_of (all_heard c.args.output.now.quiet (clock_settled w t))) (g.H.Host.view c.args.host.now) (g.H.Host.view c.run_clock.new.host))) there
    (done.0.1, done.0.0, λ text said. done.1 text (c.ticks.ensures.looks.text ∙ said))

pub returns-in_ok-rest-in-Ok-clause-counts : goal.returns-in_ok-rest-in-Ok-clause-counts
returns-in_ok-rest-in-Ok-clause-counts g c = λ w well left rest.
    let at = c.in_ok-rest.ensures.is w rest in
    let here : Ok (c.in-Ok.to, c.as_slice.result.now) ≡ ticks_in ode w.bones c.args.text.now = ap (λ (ps : List Position). Ok (c.in-Ok.to, ps)) c.as_slice.ensures ∙ sym c.in-Ok.is ∙ at.1 in
    let due = due_are w well c.args.text.now (c.in-Ok.to, c.as_slice.result.now) (sym here) in
    let to = to_z w64 (of_z w64 c.in-Ok.to) in
    let there : Ok (to, c.as_slice.result.now) ≡ ticks_in ode w.bones c.args.text.now = ap (λ (t : ℤ). Ok (t, c.as_slice.result.now)) (to_z-of_z due.0) ∙ here in
    subst (λ (a : Answer (ℤ × List Position)). Clocks a (Ok c.in_ok-rest-in-Ok.settled) (c.run_clock.new.output ≡ c.args.output.now) (λ t count. c.run_clock.new.output ≡ counting c.args.output.now (texts_of (clock_settled w t)))) there
    (c.in_ok-rest-in-Ok.ensures.counts w well due.1 due.2 left at.0)

pub returns-in_ok-rest-in-Ok-clause-any_moment : goal.returns-in_ok-rest-in-Ok-clause-any_moment
returns-in_ok-rest-in-Ok-clause-any_moment g c = λ w t said more well left rest is printed.
    let at = c.in_ok-rest.ensures.is w rest in
    let here : Ok (c.in-Ok.to, c.as_slice.result.now) ≡ ticks_in ode w.bones c.args.text.now = ap (λ (ps : List Position). Ok (c.in-Ok.to, ps)) c.as_slice.ensures ∙ sym c.in-Ok.is ∙ at.1 in
    let due = due_are w well c.args.text.now (c.in-Ok.to, c.as_slice.result.now) (sym here) in
    let to = to_z w64 (of_z w64 c.in-Ok.to) in
    let there : Ok (to, c.as_slice.result.now) ≡ ticks_in ode w.bones c.args.text.now = ap (λ (t : ℤ). Ok (t, c.as_slice.result.now)) (to_z-of_z due.0) ∙ here in
    subst (λ (t : ℤ × List Position). LeavesOnly (g.H.Host.view c.args.host.now) (g.H.Host.view c.run_clock.new.host) (IsAfterSome (HoldsBy ode g.K.Keep.means) (items_of (all_heard c.args.output.now.quiet (clock_settled w t)) ++ more) w said))
    (ok_same (to, c.as_slice.result.now) t (there ∙ is))
    (joined (g.H.Host.view c.args.host.now) (g.H.Host.view c.ticks.new.host) (g.H.Host.view c.run_clock.new.host) (IsAfterSome (HoldsBy ode g.K.Keep.means) (items_of (all_heard c.args.output.now.quiet (clock_settled w (to, c.as_slice.result.now))) ++ more) w said)
    (look_stops g.H.Host.view g.K.Keep.holds g.K.Keep.live g.K.Keep.means g.met.K.Keep.stands g.met.H.Host.text_stands ode w c.args.rest c.args.host.now c.ticks.new.host well rest c.ticks.ensures.looks
    (all_heard c.args.output.now.quiet (clock_settled w (to, c.as_slice.result.now))) said more printed)
    (c.run_clock.ensures.any_moment w said more well due.1 due.2 left at.0 (c.ticks.ensures.looks.text ∙ printed)))

pub returns-in_ok-rest-in-Ok-clause-logs : goal.returns-in_ok-rest-in-Ok-clause-logs
returns-in_ok-rest-in-Ok-clause-logs g c = λ w entries well left rest disk.
    let at = c.in_ok-rest.ensures.is w rest in
    let here : Ok (c.in-Ok.to, c.as_slice.result.now) ≡ ticks_in ode w.bones c.args.text.now = ap (λ (ps : List Position). Ok (c.in-Ok.to, ps)) c.as_slice.ensures ∙ sym c.in-Ok.is ∙ at.1 in
    let due = due_are w well c.args.text.now (c.in-Ok.to, c.as_slice.result.now) (sym here) in
    let to = to_z w64 (of_z w64 c.in-Ok.to) in
    let there : Ok (to, c.as_slice.result.now) ≡ ticks_in ode w.bones c.args.text.now = ap (λ (t : ℤ). Ok (t, c.as_slice.result.now)) (to_z-of_z due.0) ∙ here in
    subst (λ (a : Answer (ℤ × List Position)). Clocks a (Ok c.in_ok-rest-in-Ok.settled) (c.run_clock.new.log ≡ c.args.log.now)
    (λ t count. Logs g.K.Keep.means ode w entries (clock_settled w t) c.args.log.now c.run_clock.new.log (g.H.Host.view c.run_clock.new.host))) there
    (c.in_ok-rest-in-Ok.ensures.logs w entries well due.1 due.2 left at.0 (disk_looks g.K.Keep.means entries (g.H.Host.view c.args.host.now) (g.H.Host.view c.ticks.new.host) c.ticks.ensures.looks disk))
