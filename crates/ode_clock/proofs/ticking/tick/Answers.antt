use Rattle.std.proofs.Common.{rules, ◌≡◌, ◌∙◌, ◌+◌, ◌++◌, ◌<◌, ℕ, Bool, true, false, Option, ap, length, refl, subst, sym}
use Rattle.ode_clock.proofs.TickSteps.{look_stops, none_printed, settled_gone, settled_there, tick_behind, tick_front}
use Rattle.ode_clock.proofs.ticking.tick.Goals as goal
use Rattle.ode_clock.specs.Clocking.{tick_settled}
use Rattle.ode_good_laws.specs.Well.{IsWell}
use Rattle.ode_host.proofs.Moments.{joined}
use Rattle.ode_host.specs.Host.{LeavesOnly, Printed}
use Rattle.ode_machine.specs.Moments.{IsAfterSome}
use Rattle.ode_machine.specs.Works.{ticks}
use Rattle.ode_opened.specs.declared.opened.Opened.{Opened}
use Rattle.ode_overlay_laws.specs.Standing.{origin_as}
use Rattle.ode_transact.proofs.BeginLaws.{damaged_before}
use Rattle.ode_transact.proofs.LogLaws.{disk_looks, grown_none, logs_none}
use Rattle.ode_transact.proofs.OutputLaws.{counting_none}
use Rattle.ode_transact.specs.Items.{items_of, texts_of}
use Rattle.ode_transact.specs.Logging.{Logs}
use Rattle.ode_transact.specs.Output.{all_heard, counting}
use Rattle.ode_transact.specs.Resting.{HoldsBy, IsAtRest}
use Rattle.ode_transact.specs.Working.{IsFromFront}
use Rattle.ode_value.specs.Denoting.{object_at}
use Rattle.ode_value.specs.Draining.{world_after}
use Rattle.ode_value.specs.GoodWorlds.{IsPosition}
use Rattle.ode_value.specs.Language.{Language, ListWorld, Settlings}
use Rattle.ode_value.specs.Limits.{transaction_limit}
use Rattle.ode_value.specs.Pasts.{lists}
use Rattle.ode_value.specs.Settling.{transaction}
use Rattle.ode_value.specs.Worlds.{Position}
use Rattle.std.specs.Prelude.{is_some}

pub returns-in_err-rest-clause-any_moment : goal.returns-in_err-rest-clause-any_moment
returns-in_err-rest-clause-any_moment g c = λ l w said more well is left rest printed.
    look_stops g.H.Host.view g.K.Keep.holds g.K.Keep.live g.K.Keep.means g.met.K.Keep.stands g.met.H.Host.text_stands l w c.args.rest c.args.host.now c.is_there.new.host well rest c.is_there.ensures.looks
    (all_heard c.args.output.now.quiet (tick_settled c.args.at.now c.args.most w)) said more printed

pub returns-in_err-rest-clause-undamaged : goal.returns-in_err-rest-clause-undamaged
returns-in_err-rest-clause-undamaged g c =
    let Before : Type 0 = (l : Language) (w : ListWorld) → IsAtRest g.H.Host.view g.K.Keep.holds g.K.Keep.live l w c.args.rest c.args.host.now → ⊥ in
    let Undamaged : Type 0 = (l : Language) (w : ListWorld) → IsWell l w → IsPosition c.args.at.now → w.bones.transaction < transaction_limit → IsAtRest g.H.Host.view g.K.Keep.holds g.K.Keep.live l w c.args.rest c.args.host.now → ⊥ in
    damaged_before (Opened g.row.K.Denot × Bool) (Opened g.row.K.Denot × Option ℕ) c.from_residual.result c.in_err-rest.field-0.0 (search rules) Before Undamaged
    (λ damaged l w well is left rest. damaged l w rest) c.in_err-rest.ensures.undamaged

pub returns-then-not-there-clause-done : goal.returns-then-not-there-clause-done
returns-then-not-there-clause-done g c = λ l w well is left rest.
    let here : is_some (object_at w.bones c.at.inside.object) ≡ is_some (object_at w.bones c.args.at.now.object) = ap (λ (p : Position). is_some (object_at w.bones p.object)) c.at.view_is in
    let at = c.in_ok-rest.ensures.is l w rest in
    let none : c.in_ok-rest.there ≡ false = search rules in
    subst (λ (s : Settlings). (IsAtRest g.H.Host.view g.K.Keep.holds g.K.Keep.live l (world_after w s) c.in_ok-rest.rest c.is_there.new.host × (0 ≡ length s)) × Printed (texts_of (all_heard c.args.output.now.quiet s)) (g.H.Host.view c.args.host.now) (g.H.Host.view c.is_there.new.host))
    (sym (settled_gone c.args.at.now c.args.most w c.in_ok-rest.there (at.1 ∙ here) none)) ((at.0, refl), none_printed _ _ c.is_there.ensures.looks)

pub returns-then-not-there-clause-counts : goal.returns-then-not-there-clause-counts
returns-then-not-there-clause-counts g c = λ l w well is left rest.
    let here : is_some (object_at w.bones c.at.inside.object) ≡ is_some (object_at w.bones c.args.at.now.object) = ap (λ (p : Position). is_some (object_at w.bones p.object)) c.at.view_is in
    let at = c.in_ok-rest.ensures.is l w rest in
    let none : c.in_ok-rest.there ≡ false = search rules in
    subst (λ (s : Settlings). c.args.output.now ≡ counting c.args.output.now (texts_of s)) (sym (settled_gone c.args.at.now c.args.most w c.in_ok-rest.there (at.1 ∙ here) none)) (counting_none c.args.output.now)

pub returns-then-not-there-clause-any_moment : goal.returns-then-not-there-clause-any_moment
returns-then-not-there-clause-any_moment g c = λ l w said more well is left rest printed.
    look_stops g.H.Host.view g.K.Keep.holds g.K.Keep.live g.K.Keep.means g.met.K.Keep.stands g.met.H.Host.text_stands l w c.args.rest c.args.host.now c.is_there.new.host well rest c.is_there.ensures.looks
    (all_heard c.args.output.now.quiet (tick_settled c.args.at.now c.args.most w)) said more printed

pub returns-in_err-rest-2-clause-any_moment : goal.returns-in_err-rest-2-clause-any_moment
returns-in_err-rest-2-clause-any_moment g c = λ l w said more well is left rest printed.
    let here : is_some (object_at w.bones c.at.inside.object) ≡ is_some (object_at w.bones c.args.at.now.object) = ap (λ (p : Position). is_some (object_at w.bones p.object)) c.at.view_is in
    let at = c.in_ok-rest.ensures.is l w rest in
    let some : c.in_ok-rest.there ≡ true = search rules in
    let front = tick_front c.tick_origin-origin.result c.args.at.now w c.tick_origin-origin.ensures in
    let behind = tick_behind l c.tick_origin-origin.result c.args.at.now w c.tick_origin-origin.ensures (c.transactions_leave_good_worlds.ensures.tick l w well left c.args.at.now is) in
    let settled = settled_there c.args.at.now c.args.most w c.in_ok-rest.there (at.1 ∙ here) c.tick_origin-origin.result c.tick_origin-origin.ensures some in
    joined (g.H.Host.view c.args.host.now) (g.H.Host.view c.is_there.new.host) (g.H.Host.view c.transact_and_drain.new.host) (IsAfterSome (HoldsBy l g.K.Keep.means) (items_of (all_heard c.args.output.now.quiet (tick_settled c.args.at.now c.args.most w)) ++ more) w said)
    (look_stops g.H.Host.view g.K.Keep.holds g.K.Keep.live g.K.Keep.means g.met.K.Keep.stands g.met.H.Host.text_stands l w c.args.rest c.args.host.now c.is_there.new.host well rest c.is_there.ensures.looks
    (all_heard c.args.output.now.quiet (tick_settled c.args.at.now c.args.most w)) said more printed)
    (subst (λ (s : Settlings). LeavesOnly (g.H.Host.view c.is_there.new.host) (g.H.Host.view c.transact_and_drain.new.host) (IsAfterSome (HoldsBy l g.K.Keep.means) (items_of (all_heard c.args.output.now.quiet s) ++ more) w said)) (sym settled)
    (c.transact_and_drain.ensures.any_moment l w said more well at.0 front behind (c.is_there.ensures.looks.text ∙ printed)))

pub returns-in_err-rest-2-clause-undamaged : goal.returns-in_err-rest-2-clause-undamaged
returns-in_err-rest-2-clause-undamaged g c =
    let Before : Type 0 = (l : Language) (w : ListWorld) → IsWell l w → IsAtRest g.H.Host.view g.K.Keep.holds g.K.Keep.live l w c.in_ok-rest.rest c.is_there.new.host → IsFromFront c.tick_origin-origin.result w
    → w.bones.transaction < transaction_limit → IsWell l (transaction lists (origin_as c.tick_origin-origin.result) (ticks lists c.args.at.now) w).0 → ⊥ in
    let Undamaged : Type 0 = (l : Language) (w : ListWorld) → IsWell l w → IsPosition c.args.at.now → w.bones.transaction < transaction_limit → IsAtRest g.H.Host.view g.K.Keep.holds g.K.Keep.live l w c.args.rest c.args.host.now → ⊥ in
    damaged_before (Opened g.row.K.Denot × ℕ) (Opened g.row.K.Denot × Option ℕ) c.from_residual-in_err-rest-2.result c.in_err-rest-2.field-0.0 (search rules) Before Undamaged
    (λ damaged l w well is left rest. damaged l w well (c.in_ok-rest.ensures.is l w rest).0 (tick_front c.tick_origin-origin.result c.args.at.now w c.tick_origin-origin.ensures) left
    (tick_behind l c.tick_origin-origin.result c.args.at.now w c.tick_origin-origin.ensures (c.transactions_leave_good_worlds.ensures.tick l w well left c.args.at.now is))) c.in_err-rest-2.ensures.undamaged

pub returns-clause-done : goal.returns-clause-done
returns-clause-done g c = λ l w well is left rest.
    let here : is_some (object_at w.bones c.at.inside.object) ≡ is_some (object_at w.bones c.args.at.now.object) = ap (λ (p : Position). is_some (object_at w.bones p.object)) c.at.view_is in
    let at = c.in_ok-rest.ensures.is l w rest in
    let some : c.in_ok-rest.there ≡ true = search rules in
    let front = tick_front c.tick_origin-origin.result c.args.at.now w c.tick_origin-origin.ensures in
    let behind = tick_behind l c.tick_origin-origin.result c.args.at.now w c.tick_origin-origin.ensures (c.transactions_leave_good_worlds.ensures.tick l w well left c.args.at.now is) in
    let done = c.in_ok-rest-2.ensures.done l w well at.0 front behind in
    subst (λ (s : Settlings). (IsAtRest g.H.Host.view g.K.Keep.holds g.K.Keep.live l (world_after w s) c.in_ok-rest-2.rest c.transact_and_drain.new.host × (c.in_ok-rest-2.ran + 1 ≡ length s)) × Printed (texts_of (all_heard c.args.output.now.quiet s)) (g.H.Host.view c.args.host.now) (g.H.Host.view c.transact_and_drain.new.host))
    (sym (settled_there c.args.at.now c.args.most w c.in_ok-rest.there (at.1 ∙ here) c.tick_origin-origin.result c.tick_origin-origin.ensures some)) (done.0, λ text said. done.1 text (c.is_there.ensures.looks.text ∙ said))

pub returns-clause-counts : goal.returns-clause-counts
returns-clause-counts g c = λ l w well is left rest.
    let here : is_some (object_at w.bones c.at.inside.object) ≡ is_some (object_at w.bones c.args.at.now.object) = ap (λ (p : Position). is_some (object_at w.bones p.object)) c.at.view_is in
    let at = c.in_ok-rest.ensures.is l w rest in
    let some : c.in_ok-rest.there ≡ true = search rules in
    let front = tick_front c.tick_origin-origin.result c.args.at.now w c.tick_origin-origin.ensures in
    let behind = tick_behind l c.tick_origin-origin.result c.args.at.now w c.tick_origin-origin.ensures (c.transactions_leave_good_worlds.ensures.tick l w well left c.args.at.now is) in
    subst (λ (s : Settlings). c.transact_and_drain.new.output ≡ counting c.args.output.now (texts_of s))
    (sym (settled_there c.args.at.now c.args.most w c.in_ok-rest.there (at.1 ∙ here) c.tick_origin-origin.result c.tick_origin-origin.ensures some))
    (c.in_ok-rest-2.ensures.counts l w well at.0 front behind)

pub returns-clause-any_moment : goal.returns-clause-any_moment
returns-clause-any_moment g c = λ l w said more well is left rest printed.
    let here : is_some (object_at w.bones c.at.inside.object) ≡ is_some (object_at w.bones c.args.at.now.object) = ap (λ (p : Position). is_some (object_at w.bones p.object)) c.at.view_is in
    let at = c.in_ok-rest.ensures.is l w rest in
    let some : c.in_ok-rest.there ≡ true = search rules in
    let front = tick_front c.tick_origin-origin.result c.args.at.now w c.tick_origin-origin.ensures in
    let behind = tick_behind l c.tick_origin-origin.result c.args.at.now w c.tick_origin-origin.ensures (c.transactions_leave_good_worlds.ensures.tick l w well left c.args.at.now is) in
    let settled = settled_there c.args.at.now c.args.most w c.in_ok-rest.there (at.1 ∙ here) c.tick_origin-origin.result c.tick_origin-origin.ensures some in
    joined (g.H.Host.view c.args.host.now) (g.H.Host.view c.is_there.new.host) (g.H.Host.view c.transact_and_drain.new.host) (IsAfterSome (HoldsBy l g.K.Keep.means) (items_of (all_heard c.args.output.now.quiet (tick_settled c.args.at.now c.args.most w)) ++ more) w said)
    (look_stops g.H.Host.view g.K.Keep.holds g.K.Keep.live g.K.Keep.means g.met.K.Keep.stands g.met.H.Host.text_stands l w c.args.rest c.args.host.now c.is_there.new.host well rest c.is_there.ensures.looks
    (all_heard c.args.output.now.quiet (tick_settled c.args.at.now c.args.most w)) said more printed)
    (subst (λ (s : Settlings). LeavesOnly (g.H.Host.view c.is_there.new.host) (g.H.Host.view c.transact_and_drain.new.host) (IsAfterSome (HoldsBy l g.K.Keep.means) (items_of (all_heard c.args.output.now.quiet s) ++ more) w said)) (sym settled)
    (c.transact_and_drain.ensures.any_moment l w said more well at.0 front behind (c.is_there.ensures.looks.text ∙ printed)))

pub returns-then-not-there-clause-logs : goal.returns-then-not-there-clause-logs
returns-then-not-there-clause-logs g c = λ l w entries well is left rest disk.
    let here : is_some (object_at w.bones c.at.inside.object) ≡ is_some (object_at w.bones c.args.at.now.object) = ap (λ (p : Position). is_some (object_at w.bones p.object)) c.at.view_is in
    let at = c.in_ok-rest.ensures.is l w rest in
    let none : c.in_ok-rest.there ≡ false = search rules in
    subst (λ (s : Settlings). Logs g.K.Keep.means l w entries s c.args.log.now c.args.log.now (g.H.Host.view c.is_there.new.host)) (sym (settled_gone c.args.at.now c.args.most w c.in_ok-rest.there (at.1 ∙ here) none))
    (logs_none g.K.Keep.means l w entries c.args.log.now (g.H.Host.view c.is_there.new.host) (disk_looks g.K.Keep.means entries _ _ c.is_there.ensures.looks disk))

pub returns-clause-logs : goal.returns-clause-logs
returns-clause-logs g c = λ l w entries well is left rest disk.
    let here : is_some (object_at w.bones c.at.inside.object) ≡ is_some (object_at w.bones c.args.at.now.object) = ap (λ (p : Position). is_some (object_at w.bones p.object)) c.at.view_is in
    let at = c.in_ok-rest.ensures.is l w rest in
    let some : c.in_ok-rest.there ≡ true = search rules in
    let front = tick_front c.tick_origin-origin.result c.args.at.now w c.tick_origin-origin.ensures in
    let behind = tick_behind l c.tick_origin-origin.result c.args.at.now w c.tick_origin-origin.ensures (c.transactions_leave_good_worlds.ensures.tick l w well left c.args.at.now is) in
    subst (λ (s : Settlings). Logs g.K.Keep.means l w entries s c.args.log.now c.transact_and_drain.new.log (g.H.Host.view c.transact_and_drain.new.host))
    (sym (settled_there c.args.at.now c.args.most w c.in_ok-rest.there (at.1 ∙ here) c.tick_origin-origin.result c.tick_origin-origin.ensures some))
    (c.in_ok-rest-2.ensures.logs l w entries at.0 front (disk_looks g.K.Keep.means entries _ _ c.is_there.ensures.looks disk) behind)

pub returns-in_err-rest-clause-grown : goal.returns-in_err-rest-clause-grown
returns-in_err-rest-clause-grown g c = grown_none c.args.log.now

pub returns-then-not-there-clause-grown : goal.returns-then-not-there-clause-grown
returns-then-not-there-clause-grown g c = grown_none c.args.log.now
