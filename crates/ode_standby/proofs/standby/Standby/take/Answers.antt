use Rattle.std.proofs.Common.{◌∙◌, ap, sym, refl, ◌-◌, Some, Ok, Err, length, arith}
use Rattle.std.proofs.lemmas.Result.{err_from_is_err_and}
use Rattle.ode_standby.proofs.FeedLaws.{counters_leave, feeds_err, feeds_ok, frames_leave, next_known, no_counters, took_some, takes_here}
use Rattle.ode_standby.specs.Taking.{from}
use Rattle.ode_standby.proofs.standby.Standby.take.Goals as goal

pub returns-in_err-counters-clause-feeds : goal.returns-in_err-counters-clause-feeds
returns-in_err-counters-clause-feeds g c most entries next limit held known =
    let p = err_from_is_err_and c.from_residual.result c.from_residual.ensures.1 in
    rw (p.1, p.2) (no_counters most next c.args.self.now.stream.start entries c.args.self.now.stream.begun.items
    (λ before. g.K.Keep.holds c.args.self.now.heap (g.H.Host.view c.args.host.now) before) (λ after. g.K.Keep.holds c.counters.new.self (g.H.Host.view c.counters.new.host) after)
    c.args.self.now.stream c.args.self.now.stream c.in_err-counters.field-0.0 known held (c.in_err-counters.ensures.value entries held) c.in_err-counters.ensures.holds)

pub returns-in_err-counters-clause-any_moment : goal.returns-in_err-counters-clause-any_moment
returns-in_err-counters-clause-any_moment g c most entries next limit held known =
    let s = g.met.K.Keep.stands c.args.self.now.heap c.args.host.now entries held in
    counters_leave g.K.Keep.means most next c.args.self.now.stream.start entries c.args.self.now.stream.begun.items s.0 (g.H.Host.view c.args.host.now) (g.H.Host.view c.counters.new.host)
    s.2 s.1 (g.met.H.Host.text_stands c.args.host.now) c.in_err-counters.ensures.looks

pub returns-in_err-applied-clause-feeds : goal.returns-in_err-applied-clause-feeds
returns-in_err-applied-clause-feeds g c most entries next limit held known =
    let p = err_from_is_err_and c.from_residual-in_err-applied.result c.from_residual-in_err-applied.ensures.1 in
    let same = next_known entries next c.in_ok-counters.counters known (c.in_ok-counters.ensures.value entries held) in
    rw (p.1, p.2) (feeds_err most (from entries next c.args.self.now.stream.start) c.args.self.now.stream.begun.items (λ after. g.K.Keep.holds c.take_frames.new.heap (g.H.Host.view c.take_frames.new.host) after)
    c.args.self.now.stream c.args.self.now.stream c.in_err-applied.field-0.0
    (takes_here most c.in_ok-counters.counters.next_transaction next c.args.self.now.stream.start entries c.as_slice.result.now c.args.self.now.stream.begun.items
    (λ after. g.K.Keep.holds c.take_frames.new.heap (g.H.Host.view c.take_frames.new.host) after) (Err c.in_err-applied.field-0.0) same c.as_slice.ensures.value
    (c.in_err-applied.ensures.takes most entries limit (c.in_ok-counters.ensures.holds entries held) (known ∙ ap Some (sym same)))))

pub returns-in_err-applied-clause-any_moment : goal.returns-in_err-applied-clause-any_moment
returns-in_err-applied-clause-any_moment g c most entries next limit held known =
    let s = g.met.K.Keep.stands c.args.self.now.heap c.args.host.now entries held in
    let same = next_known entries next c.in_ok-counters.counters known (c.in_ok-counters.ensures.value entries held) in
    frames_leave g.K.Keep.means most next c.args.self.now.stream.start entries c.args.self.now.stream.begun.items s.0 (g.H.Host.view c.args.host.now) (g.H.Host.view c.counters.new.host)
    s.2 s.1 (g.met.H.Host.text_stands c.args.host.now) c.in_ok-counters.ensures.looks c.in_ok-counters.counters.next_transaction c.as_slice.result.now (g.H.Host.view c.take_frames.new.host) same c.as_slice.ensures.value
    (c.in_err-applied.ensures.any_moment most entries limit (c.in_ok-counters.ensures.holds entries held) (known ∙ ap Some (sym same)))

pub returns-in_err-pass-clause-feeds : goal.returns-in_err-pass-clause-feeds
returns-in_err-pass-clause-feeds g c most entries next limit held known =
    let p = err_from_is_err_and c.from_residual-in_err-pass.result c.from_residual-in_err-pass.ensures.1 in
    let same = next_known entries next c.in_ok-counters.counters known (c.in_ok-counters.ensures.value entries held) in
    rw (p.1, p.2) (took_some most (from entries next c.args.self.now.stream.start) c.args.self.now.stream.begun.items (λ after. g.K.Keep.holds c.take_frames.new.heap (g.H.Host.view c.take_frames.new.host) after)
    c.in_ok-applied.field-0
    (takes_here most c.in_ok-counters.counters.next_transaction next c.args.self.now.stream.start entries c.as_slice.result.now c.args.self.now.stream.begun.items
    (λ after. g.K.Keep.holds c.take_frames.new.heap (g.H.Host.view c.take_frames.new.host) after) (Ok c.in_ok-applied.field-0) same c.as_slice.ensures.value
    (c.in_ok-applied.ensures.takes most entries limit (c.in_ok-counters.ensures.holds entries held) (known ∙ ap Some (sym same)))))

pub returns-in_err-pass-clause-any_moment : goal.returns-in_err-pass-clause-any_moment
returns-in_err-pass-clause-any_moment g c most entries next limit held known =
    let s = g.met.K.Keep.stands c.args.self.now.heap c.args.host.now entries held in
    let same = next_known entries next c.in_ok-counters.counters known (c.in_ok-counters.ensures.value entries held) in
    frames_leave g.K.Keep.means most next c.args.self.now.stream.start entries c.args.self.now.stream.begun.items s.0 (g.H.Host.view c.args.host.now) (g.H.Host.view c.counters.new.host)
    s.2 s.1 (g.met.H.Host.text_stands c.args.host.now) c.in_ok-counters.ensures.looks c.in_ok-counters.counters.next_transaction c.as_slice.result.now (g.H.Host.view c.take_frames.new.host) same c.as_slice.ensures.value
    (c.in_ok-applied.ensures.any_moment most entries limit (c.in_ok-counters.ensures.holds entries held) (known ∙ ap Some (sym same)))

pub returns-clause-feeds : goal.returns-clause-feeds
returns-clause-feeds g c most entries next limit held known =
    let same = next_known entries next c.in_ok-counters.counters known (c.in_ok-counters.ensures.value entries held) in
    let passed = c.in_ok-pass.ensures.ok in
    feeds_ok most (from entries next c.args.self.now.stream.start) c.args.self.now.stream.begun.items (λ after. g.K.Keep.holds c.take_frames.new.heap (g.H.Host.view c.take_frames.new.host) after)
    c.args.self.now.stream c.pass.new.self c.in_ok-applied.field-0 (c.len.result - length c.in_ok-applied.field-0.rest.now)
    (takes_here most c.in_ok-counters.counters.next_transaction next c.args.self.now.stream.start entries c.as_slice.result.now c.args.self.now.stream.begun.items
    (λ after. g.K.Keep.holds c.take_frames.new.heap (g.H.Host.view c.take_frames.new.host) after) (Ok c.in_ok-applied.field-0) same c.as_slice.ensures.value
    (c.in_ok-applied.ensures.takes most entries limit (c.in_ok-counters.ensures.holds entries held) (known ∙ ap Some (sym same))))
    refl (omega (arith, c.in_ok-applied.ensures.few, ap length c.as_slice.ensures.value)) (omega (arith, c.len.ensures)) passed.0 passed.1 passed.2

pub returns-clause-any_moment : goal.returns-clause-any_moment
returns-clause-any_moment g c most entries next limit held known =
    let s = g.met.K.Keep.stands c.args.self.now.heap c.args.host.now entries held in
    let same = next_known entries next c.in_ok-counters.counters known (c.in_ok-counters.ensures.value entries held) in
    frames_leave g.K.Keep.means most next c.args.self.now.stream.start entries c.args.self.now.stream.begun.items s.0 (g.H.Host.view c.args.host.now) (g.H.Host.view c.counters.new.host)
    s.2 s.1 (g.met.H.Host.text_stands c.args.host.now) c.in_ok-counters.ensures.looks c.in_ok-counters.counters.next_transaction c.as_slice.result.now (g.H.Host.view c.take_frames.new.host) same c.as_slice.ensures.value
    (c.in_ok-applied.ensures.any_moment most entries limit (c.in_ok-counters.ensures.holds entries held) (known ∙ ap Some (sym same)))
