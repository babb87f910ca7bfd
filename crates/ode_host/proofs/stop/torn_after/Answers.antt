use Rattle.std.proofs.Common.{◌≡◌, ◌∙◌, take, get_or, sym, subst, arith}
use Rattle.std.proofs.lemmas.List.{get_or_default}
use Rattle.ode_host.specs.declared.call.Call.TheVariants.{End}
use Rattle.ode_host.specs.Replay.{HostState, after}
use Rattle.ode_host.proofs.Tearing.{IsTornBy, after_next, torn_next}
use Rattle.ode_host.proofs.stop.torn_after.Goals as goal

pub loop-call-preserved : goal.loop-call-preserved
loop-call-preserved c s none synced =
    let calls = c.args.calls.now in
    let i = c.loop-call.call-index in
    let call = c.call-item.result in
    let here : get_or calls i End ≡ call = get_or_default calls i End call (omega arith) ∙ sym c.call-item.is in
    let then = after_next calls i call s (omega arith) here in
    let next = torn_next c.args.torn c.loop-call.torn c.in_ok-torn.torn (after (take i calls) s) call c.loop-call.held.items c.tear_call.new.held.items
    (λ is_sync. c.requires i (omega arith) (omega arith) (here ∙ is_sync)) (c.loop-call.invariant s none synced) c.in_ok-torn.ensures in
    subst (λ (s : HostState). IsTornBy c.args.torn s c.in_ok-torn.torn c.tear_call.new.held.items) (sym then) next
