use Rattle.std.proofs.Common.{◌≡◌, ◌∙◌, take, get_or, ap, sym, arith}
use Rattle.std.proofs.lemmas.List.{get_or_default}
use Rattle.ode_host.specs.declared.call.Call.TheVariants.{End}
use Rattle.ode_host.specs.Replay.{HostState, after, first}
use Rattle.ode_host.proofs.Tearing.{after_next}
use Rattle.ode_host.proofs.stop.image_after.Goals as goal

pub loop-call-preserved : goal.loop-call-preserved
loop-call-preserved c =
    let calls = c.args.calls.now in
    let i = c.loop-call.call-index in
    let before = after (take i calls) (first c.args.start.now) in
    let here : get_or calls i End ≡ c.call-item.result = get_or_default calls i End c.call-item.result (omega arith) ∙ sym c.call-item.is in
    let then = after_next calls i c.call-item.result (first c.args.start.now) (omega arith) here in
    sym (c.in_ok-keep_call.ensures before (sym c.loop-call.invariant)) ∙ sym (ap (λ (s : HostState). s.disk.image) then)
