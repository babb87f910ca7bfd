use Rattle.std.proofs.Common.{◌≡◌, ℕ, List, ◌++◌, None, sym, subst}
use Rattle.ode_expr.specs.Answers.{LookedAs, stopped_by}
use Rattle.ode_run_frame.proofs.Lent.{begins, begins_plain, ends, ends_plain}
use Rattle.ode_value.specs.Evaluation.{looks_in}
use Rattle.ode_run_frame.proofs.evaluation.evaluate_in.Goals as goal

pub returns-clause-value : goal.returns-clause-value
returns-clause-value g c = λ base b held reads.
    c.eval.ensures.value _
    (begins g.H.Host.view g.K.Keep.holds g.K.Keep.live _ _ _ c.args.host.now c.args.heap.now c.args.classes.now c.args.overlay.now base b c.requires.live held reads)

pub returns-clause-looks : goal.returns-clause-looks
returns-clause-looks g c = λ base b held reads.
    let begun = begins g.H.Host.view g.K.Keep.holds g.K.Keep.live _ _ _ c.args.host.now c.args.heap.now c.args.classes.now c.args.overlay.now base b c.requires.live held reads in
    let looks = c.eval.ensures.looks _ begun in
    let after = c.eval.ensures.shows _ begun in
    let is : _ ≡ c.eval.new.frame.looked.now = c.looked-1.given.1 (sym after.looked) in
    subst (λ (l : List ℕ). LookedAs c.eval.result l (c.args.looked.now ++ looks_in c.args.e.now b (record { this = c.args.scene.now.this; locals = c.args.scene.now.locals }))) (sym is) looks

pub returns-clause-behind : goal.returns-clause-behind
returns-clause-behind g c = λ base b held reads.
    let after =
    c.eval.ensures.shows _
    (begins g.H.Host.view g.K.Keep.holds g.K.Keep.live _ _ _ c.args.host.now c.args.heap.now c.args.classes.now c.args.overlay.now base b c.requires.live held reads) in
    ends g.H.Host.view g.K.Keep.holds g.K.Keep.live (g.H.Host.view c.args.host.now) _ c.eval.new.frame.heap.now _ c.eval.new.frame.host.now (stopped_by c.eval.result None) c.eval.new.frame.stopped base
    (c.heap-1.given.1 (sym after.heap)) (c.host-1.given.1 (sym after.host)) c.eval.ensures.stopped after.behind

pub returns-clause-since : goal.returns-clause-since
returns-clause-since g c =
    let after =
    c.eval.ensures.follows _
    (begins_plain g.H.Host.view g.K.Keep.live _ _ _ c.args.host.now c.args.heap.now c.requires.live) in
    ends_plain g.H.Host.view g.K.Keep.live (g.H.Host.view c.args.host.now) _ c.eval.new.frame.heap.now _ c.eval.new.frame.host.now (stopped_by c.eval.result None) c.eval.new.frame.stopped
    (c.heap-1.given.1 (sym after.heap)) (c.host-1.given.1 (sym after.host)) c.eval.ensures.stopped after.since
