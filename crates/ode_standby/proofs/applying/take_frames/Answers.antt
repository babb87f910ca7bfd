use Rattle.std.proofs.Common.{refl, ◌∙◌, ap, sym, cond, ◌+◌, Bool, ℕ, List, inl, arith}
use Rattle.std.proofs.lemmas.Result.{err_from_is_err_and}
use Rattle.ode_host.proofs.Moments.{joined, started, weaker}
use Rattle.ode_ship.proofs.Frames.{whole_is}
use Rattle.ode_standby.proofs.LoopLaws.{disk_none, disk_ok, disk_on, fails, goes_on, in_none, no_payload, step_some, stops_bad, took_all, whole_longer}
use Rattle.ode_standby.specs.Taking.{from}
use Rattle.ode_standby.proofs.applying.take_frames.Goals as goal
use Rattle.ode_standby.proofs.applying.take_frames.Goals.{then-branch, else-branch}

pub frames-init : goal.frames-init
frames-init g c = record {
  in_frames = λ most entries limit held known. in_none most _ _ entries _ _ held;
  stops = λ most entries limit held known. started (g.H.Host.view c.args.host.now) _;
  few = omega arith;
  live = c.requires.live;
  calls = disk_none (g.H.Host.view c.args.host.now);
}

pub frames-preserved : goal.frames-preserved
frames-preserved g c =
    let f : ℕ × List _ = (c.in_ok-shipped-in-Whole.shipped.number, c.in_ok-shipped-in-Whole.shipped.batch) in
    let one = whole_is f c.frames.rest.now c.in-Whole.payload.now c.in-Whole.behind.now c.in-Whole.ensures c.in_ok-shipped-in-Whole.ensures.some.0 in
    let done = c.in_ok-take_frame-in-Whole.field-0 in
    record {
      in_frames = λ most entries limit held known.
          let i = c.frames.invariant.in_frames most entries limit held known in
          goes_on most (from entries c.args.number c.args.start) c.args.start c.args.bytes.now c.frames.rest.now c.in-Whole.behind.now f c.frames.next c.frames.applied c.frames.skipped _ _ done _ _ _
          (elim c.if-branch.branch [ then-branch w ↦ w.next-is ∙ ap (λ (b : Bool). cond b (c.frames.next + 1) c.frames.next) (sym w.if-branch.true) | else-branch w ↦ w.next-is ∙ ap (λ (b : Bool). cond b (c.frames.next + 1) c.frames.next) (sym w.if-branch.false) ])
          (elim c.if-branch.branch [ then-branch w ↦ w.applied-is ∙ ap (λ (b : Bool). cond b (c.frames.applied + 1) c.frames.applied) (sym w.if-branch.true) | else-branch w ↦ w.applied-is ∙ ap (λ (b : Bool). cond b (c.frames.applied + 1) c.frames.applied) (sym w.if-branch.false) ])
          (elim c.if-branch.branch [ then-branch w ↦ w.skipped-is ∙ ap (λ (b : Bool). cond b c.frames.skipped (c.frames.skipped + 1)) (sym w.if-branch.true) | else-branch w ↦ w.skipped-is ∙ ap (λ (b : Bool). cond b c.frames.skipped (c.frames.skipped + 1)) (sym w.if-branch.false) ])
          i one (c.in_ok-take_frame-in-Whole.ensures.takes most i.reached limit i.holds i.next_is);
      stops = λ most entries limit held known.
          let i = c.frames.invariant.in_frames most entries limit held known in
          joined _ (g.H.Host.view c.frames.host) _ _ (c.frames.invariant.stops most entries limit held known)
          (weaker _ _ _ _ (λ image out l. step_some most (from entries c.args.number c.args.start) c.args.start c.args.bytes.now (λ after. Unit {0}) i.reached c.frames.rest.now c.in-Whole.behind.now f i.leads one
          g.K.Keep.means (g.H.Host.view c.args.host.now) (g.H.Host.view c.frames.host) image out c.frames.invariant.calls.text l)
          (c.in_ok-take_frame-in-Whole.ensures.any_moment i.reached i.holds i.next_is));
      few = elim c.if-branch.branch [
        | then-branch w ↦ omega (arith, w.applied-is, w.skipped-is, c.frames.invariant.few, whole_longer c.frames.rest.now c.in-Whole.payload.now c.in-Whole.behind.now c.in-Whole.ensures)
        | else-branch w ↦ omega (arith, w.applied-is, w.skipped-is, c.frames.invariant.few, whole_longer c.frames.rest.now c.in-Whole.payload.now c.in-Whole.behind.now c.in-Whole.ensures)
      ];
      live = c.in_ok-take_frame-in-Whole.ensures.usable;
      calls = disk_on ⊥ (g.H.Host.view c.args.host.now) (g.H.Host.view c.frames.host) (g.H.Host.view c.take_frame.new.host) c.frames.invariant.calls (disk_ok done (g.H.Host.view c.frames.host) (g.H.Host.view c.take_frame.new.host) c.in_ok-take_frame-in-Whole.ensures.leaves);
    }

pub returns-in-Begun-clause-takes : goal.returns-in-Begun-clause-takes
returns-in-Begun-clause-takes g c most entries limit held known =
    took_all most (from entries c.args.number c.args.start) c.args.start c.args.bytes.now _ _ c.frames.next refl (c.frames.invariant.in_frames most entries limit held known) c.in-Begun.ensures

pub returns-in-NoLength-clause-takes : goal.returns-in-NoLength-clause-takes
returns-in-NoLength-clause-takes g c most entries limit held known =
    stops_bad most _ c.args.start c.args.bytes.now _ c.frames.rest.now c.frames.next c.frames.applied c.frames.skipped _
    (c.frames.invariant.in_frames most entries limit held known) (omega (arith, c.frames.invariant.few)) c.place.ensures (inl c.in-NoLength.ensures)

pub returns-in_err-shipped-in-Whole-clause-takes : goal.returns-in_err-shipped-in-Whole-clause-takes
returns-in_err-shipped-in-Whole-clause-takes g c most entries limit held known =
    let p = err_from_is_err_and c.from_residual.result c.from_residual.ensures.1 in
    rw (p.1, p.2) (no_payload most (from entries c.args.number c.args.start) c.args.start c.args.bytes.now (λ after. g.K.Keep.holds c.frames.heap (g.H.Host.view c.frames.host) after) c.frames.rest.now c.in-Whole.payload.now c.in-Whole.behind.now c.frames.next c.frames.applied c.frames.skipped _ c.in_err-shipped-in-Whole.field-0.0
    (c.frames.invariant.in_frames most entries limit held known) (omega (arith, c.frames.invariant.few)) c.place-in-Whole.ensures c.in-Whole.ensures c.in_err-shipped-in-Whole.ensures.none)

pub returns-in_err-take_frame-in-Whole-clause-takes : goal.returns-in_err-take_frame-in-Whole-clause-takes
returns-in_err-take_frame-in-Whole-clause-takes g c most entries limit held known =
    let i = c.frames.invariant.in_frames most entries limit held known in
    let f : ℕ × List _ = (c.in_ok-shipped-in-Whole.shipped.number, c.in_ok-shipped-in-Whole.shipped.batch) in
    let p = err_from_is_err_and c.from_residual-in_err-take_frame-in-Whole.result c.from_residual-in_err-take_frame-in-Whole.ensures.1 in
    rw (p.1, p.2) (fails most (from entries c.args.number c.args.start) c.args.start c.args.bytes.now (λ after. g.K.Keep.holds c.take_frame.new.heap (g.H.Host.view c.take_frame.new.host) after) i.reached c.frames.rest.now c.in-Whole.behind.now f i.leads
    (whole_is f c.frames.rest.now c.in-Whole.payload.now c.in-Whole.behind.now c.in-Whole.ensures c.in_ok-shipped-in-Whole.ensures.some.0)
    c.in_err-take_frame-in-Whole.field-0.0 (c.in_err-take_frame-in-Whole.ensures.takes most i.reached limit i.holds i.next_is))

pub returns-in_err-take_frame-in-Whole-clause-any_moment : goal.returns-in_err-take_frame-in-Whole-clause-any_moment
returns-in_err-take_frame-in-Whole-clause-any_moment g c most entries limit held known =
    let i = c.frames.invariant.in_frames most entries limit held known in
    let f : ℕ × List _ = (c.in_ok-shipped-in-Whole.shipped.number, c.in_ok-shipped-in-Whole.shipped.batch) in
    joined _ (g.H.Host.view c.frames.host) _ _ (c.frames.invariant.stops most entries limit held known)
    (weaker _ _ _ _ (λ image out l. step_some most (from entries c.args.number c.args.start) c.args.start c.args.bytes.now (λ after. Unit {0}) i.reached c.frames.rest.now c.in-Whole.behind.now f i.leads
    (whole_is f c.frames.rest.now c.in-Whole.payload.now c.in-Whole.behind.now c.in-Whole.ensures c.in_ok-shipped-in-Whole.ensures.some.0)
    g.K.Keep.means (g.H.Host.view c.args.host.now) (g.H.Host.view c.frames.host) image out c.frames.invariant.calls.text l)
    (c.in_err-take_frame-in-Whole.ensures.any_moment i.reached i.holds i.next_is))
