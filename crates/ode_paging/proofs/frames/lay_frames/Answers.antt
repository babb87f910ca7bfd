use Rattle.std.proofs.Common.{◌≡◌, ◌∙◌, ℕ, length, Err, refl, ⊎_elim, ap, sym, subst, rules}
use Rattle.std.proofs.lemmas.Bool.{OnFalse_at, OnTrue_at}
use Rattle.std.proofs.lemmas.Result.{err_from_is_err_and}
use Rattle.ode_host.proofs.Moments.{looks_joined, looks_none, tells_looks}
use Rattle.ode_journal.specs.declared.error.JournalError.TheVariants.{BadJournal}
use Rattle.ode_journal.specs.Frames.{IsFramed, IsShut}
use Rattle.ode_journal.specs.Histories.{IsBadFrom}
use Rattle.ode_journal.proofs.Histories.{all_frames, bad_frame, bad_payload, none_yet, one_frame}
use Rattle.ode_paging.specs.Images.{IsPayload}
use Rattle.ode_paging.specs.Overlays.{laid}
use Rattle.ode_paging.proofs.frames.lay_frames.Goals as goal

pub frames-init : goal.frames-init
frames-init g c = record {
  looks = looks_none (g.H.Host.view c.args.host.now);
  faults = refl;
  ahead = λ file tells. c.in_ok-ahead.ensures file;
  so_far = λ file tells. none_yet IsPayload laid c.args.start c.args.end c.args.images.now file;
}

pub returns-in_err-payload-clause-bad : goal.returns-in_err-payload-clause-bad
returns-in_err-payload-clause-bad g c =
    let p = err_from_is_err_and c.from_residual-in_err-payload.result c.from_residual-in_err-payload.ensures.1 in
    rw (p.1, p.2) (λ place e file tells.
    let so_far = c.frames.invariant in
    let same : c.in_err-payload.field-0.0 ≡ BadJournal place = cc (e) in
    let bad = c.in_err-payload.ensures.bad place (ap Err same) in
    subst (λ (k : ℕ). IsBadFrom IsPayload c.args.start c.args.end k file) (sym bad.0)
    (bad_frame IsPayload laid c.args.start c.args.end c.frames.at c.args.images.now c.frames.images file (so_far.so_far file tells) (bad.1 file (record { tells = tells_looks file _ _ so_far.looks tells; ahead = so_far.ahead file tells }))))

pub returns-in_default-clause-found : goal.returns-in_default-clause-found
returns-in_default-clause-found g c file tells =
    let so_far = c.frames.invariant in
    let here : IsShut c.args.end c.frames.at file = (rw c.in_default.is at c.in_ok-payload.ensures.found) file (record { tells = tells_looks file _ _ so_far.looks tells; ahead = so_far.ahead file tells }) in
    all_frames IsPayload laid c.args.start c.args.end c.frames.at c.args.images.now c.frames.images file (so_far.so_far file tells) here

pub returns-then-not-branch-clause-bad : goal.returns-then-not-branch-clause-bad
returns-then-not-branch-clause-bad g c place e file tells =
    let so_far = c.frames.invariant in
    let here : IsFramed c.args.end c.frames.at c.in-Some.payload file = (rw c.in-Some.is at c.in_ok-payload.ensures.found) file (record { tells = tells_looks file _ _ so_far.looks tells; ahead = so_far.ahead file tells }) in
    let same : c.frames.at ≡ place = cc (e) in
    let other = OnFalse_at c.if-not-branch.true c.in_ok-lay.ensures.other in
    subst (λ (k : ℕ). IsBadFrom IsPayload c.args.start c.args.end k file) same
    (bad_payload IsPayload laid c.args.start c.args.end c.frames.at c.args.images.now c.frames.images file (so_far.so_far file tells)
    (record { payload = c.in-Some.payload; stands = here; other = λ over form. other over (rw c.as_slice.ensures form) }))

pub frames-preserved : goal.frames-preserved
frames-preserved g c =
    let so_far = c.frames.invariant in
    let made = OnTrue_at c.if-not-branch.false c.in_ok-lay.ensures.whole in
    record {
      looks = looks_joined _ _ _ so_far.looks c.next_frame.ensures.looks;
      faults = ⊎_elim (λ err. cc (err)) (λ same. same ∙ so_far.faults) c.in_ok-payload.ensures.cause.calm;
      ahead = λ file tells. c.in_ok-payload.ensures.ahead file (tells_looks file _ _ so_far.looks tells) (so_far.ahead file tells);
      so_far = λ file tells.
          let here : IsFramed c.args.end c.frames.at c.in-Some.payload file = (rw c.in-Some.is at c.in_ok-payload.ensures.found) file (record { tells = tells_looks file _ _ so_far.looks tells; ahead = so_far.ahead file tells }) in
          let form : IsPayload made.0 c.in-Some.payload = rw (← c.as_slice.ensures) made.1 in
          let long : c.len.result ≡ length c.in-Some.payload = search rules in
          rw long (one_frame IsPayload laid c.args.start c.args.end c.frames.at c.args.images.now c.frames.images file (so_far.so_far file tells) c.in-Some.payload made.0 c.lay.new.images here form made.2);
    }
