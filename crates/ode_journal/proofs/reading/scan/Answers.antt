use Rattle.std.proofs.Common.{◌≡◌, List, ℕ, length, Err, Ok, ⊎_elim, ◌∙◌, ap, subst, arith, rules}
use Rattle.std.proofs.lemmas.Result.{err_from_is_err_and}
use Rattle.ode_host.proofs.Moments.{looks_joined, tells_looks}
use Rattle.ode_journal.specs.declared.error.JournalError.TheVariants.{BadJournal}
use Rattle.ode_journal.specs.declared.journal.Journal.{Journal}
use Rattle.ode_journal.specs.Frames.{IsShut, IsFramed}
use Rattle.ode_journal.proofs.Frames.{one_more, gate_behind-push, frames_and_gate, broken_at}
use Rattle.ode_journal.proofs.Exact.{exact_scan, exact_broken}
use Rattle.ode_journal.proofs.reading.scan.Goals as goal

pub returns-in_err-next_frame-clause-bad : goal.returns-in_err-next_frame-clause-bad
returns-in_err-next_frame-clause-bad g c =
    let p = err_from_is_err_and c.from_residual-in_err-next_frame.result c.from_residual-in_err-next_frame.ensures.1 in
    rw (p.1, p.2) (λ place e file tells.
    let so_far = c.frames.invariant in
    let same : c.in_err-next_frame.field-0.0 ≡ BadJournal place = cc (e) in
    let bad = c.in_err-next_frame.ensures.bad place (ap Err same) in
    broken_at c.args.start c.args.end c.frames.at c.frames.frames file (so_far.so_far file tells) so_far.place place bad.0 (bad.1 file (record { tells = tells_looks file _ _ so_far.looks tells; ahead = so_far.ahead file tells })))

pub returns-in_err-next_frame-clause-whole : goal.returns-in_err-next_frame-clause-whole
returns-in_err-next_frame-clause-whole g c =
    let p = err_from_is_err_and c.from_residual-in_err-next_frame.result c.from_residual-in_err-next_frame.ensures.1 in
    rw (p.1, p.2) (λ file frames tells is.
    let so_far = c.frames.invariant in
    exact_scan c.args.start c.args.end file (Err c.in_err-next_frame.field-0.0) tt
    (λ place e.
    let same : c.in_err-next_frame.field-0.0 ≡ BadJournal place = cc (e) in
    let bad = c.in_err-next_frame.ensures.bad place (ap Err same) in
    broken_at c.args.start c.args.end c.frames.at c.frames.frames file (so_far.so_far file tells) so_far.place place bad.0 (bad.1 file (record { tells = tells_looks file _ _ so_far.looks tells; ahead = so_far.ahead file tells })))
    frames is)

pub returns-in_err-next_frame-clause-broken : goal.returns-in_err-next_frame-clause-broken
returns-in_err-next_frame-clause-broken g c =
    let p = err_from_is_err_and c.from_residual-in_err-next_frame.result c.from_residual-in_err-next_frame.ensures.1 in
    rw (p.1, p.2) (λ file place tells is.
    let so_far = c.frames.invariant in
    exact_broken c.args.start c.args.end file (Err c.in_err-next_frame.field-0.0) tt
    (λ other e.
    let same : c.in_err-next_frame.field-0.0 ≡ BadJournal other = cc (e) in
    let bad = c.in_err-next_frame.ensures.bad other (ap Err same) in
    broken_at c.args.start c.args.end c.frames.at c.frames.frames file (so_far.so_far file tells) so_far.place other bad.0 (bad.1 file (record { tells = tells_looks file _ _ so_far.looks tells; ahead = so_far.ahead file tells })))
    place is)

pub returns-in-None-clause-found : goal.returns-in-None-clause-found
returns-in-None-clause-found g c file tells =
    let so_far = c.frames.invariant in
    let here : IsShut c.args.end c.frames.at file = (rw c.in-None.is at c.in_ok-next_frame.ensures.found) file (record { tells = tells_looks file _ _ so_far.looks tells; ahead = so_far.ahead file tells }) in
    frames_and_gate c.args.start c.args.end c.frames.at c.frames.frames file (so_far.so_far file tells) so_far.place here

pub returns-in-None-clause-whole : goal.returns-in-None-clause-whole
returns-in-None-clause-whole g c file frames tells is =
    let journal : ℕ → Journal × List (List ℕ) = λ k. (record { at = k; end = c.args.end }, c.frames.frames) in
    exact_scan c.args.start c.args.end file (Ok (record { at = c.frames.at; end = c.args.end }, c.frames.frames))
    (returns-in-None-clause-found g c file tells, ap journal c.frames.invariant.place) (λ p e. cc) frames is

pub returns-in-None-clause-broken : goal.returns-in-None-clause-broken
returns-in-None-clause-broken g c file place tells is =
    let journal : ℕ → Journal × List (List ℕ) = λ k. (record { at = k; end = c.args.end }, c.frames.frames) in
    exact_broken c.args.start c.args.end file (Ok (record { at = c.frames.at; end = c.args.end }, c.frames.frames))
    (returns-in-None-clause-found g c file tells, ap journal c.frames.invariant.place) (λ p e. cc) place is

pub frames-preserved : goal.frames-preserved
frames-preserved g c =
    let so_far = c.frames.invariant in
    let frames = c.frames.frames in
    let payload = c.in-Some.payload in
    let items = c.in_ok-push-in-Some.ensures.ok in
    let len : c.len.result ≡ length payload = search rules in
    record {
      looks = looks_joined _ _ _ so_far.looks c.next_frame.ensures.looks;
      faults = ⊎_elim (λ err. cc (err)) (λ same. same ∙ so_far.faults) c.in_ok-next_frame.ensures.cause.calm;
      ahead = λ file tells. c.in_ok-next_frame.ensures.ahead file (tells_looks file _ _ so_far.looks tells) (so_far.ahead file tells);
      place = rw items (omega (arith, so_far.place, len, gate_behind-push c.args.start frames payload));
      so_far = λ file tells.
          let next : IsFramed c.args.end c.frames.at payload file = (rw c.in-Some.is at c.in_ok-next_frame.ensures.found) file (record { tells = tells_looks file _ _ so_far.looks tells; ahead = so_far.ahead file tells }) in
          rw items (one_more c.args.start c.args.end frames payload file (so_far.so_far file tells) (subst (λ (k : ℕ). IsFramed c.args.end k payload file) so_far.place next));
    }
