use Rattle.std.proofs.Common.{◌≡◌, inr, Err, Ok, Some, None, ap, arith}
use Rattle.std.proofs.lemmas.Bool.{OnTrue_at, OnFalse_at}
use Rattle.std.proofs.lemmas.Result.{err_from_is_err_and}
use Rattle.ode_journal.specs.declared.error.JournalError.TheVariants.{BadJournal}
use Rattle.ode_journal.proofs.Ahead.{reads_on}
use Rattle.ode_journal.proofs.Frames.{frame_whole}
use Rattle.ode_journal.proofs.Exact.{exact_next, exact_bad_next, payload_bad}
use Rattle.ode_journal.proofs.reading.next_frame.Goals as goal

pub returns-then-not-branch-clause-whole : goal.returns-then-not-branch-clause-whole
returns-then-not-branch-clause-whole g c file next tells is =
    let shut = OnFalse_at c.if-not-branch.true c.in_ok-is_open.ensures.shut file tells in
    exact_next c.args.end c.args.at file (Ok None) shut (λ p e. cc) next is

pub returns-then-not-branch-clause-broken : goal.returns-then-not-branch-clause-broken
returns-then-not-branch-clause-broken g c file tells is =
    let shut = OnFalse_at c.if-not-branch.true c.in_ok-is_open.ensures.shut file tells in
    exact_bad_next c.args.end c.args.at file (Ok None) shut (λ p e. cc) is

pub returns-in_err-length-clause-whole : goal.returns-in_err-length-clause-whole
returns-in_err-length-clause-whole g c =
    let p = err_from_is_err_and c.from_residual-in_err-length.result c.from_residual-in_err-length.ensures.1 in
    rw (p.1, p.2) (λ file next tells is.
    let gate = OnTrue_at c.if-not-branch.false c.in_ok-is_open.ensures.opened file tells in
    exact_next c.args.end c.args.at file (Err c.in_err-length.field-0.0) tt
    (λ place e. let same : c.in_err-length.field-0.0 ≡ BadJournal place = cc (e) in let bad = c.in_err-length.ensures.bad place (ap Err same) in (bad.0, inr (gate, bad.1 file (reads_on file _ _ _ _ c.is_open.ensures.looks c.in_ok-is_open.ensures.ahead tells)))) next is)

pub returns-in_err-payload-clause-whole : goal.returns-in_err-payload-clause-whole
returns-in_err-payload-clause-whole g c =
    let p = err_from_is_err_and c.from_residual-in_err-payload.result c.from_residual-in_err-payload.ensures.1 in
    rw (p.1, p.2) (λ file next tells is.
    let gate = OnTrue_at c.if-not-branch.false c.in_ok-is_open.ensures.opened file tells in
    let reads = reads_on file _ _ _ _ c.is_open.ensures.looks c.in_ok-is_open.ensures.ahead tells in
    exact_next c.args.end c.args.at file (Err c.in_err-payload.field-0.0) tt
    (λ place e.
    let same : c.in_err-payload.field-0.0 ≡ BadJournal place = cc (e) in
    let bad = c.in_err-payload.ensures.bad place (ap Err same) in (
      bad.0,
      payload_bad c.args.end c.args.at c.in_ok-length.length file (omega arith) gate (c.in_ok-length.ensures.spelled file reads) (bad.1 file (reads_on file _ _ _ _ c.read_length.ensures.looks c.in_ok-length.ensures.ahead reads)),
    )) next is)

pub returns-clause-found : goal.returns-clause-found
returns-clause-found g c file tells =
    let reads = reads_on file _ _ _ _ c.is_open.ensures.looks c.in_ok-is_open.ensures.ahead tells in
    frame_whole c.args.end c.args.at c.in_ok-length.length file c.in_ok-payload.payload
    (OnTrue_at c.if-not-branch.false c.in_ok-is_open.ensures.opened file tells)
    (c.in_ok-length.ensures.spelled file reads)
    (c.in_ok-payload.ensures.bytes file (reads_on file _ _ _ _ c.read_length.ensures.looks c.in_ok-length.ensures.ahead reads))
    c.in_ok-payload.ensures.long (omega arith) c.in_ok-length.ensures.within

pub returns-clause-whole : goal.returns-clause-whole
returns-clause-whole g c file next tells is =
    exact_next c.args.end c.args.at file (Ok (Some c.in_ok-payload.payload)) (returns-clause-found g c file tells) (λ p e. cc) next is

pub returns-clause-broken : goal.returns-clause-broken
returns-clause-broken g c file tells is =
    exact_bad_next c.args.end c.args.at file (Ok (Some c.in_ok-payload.payload)) (returns-clause-found g c file tells) (λ p e. cc) is
