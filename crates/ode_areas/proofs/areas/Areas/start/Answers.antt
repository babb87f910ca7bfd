use Rattle.std.proofs.Common.{◌≡◌, ℕ, inl, inr, true, Err, IsErrOf, Ok, ap}
use Rattle.std.proofs.lemmas.Result.{err_from_is_err_and}
use Rattle.ode_host.proofs.Moments.{looks_joined, stands_looks, tells_looks}
use Rattle.ode_journal.proofs.Starting.{no_page, only_bad}
use Rattle.ode_keep.specs.Entries.{Entries, record_bytes}
use Rattle.ode_areas.specs.OneMap.{one_has}
use Rattle.ode_keep.specs.declared.error.StartError.TheVariants.{BadJournal, BadPage}
use Rattle.ode_areas.proofs.Started.{exact_refuses, exact_starts, has_map, holds_map, of_areas}
use Rattle.ode_areas.proofs.areas.Areas.start.Goals as goal

pub returns-in_err-load_body-clause-whole : goal.returns-in_err-load_body-clause-whole
returns-in_err-load_body-clause-whole g c =
    let p = err_from_is_err_and c.from_residual.result c.from_residual.ensures.1 in
    rw (p.1, p.2) (λ file entries tells has.
    let e = c.in_err-load_body.field-0.0 in
    exact_starts c.args.h.now file (of_areas c.args.h.now c.requires.rules c.requires.areas) (Err e)
    (λ at is. let same : e ≡ BadJournal at = cc (is) in inl (c.in_err-load_body.ensures.bad at (ap Err same) file tells))
    (λ page is. let same : e ≡ BadPage page = cc (is) in c.in_err-load_body.ensures.no_page page (ap Err same))
    entries has)

pub returns-in_err-load_body-clause-broken : goal.returns-in_err-load_body-clause-broken
returns-in_err-load_body-clause-broken g c =
    let p = err_from_is_err_and c.from_residual.result c.from_residual.ensures.1 in
    rw (p.1, p.2) (λ file place tells bad.
    let e = c.in_err-load_body.field-0.0 in
    exact_refuses c.args.h.now file (of_areas c.args.h.now c.requires.rules c.requires.areas) (Err e) tt
    (λ at is. let same : e ≡ BadJournal at = cc (is) in inl (c.in_err-load_body.ensures.bad at (ap Err same) file tells))
    (λ page is. let same : e ≡ BadPage page = cc (is) in c.in_err-load_body.ensures.no_page page (ap Err same))
    place bad)

pub returns-in_err-journal-clause-bad : goal.returns-in_err-journal-clause-bad
returns-in_err-journal-clause-bad g c =
    let p = err_from_is_err_and c.from_residual-in_err-journal.result c.from_residual-in_err-journal.ensures.1 in
    rw (p.1, p.2) (λ at is file tells.
    let e = c.in_err-journal.field-0.0 in
    let same = only_bad e at (cc (is)) in
    let body = c.in_ok-load_body.ensures.found file tells in
    inr (record {
      body = c.load_body.new.map;
      snapshot = body.0;
      whole = body.1;
      journal = c.in_err-journal.ensures.bad at (ap Err same) file (tells_looks file _ _ c.load_body.ensures.looks tells);
    }))

pub returns-in_err-journal-clause-whole : goal.returns-in_err-journal-clause-whole
returns-in_err-journal-clause-whole g c =
    let p = err_from_is_err_and c.from_residual-in_err-journal.result c.from_residual-in_err-journal.ensures.1 in
    let bad = returns-in_err-journal-clause-bad g c in
    let page : (page : ℕ) → IsErrOf c.from_residual-in_err-journal.result (BadPage page) → ⊥
    = rw (p.1, p.2) (λ page is. no_page c.in_err-journal.field-0.0 page (cc (is))) in
    λ file entries tells has.
    exact_starts c.args.h.now file (of_areas c.args.h.now c.requires.rules c.requires.areas) c.from_residual-in_err-journal.result
    (λ at is. bad at is file tells) page entries has

pub returns-in_err-journal-clause-broken : goal.returns-in_err-journal-clause-broken
returns-in_err-journal-clause-broken g c =
    let p = err_from_is_err_and c.from_residual-in_err-journal.result c.from_residual-in_err-journal.ensures.1 in
    let bad = returns-in_err-journal-clause-bad g c in
    let page : (page : ℕ) → IsErrOf c.from_residual-in_err-journal.result (BadPage page) → ⊥
    = rw (p.1, p.2) (λ page is. no_page c.in_err-journal.field-0.0 page (cc (is))) in
    λ file place tells is_bad.
    exact_refuses c.args.h.now file (of_areas c.args.h.now c.requires.rules c.requires.areas) c.from_residual-in_err-journal.result
    (rw p.1 tt) (λ at is. bad at is file tells) page place is_bad

pub returns-clause-found : goal.returns-clause-found
returns-clause-found g c file tells = (
  c.replay_frames.new.map,
  has_map c.args.h.now file c.load_body.new.map c.replay_frames.new.map c.in_ok-journal.journal (c.in_ok-load_body.ensures.found file tells).0
      (c.in_ok-journal.ensures.found file (tells_looks file _ _ c.load_body.ensures.looks tells)),
)

pub returns-clause-holds : goal.returns-clause-holds
returns-clause-holds g c file entries stands counts has =
    holds_map (record { header = c.args.h.now; journal = c.in_ok-journal.journal; map = c.replay_frames.new.map; is_live = true; alloc = c.args.alloc })
    file c.load_body.new.map entries _ (of_areas c.args.h.now c.requires.rules c.requires.areas)
    (stands_looks file _ _ (looks_joined _ _ _ c.load_body.ensures.looks c.replay_frames.ensures.looks) stands) counts
    (c.in_ok-load_body.ensures.found file stands.tells).0
    (c.in_ok-journal.ensures.found file (tells_looks file _ _ c.load_body.ensures.looks stands.tells))
    has

pub returns-clause-bytes : goal.returns-clause-bytes
unfolding returns-clause-found
returns-clause-bytes g c file entries tells has =
    let own = returns-clause-found g c file tells in
    ap (λ (l : Entries). record_bytes l) (one_has c.args.h.now file own.0 entries own.1 has)

pub returns-clause-broken : goal.returns-clause-broken
returns-clause-broken g c file place tells is_bad =
    exact_refuses c.args.h.now file (of_areas c.args.h.now c.requires.rules c.requires.areas)
    (Ok (record { header = c.args.h.now; journal = c.in_ok-journal.journal; map = c.replay_frames.new.map; is_live = true; alloc = c.args.alloc }))
    (returns-clause-found g c file tells) (λ at is. absurd (cc (is))) (λ page is. cc (is)) place is_bad
