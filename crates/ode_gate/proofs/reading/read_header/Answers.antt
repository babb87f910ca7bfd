use Rattle.std.proofs.Common.{◌≡◌, ◌∙◌, ◌⊎◌, List, ℕ, Result, Ok, Err, inl, inr, ⊎_elim, refl, sym, subst}
use Rattle.std.specs.Prelude.{IfOk, IsErrOf}
use Rattle.ode_host.proofs.Moments.{tells_looks}
use Rattle.ode_gate.specs.declared.error.GateError.{GateError}
use Rattle.ode_gate.specs.declared.error.GateError.TheVariants.{BadHeader, DiskFault, NewerFormat, NoDatabase}
use Rattle.ode_gate.specs.declared.header.Header.{Header}
use Rattle.ode_gate.specs.Readings.{ReadsAs, Says}
use Rattle.ode_gate.proofs.Counting.{rules_from, says_counts, says_found, says_one, says_reason}
use Rattle.ode_gate.proofs.reading.read_header.Goals as goal

at_ok : (r : Result Header GateError) (P : Header → Type 0) → ((h : Header) → r ≡ Ok h → P h) → IfOk r P
at_ok (Ok h) P so = so h refl
at_ok (Err e) P so = tt

-- an answer that is no fault is what the image says
said_so : (image : List ℕ) (r s : Result Header GateError) → (s ≡ Err DiskFault → ⊥) → r ≡ s → IsErrOf r DiskFault ⊎ Says image r → Says image s
said_so image r s differs is answer = ⊎_elim
    (λ (fault : r ≡ Err DiskFault). absurd (differs (sym is ∙ fault)))
    (λ (says : Says image r). subst (λ (x : Result Header GateError). Says image x) is says)
    answer

pub returns-clause-answer : goal.returns-clause-answer
returns-clause-answer g c image tells =
    let first = c.in_ok-first.ensures.slot in
    let second = c.in_ok-second.ensures.slot in
    let later = tells_looks image _ _ c.read_slot.ensures.looks tells in
    inr (record {
      first = c.in_ok-first.first;
      second = c.in_ok-second.second;
      reads_first = subst (λ (l : List ℕ). ReadsAs 0 l c.in_ok-first.first) (first.2 image tells) first.1;
      reads_second = subst (λ (l : List ℕ). ReadsAs 1 l c.in_ok-second.second) (second.2 image later) second.1;
      said = c.header_among.ensures;
    })

pub returns-clause-only : goal.returns-clause-only
returns-clause-only g c image answer tells says = ⊎_elim
    (λ (fault : c.header_among.result ≡ Err DiskFault). inl fault)
    (λ (said : Says image c.header_among.result). inr (says_one image c.header_among.result answer said says))
    (returns-clause-answer g c image tells)

pub returns-clause-counting : goal.returns-clause-counting
returns-clause-counting g c image h tells counts = returns-clause-only g c image (Ok h) tells (says_counts image h counts)

pub returns-clause-rules : goal.returns-clause-rules
returns-clause-rules g c =
    let first = c.in_ok-first.ensures.slot in
    let second = c.in_ok-second.ensures.slot in
    at_ok c.header_among.result _ (λ h is. rules_from first.0 second.0 h _ _ first.1 second.1 (sym is ∙ c.header_among.ensures))

pub returns-clause-found : goal.returns-clause-found
returns-clause-found g c =
    at_ok c.header_among.result _ (λ h is image tells.
    says_found image h (said_so image c.header_among.result (Ok h) (λ (no : Ok h ≡ Err DiskFault). cc (no)) is (returns-clause-answer g c image tells)))

pub returns-clause-no_database : goal.returns-clause-no_database
returns-clause-no_database g c is image tells =
    says_reason image NoDatabase (said_so image c.header_among.result (Err NoDatabase) (λ (no : Err NoDatabase ≡ Err DiskFault). cc (no)) is (returns-clause-answer g c image tells))

pub returns-clause-newer : goal.returns-clause-newer
returns-clause-newer g c format is image tells =
    says_reason image (NewerFormat format) (said_so image c.header_among.result (Err (NewerFormat format)) (λ (no : Err (NewerFormat format) ≡ Err DiskFault). cc (no)) is (returns-clause-answer g c image tells))

pub returns-clause-bad : goal.returns-clause-bad
returns-clause-bad g c at is image tells =
    says_reason image (BadHeader at) (said_so image c.header_among.result (Err (BadHeader at)) (λ (no : Err (BadHeader at) ≡ Err DiskFault). cc (no)) is (returns-clause-answer g c image tells))
