use Rattle.std.proofs.Common.{◌≡◌, ◌++◌, List, ℕ, length, take, drop, sym, ◌∙◌, ap, subst, arith, refl, take-append-drop}
use Rattle.std.proofs.lemmas.Slice.Eq.{bytes_eq-Decides}
use Rattle.std.specs.Prelude.{codes}
use Rattle.ode_gate.specs.Headers.{header_bytes, IsHeader}
use Rattle.ode_gate.proofs.Spelling.{InRange, is_in_range, length-header_bytes, moved_header, same_header}
use Rattle.ode_gate.proofs.header.Header.parse.Goals as goal

pub returns-in_err-fields-clause-none : goal.returns-in_err-fields-clause-none
unfolding header_bytes
returns-in_err-fields-clause-none c =
    rw c.from_residual.ensures (λ h rules same. let differs = rw same at c.in_err-fields.ensures.cases in cc (differs))

pub returns-in_err-header-clause-none : goal.returns-in_err-header-clause-none
returns-in_err-header-clause-none c =
    rw c.from_residual-in_err-header.ensures (λ h rules same.
    c.in_err-header.ensures.none (omega (arith, c.in_ok-fields.ensures.cases.2, ap length same, length-header_bytes h)))

pub returns-else-is_valid-clause-none : goal.returns-else-is_valid-clause-none
returns-else-is_valid-clause-none c h rules same =
    let found = c.in_ok-header.header in
    let bytes = c.args.bytes.now in
    let cut = c.in_ok-fields.ensures.cases in
    let front : take 8 bytes ≡ codes "ODEBASE1" = (bytes_eq-Decides (take 8 bytes) (codes "ODEBASE1")).0 cut.0 in
    let spelled : bytes ≡ header_bytes found =
    sym (take-append-drop 8 bytes) ∙ ap (λ (l : List ℕ). l ++ drop 8 bytes) front
    ∙ ap (λ (l : List ℕ). codes "ODEBASE1" ++ l) (sym cut.1) ∙ c.in_ok-header.ensures.spells in
    let fits : InRange found = record {
      format = omega arith;
      layout = omega arith;
      generation = omega arith;
      body_at = omega arith;
      body_len = omega arith;
      journal_at = omega arith;
      journal_end = omega arith;
    } in
    let moved = moved_header h found.slot rules in
    let is : record h { slot = found.slot } ≡ found = same_header (record h { slot = found.slot }) found (is_in_range _ moved.0) fits (moved.1 ∙ sym same ∙ spelled) refl in
    let kept = c.if-is_valid.ensures.1 (subst IsHeader is moved.0) in
    cc (kept)
