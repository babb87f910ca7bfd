use Rattle.std.proofs.Common.{List, ℕ}
use Rattle.std.proofs.lemmas.Result.{err_from_is_err_and}
use Rattle.std.specs.Prelude.{◌==◌}
use Rattle.ode_gate.specs.declared.places.TheConstants.{FIRST_FORMAT}
use Rattle.ode_open.specs.Opening.{base_in}
use Rattle.ode_top.proofs.Inspecting.{opened_tally, read_refused}
use Rattle.ode_begin.proofs.Running.{breaks_none}
use Rattle.ode_top.proofs.top.read_text.Goals as goal

pub returns-in_err-opened-clause-answer : goal.returns-in_err-opened-clause-answer
returns-in_err-opened-clause-answer g c = λ image tells.
    let p = err_from_is_err_and c.from_residual.result c.from_residual.ensures.1 in
    rw (p.1, p.2) (c.in_err-opened.ensures.answer image tells)

pub returns-in_err-text-clause-answer : goal.returns-in_err-text-clause-answer
returns-in_err-text-clause-answer g c = λ image tells.
    let p = err_from_is_err_and c.from_residual-in_err-text.result c.from_residual-in_err-text.ensures.1 in
    let kept = c.in_ok-opened.ensures.keeper image tells in
    let first = c.in_ok-opened.opened.format == FIRST_FORMAT in
    let tally = opened_tally first kept.0 (base_in c.in_ok-opened.opened) kept.3 in
    rw (p.1, p.2)
    (read_refused (List ℕ) image c.in_err-text.field-0.0 _ c.in_err-text.ensures.broken
    (λ broken. broken kept.0 kept.2 (c.tallied_records_decode.ensures first kept.0 tally.0 tally.1)))

pub returns-clause-text : goal.returns-clause-text
returns-clause-text g c = λ image tells.
    let kept = c.in_ok-opened.ensures.keeper image tells in
    record {
      format = c.in_ok-opened.opened.format;
      has = c.in_ok-opened.ensures.format image tells;
      entries = kept.0;
      base = base_in c.in_ok-opened.opened;
      means = kept.1;
      opened = kept.3;
      is = c.in_ok-text.ensures.text kept.0 kept.2;
    }

pub returns-clause-rules : goal.returns-clause-rules
returns-clause-rules g c = λ image tells. breaks_none image c.in_ok-opened.opened (λ found to. c.in_ok-opened.ensures.only image found tells to)
