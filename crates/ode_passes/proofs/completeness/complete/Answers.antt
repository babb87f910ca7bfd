use Rattle.std.proofs.Common.{ap, sym, ◌∙◌}
use Rattle.std.proofs.lemmas.Result.{err_from_is_err_and}
use Rattle.ode_passes.specs.Complete.{keys_of, next_are, none_left}
use Rattle.ode_passes.specs.Records.{Found}
use Rattle.ode_passes.specs.Rules.{Ruled, ◌>>=◌}
use Rattle.ode_passes.specs.declared.completeness.Part.TheVariants as part
use Rattle.ode_passes.proofs.Completing.{complete_in_parts}
use Rattle.ode_passes.proofs.completeness.complete.Goals as goal

-- what comes behind the heads, behind the texts, and behind the tables' heads
abbrev behind_tables : Found → Ruled Found → Ruled (Unit {0})
behind_tables records m = m >>= (λ r. next_are (keys_of part.Tables records) r) >>= none_left

abbrev behind_texts : Found → Ruled Found → Ruled (Unit {0})
behind_texts records m = behind_tables records (m >>= λ r. next_are (keys_of part.TableHeads records) r)

abbrev behind_heads : Found → Ruled Found → Ruled (Unit {0})
behind_heads records m = behind_texts records (m >>= λ r. next_are (keys_of part.Texts records) r)

pub returns-in_err-at : goal.returns-in_err-at
returns-in_err-at c =
    let records = c.args.records.now in
    let p = err_from_is_err_and c.from_residual.result c.from_residual.ensures.1 in
    rw (p.1, p.2) (sym (complete_in_parts records ∙ ap (behind_heads records) c.in_err-at.ensures))

pub returns-in_err-at-2 : goal.returns-in_err-at-2
returns-in_err-at-2 c =
    let records = c.args.records.now in
    let p = err_from_is_err_and c.from_residual-in_err-at-2.result c.from_residual-in_err-at-2.ensures.1 in
    rw (p.1, p.2) (sym (complete_in_parts records ∙ ap (behind_heads records) c.in_ok-at.ensures ∙ ap (behind_texts records) c.in_err-at-2.ensures))

pub returns-in_err-at-3 : goal.returns-in_err-at-3
returns-in_err-at-3 c =
    let records = c.args.records.now in
    let p = err_from_is_err_and c.from_residual-in_err-at-3.result c.from_residual-in_err-at-3.ensures.1 in
    rw (p.1, p.2) (sym (complete_in_parts records ∙ ap (behind_heads records) c.in_ok-at.ensures ∙ ap (behind_texts records) c.in_ok-at-2.ensures
    ∙ ap (behind_tables records) c.in_err-at-3.ensures))

pub returns-in_err-at-4 : goal.returns-in_err-at-4
returns-in_err-at-4 c =
    let records = c.args.records.now in
    let p = err_from_is_err_and c.from_residual-in_err-at-4.result c.from_residual-in_err-at-4.ensures.1 in
    rw (p.1, p.2) (sym (complete_in_parts records ∙ ap (behind_heads records) c.in_ok-at.ensures ∙ ap (behind_texts records) c.in_ok-at-2.ensures
    ∙ ap (behind_tables records) c.in_ok-at-3.ensures ∙ ap (λ m. m >>= none_left) c.in_err-at-4.ensures))

pub returns : goal.returns
returns c =
    let records = c.args.records.now in
    c.expect_none.ensures
    ∙ sym (complete_in_parts records ∙ ap (behind_heads records) c.in_ok-at.ensures ∙ ap (behind_texts records) c.in_ok-at-2.ensures
    ∙ ap (behind_tables records) c.in_ok-at-3.ensures ∙ ap (λ m. m >>= none_left) c.in_ok-at-4.ensures)
