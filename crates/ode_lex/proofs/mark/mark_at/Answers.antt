-- What is found among the pairs is found in the whole table.
use Rattle.std.proofs.Common.{sym, ◌∙◌}
use Rattle.ode_lex.specs.Marks.{mark_at, pair_marks, single_marks}
use Rattle.ode_lex.proofs.FirstMark.{first_mark_append}
use Rattle.ode_lex.proofs.mark.mark_at.Goals as goal

pub returns-in-Some-clause-mark : goal.returns-in-Some-clause-mark
unfolding mark_at
returns-in-Some-clause-mark c =
    let found = first_mark_append c.args.bytes.now pair_marks single_marks _ (sym c.pair_mark.ensures.mark ∙ c.in-Some.is) in
    let arrow = sym c.starts_with.ensures.value ∙ c.if-starts_with.false in
    sym (rw arrow found)
