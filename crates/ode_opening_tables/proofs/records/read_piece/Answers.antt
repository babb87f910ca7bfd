use Rattle.std.proofs.Common.{sym, ◌∙◌}
use Rattle.ode_value.specs.Limits.{value_limit}
use Rattle.ode_opening_tables.proofs.Pieces.{is_piece, no_value, not_piece}
use Rattle.ode_opening_tables.proofs.records.read_piece.Goals as goal
use Rattle.ode_opening_tables.proofs.records.read_piece.Goals.{in_default-via-in-Some+else-len-min, in_default-via-in_default}

pub returns-in-Some-clause-meant : goal.returns-in-Some-clause-meant
unfolding value_limit
returns-in-Some-clause-meant g c = λ entries holds.
    is_piece c.args.left _ c.in-Some.piece (sym (c.in_ok-piece.ensures.value entries holds) ∙ c.in-Some.is) (sym c.len.ensures ∙ c.if-len-min.true ∙ c.min.ensures)

pub returns-in_default-clause-meant : goal.returns-in_default-clause-meant
unfolding value_limit
returns-in_default-clause-meant g c = λ entries holds.
    let value = c.in_ok-piece.ensures.value entries holds in
    elim c.in_default.branch [
      | in_default-via-in-Some+else-len-min w ↦
          not_piece c.args.left _ w.in-Some.piece (sym value ∙ w.in-Some.is) (λ long. w.if-len-min.false (w.len.ensures ∙ (long ∙ sym w.min.ensures)))
      | in_default-via-in_default w ↦ no_value c.args.left _ (sym value ∙ w.in_default.is)
    ]
