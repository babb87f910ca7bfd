use Rattle.std.proofs.Common.{◌∙◌}
use Rattle.std.proofs.lemmas.List.{take_rest}
use Rattle.ode_chunks.proofs.Placing.{from_found, from_none}
use Rattle.ode_chunks.proofs.rows.rows_at_or_above.Goals as goal
use Rattle.ode_chunks.proofs.rows.rows_at_or_above.Goals.{in-Ok, in-Err}

pub returns : goal.returns
returns c =
    let rows = c.args.rows.now in
    let key = c.args.key in
    take_rest rows c.match-place.at
    ∙ elim c.match-place.branch [
      | in-Ok w ↦ rw w.at-is (from_found rows key w.in-Ok.at w.in-Ok.ensures.0 w.in-Ok.ensures.1)
      | in-Err w ↦ rw w.at-is (from_none rows key w.in-Err.at w.in-Err.ensures)
    ]
