use Rattle.std.proofs.Common.{◌≡◌, ◌+◌, length, take}
use Rattle.std.specs.List.{flat_map}
use Rattle.ode_query.specs.Texts.{row_line, text_limit}
use Rattle.ode_query.proofs.text.fits.Given as goal

abbrev pub invariant-loop-row : goal.invariant-loop-row
invariant-loop-row l = l.left + length (flat_map row_line (take l.row-index l.rows)) ≡ text_limit
