-- A text is too long where its front is.
use Rattle.std.proofs.Common.{◌≡◌, ◌+◌, ◌<◌, ℕ, List, false, get_or, length, take, arith}
use Rattle.std.specs.List.{flat_map}
use Rattle.std.proofs.lemmas.Bool.Decides.{nat_tests}
use Rattle.std.proofs.lemmas.List.Folds.{length-flat_map-take}
use Rattle.std.proofs.lemmas.List.{length-append}
use Rattle.ode_query.specs.Texts.{count_line, fits, row_line, rows_text, text_limit}
use Rattle.ode_query.specs.declared.row.Row.{Row}

pub too_long : (rows : List Row) (i : ℕ) (none : Row) (left : ℕ) → i < length rows → left + length (flat_map row_line (take i rows)) ≡ text_limit
    → left < length (row_line (get_or rows i none)) → false ≡ fits rows
unfolding rows_text
too_long rows i none left inside so_far more =
    let front = length-flat_map-take row_line rows i none inside in
    let whole = length-append (flat_map row_line rows) (count_line (length rows)) in
    grind (arith, nat_tests)
