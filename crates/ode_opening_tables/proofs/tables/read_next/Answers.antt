use Rattle.std.proofs.Common.{◌≡◌, ℕ, [], ◌∷◌, length, get_or, sym, ap, subst, ◌∙◌}
use Rattle.std.proofs.lemmas.Result.{err_from_is_err_and}
use Rattle.ode_value.specs.Tables.{Means, Table}
use Rattle.ode_opening_tables.proofs.Gathering.{at_place, beside_more, one_lacks, one_read}
use Rattle.ode_opening_tables.specs.Answers.{AreBehind, AreBeside}
use Rattle.ode_opening_tables.proofs.tables.read_next.Goals as goal

pub returns-in_err-table-clause-meant : goal.returns-in_err-table-clause-meant
returns-in_err-table-clause-meant g c = λ entries t holds class place some.
    let p = err_from_is_err_and c.from_residual.result c.from_residual.ensures.1 in
    let built = c.args.built.now in
    let tables = c.args.tables.now in
    let its = c.index-built-len.result in
    let is : its ≡ get_or built (length tables) its = c.index-built-len.is ∙ ap (λ (n : ℕ). get_or built n its) c.len.ensures in
    let means = at_place (λ (table : Table). Means table t.decl.event) built (length tables) its c.requires.inside is some in
    rw (p.1, p.2) (one_lacks entries t tables tables c.in_err-table.field-0.0 (c.in_err-table.ensures.meant entries t holds class place means))

pub returns-clause-meant : goal.returns-clause-meant
returns-clause-meant g c = λ entries t holds class place some.
    let built = c.args.built.now in
    let tables = c.args.tables.now in
    let its = c.index-built-len.result in
    let is : its ≡ get_or built (length tables) its = c.index-built-len.is ∙ ap (λ (n : ℕ). get_or built n its) c.len.ensures in
    let means = at_place (λ (table : Table). Means table t.decl.event) built (length tables) its c.requires.inside is some in
    subst (AreBehind entries (t ∷ []) tables) (sym c.in_ok-push.ensures.ok) (one_read entries t tables c.in_ok-table.table (c.in_ok-table.ensures.meant entries t holds class place means))

pub returns-clause-beside : goal.returns-clause-beside
returns-clause-beside g c = λ beside.
    let built = c.args.built.now in
    let tables = c.args.tables.now in
    let its = c.index-built-len.result in
    let is : its ≡ get_or built (length tables) its = c.index-built-len.is ∙ ap (λ (n : ℕ). get_or built n its) c.len.ensures in
    subst (AreBeside built) (sym c.in_ok-push.ensures.ok) (beside_more built tables its c.in_ok-table.table beside c.requires.inside is c.in_ok-table.ensures.symbols)
