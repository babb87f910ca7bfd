use Rattle.std.proofs.Common.{rules, of_calls, ap, ◌∙◌}
use Rattle.std.proofs.lemmas.Fn.{always_returns_same}
use Rattle.ode_index.specs.Sorting.{row_less, sorted}
use Rattle.ode_index.proofs.SortLaws.{rows_ranked, stably_sorted}
use Rattle.ode_index.proofs.sorting.sort_rows.Goals as goal

pub returns : goal.returns
returns g c =
    let compares = always_returns_same _ _ _ (λ a r q k. search (rules, of_calls)) in
    c.from_vec.ensures ∙ stably_sorted row_less rows_ranked _ _ (c.in_ok-sort_by.ensures.sorted row_less rows_ranked compares) (c.sort_by.ensures.stable row_less rows_ranked compares) ∙ ap sorted c.into_vec-rows.ensures
