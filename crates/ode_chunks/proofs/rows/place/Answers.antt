use Rattle.std.proofs.Common.{rules, of_calls, ap, sym, ◌∙◌}
use Rattle.std.proofs.lemmas.Fn.{always_returns_same}
use Rattle.std.specs.Ordering.{is_lt}
use Rattle.ode_value.specs.Records.{Row}
use Rattle.ode_value.specs.Keys.{key_cmp}
use Rattle.ode_chunks.proofs.Placing.{place_behind, placed}
use Rattle.ode_chunks.proofs.rows.place.Goals as goal

pub returns-then-is_lt : goal.returns-then-is_lt
returns-then-is_lt c =
    place_behind c.args.rows.now c.args.key c.in-Some.field-0.now c.requires (sym c.in-Some.ensures.item.0) c.in-Some.ensures.item.1
    (ap is_lt (sym c.cmp.ensures) ∙ sym c.if-is_lt.ensures)

pub returns : goal.returns
returns c =
    placed c.args.rows.now c.args.key c.binary_search_by.result c.requires c.binary_search_by.ensures.bound
    (c.binary_search_by.ensures.position (λ (row : Row). key_cmp row.0 c.args.key) (always_returns_same _ _ _ (λ a r f k. search (rules, of_calls))))
