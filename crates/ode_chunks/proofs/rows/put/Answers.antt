use Rattle.std.proofs.Common.{◌≡◌, ◌∷◌, [], None, Some, ap, sym, ◌∙◌, rules}
use Rattle.ode_value.specs.Records.{Row}
use Rattle.ode_keep.specs.Entries.{value_under}
use Rattle.ode_chunks.specs.Cuts.{IsCutAt}
use Rattle.ode_chunks.proofs.Placing.{insert_none, item_found, set_found, under_found, under_none}
use Rattle.ode_chunks.proofs.rows.put.Goals as goal

pub returns-in_err-insert-in-Err-clause-absent : goal.returns-in_err-insert-in-Err-clause-absent
returns-in_err-insert-in-Err-clause-absent c =
    let cut : IsCutAt c.args.rows.now.items c.args.key c.in-Err.at [] = rw (sym c.deref.ensures.value) c.in-Err.ensures in
    let none : value_under c.args.rows.now.items c.args.key ≡ None = under_none c.args.rows.now.items c.args.key c.in-Err.at cut in
    search rules

pub returns-in-Ok-clause-put : goal.returns-in-Ok-clause-put
returns-in-Ok-clause-put c =
    let value = c.in-Ok.ensures.0 in
    let cut : IsCutAt c.args.rows.now.items c.args.key c.in-Ok.at ((c.args.key, value) ∷ []) = rw (sym c.deref.ensures.value) c.in-Ok.ensures.1 in
    let item : c.index_mut.result.now ≡ (c.args.key, value) = c.index_mut.ensures.value ∙ item_found c.args.rows.now.items c.args.key c.in-Ok.at value c.index_mut.result.now cut in
    rw (ap (λ (r : Row). r.0) item, c.replace.ensures.after) (set_found c.args.rows.now.items c.args.key c.in-Ok.at value c.args.value cut)

pub returns-in-Ok-clause-old : goal.returns-in-Ok-clause-old
returns-in-Ok-clause-old c =
    let value = c.in-Ok.ensures.0 in
    let cut : IsCutAt c.args.rows.now.items c.args.key c.in-Ok.at ((c.args.key, value) ∷ []) = rw (sym c.deref.ensures.value) c.in-Ok.ensures.1 in
    let item : c.index_mut.result.now ≡ (c.args.key, value) = c.index_mut.ensures.value ∙ item_found c.args.rows.now.items c.args.key c.in-Ok.at value c.index_mut.result.now cut in
    ap Some (c.replace.ensures.value ∙ ap (λ (r : Row). r.1) item) ∙ sym (under_found c.args.rows.now.items c.args.key c.in-Ok.at value cut)

pub returns-in_ok-insert-in-Err-clause-put : goal.returns-in_ok-insert-in-Err-clause-put
returns-in_ok-insert-in-Err-clause-put c =
    let cut : IsCutAt c.args.rows.now.items c.args.key c.in-Err.at [] = rw (sym c.deref.ensures.value) c.in-Err.ensures in
    c.in_ok-insert-in-Err.ensures.items ∙ insert_none c.args.rows.now.items c.args.key c.in-Err.at c.args.value cut

pub returns-in_ok-insert-in-Err-clause-old : goal.returns-in_ok-insert-in-Err-clause-old
returns-in_ok-insert-in-Err-clause-old c =
    let cut : IsCutAt c.args.rows.now.items c.args.key c.in-Err.at [] = rw (sym c.deref.ensures.value) c.in-Err.ensures in
    sym (under_none c.args.rows.now.items c.args.key c.in-Err.at cut)
