use Rattle.std.proofs.Common.{◌≡◌, ◌∷◌, [], Some, ap, sym, ◌∙◌}
use Rattle.ode_value.specs.Records.{Row}
use Rattle.ode_chunks.specs.Cuts.{IsCutAt}
use Rattle.ode_chunks.proofs.Placing.{gone_none, item_found, remove_found, under_found, under_none}
use Rattle.ode_chunks.proofs.rows.take.Goals as goal

pub returns-in-Ok-clause-rest : goal.returns-in-Ok-clause-rest
returns-in-Ok-clause-rest c =
    let value = c.in-Ok.ensures.0 in
    let cut : IsCutAt c.args.rows.now.items c.args.key c.in-Ok.at ((c.args.key, value) ∷ []) = rw (sym c.deref.ensures.value) c.in-Ok.ensures.1 in
    c.remove-value.ensures.items ∙ remove_found c.args.rows.now.items c.args.key c.in-Ok.at value cut

pub returns-in-Ok-clause-old : goal.returns-in-Ok-clause-old
returns-in-Ok-clause-old c =
    let value = c.in-Ok.ensures.0 in
    let cut : IsCutAt c.args.rows.now.items c.args.key c.in-Ok.at ((c.args.key, value) ∷ []) = rw (sym c.deref.ensures.value) c.in-Ok.ensures.1 in
    let item : c.remove-value.result ≡ (c.args.key, value) = c.remove-value.ensures.value ∙ item_found c.args.rows.now.items c.args.key c.in-Ok.at value c.remove-value.result cut in
    ap (λ (r : Row). Some r.1) item ∙ sym (under_found c.args.rows.now.items c.args.key c.in-Ok.at value cut)

pub returns-in-Err-clause-rest : goal.returns-in-Err-clause-rest
returns-in-Err-clause-rest c =
    let cut : IsCutAt c.args.rows.now.items c.args.key c.in-Err.field-0 [] = rw (sym c.deref.ensures.value) c.in-Err.ensures in
    sym (gone_none c.args.rows.now.items c.args.key c.in-Err.field-0 cut)

pub returns-in-Err-clause-old : goal.returns-in-Err-clause-old
returns-in-Err-clause-old c =
    let cut : IsCutAt c.args.rows.now.items c.args.key c.in-Err.field-0 [] = rw (sym c.deref.ensures.value) c.in-Err.ensures in
    sym (under_none c.args.rows.now.items c.args.key c.in-Err.field-0 cut)
