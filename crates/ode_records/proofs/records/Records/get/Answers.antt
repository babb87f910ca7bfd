use Rattle.std.proofs.Common.{Bool, cond, Some, None, ap, sym, ◌∙◌}
use Rattle.ode_records.proofs.Firsts.{none_first, same_key_test, some_first}
use Rattle.ode_records.proofs.records.Records.get.Goals as goal

pub returns-in_err-found : goal.returns-in_err-found
returns-in_err-found c =
    rw c.from_residual.ensures (sym (none_first c.args.key c.args.self.now c.rows_from.result.now c.len.ensures.rising c.rows_from.ensures c.in_err-found.ensures.value))

pub returns-then-eq : goal.returns-then-eq
returns-then-eq c =
    let e = c.in_ok-found.field-0.now in
    sym (some_first c.args.key c.args.self.now c.rows_from.result.now c.len.ensures.rising c.rows_from.ensures e c.in_ok-found.ensures.value
    ∙ ap (λ (b : Bool). cond b (Some e.1) None) (sym (same_key_test c.args.key e.0) ∙ sym c.eq.ensures ∙ c.if-eq.true))

pub returns-else-eq : goal.returns-else-eq
returns-else-eq c =
    let e = c.in_ok-found.field-0.now in
    sym (some_first c.args.key c.args.self.now c.rows_from.result.now c.len.ensures.rising c.rows_from.ensures e c.in_ok-found.ensures.value
    ∙ ap (λ (b : Bool). cond b (Some e.1) None) (sym (same_key_test c.args.key e.0) ∙ sym c.eq.ensures ∙ c.if-eq.false))
