use Rattle.std.proofs.Common.{◌≡◌, ◌∙◌, ap, arith, false, sym, true}
use Rattle.std.proofs.lemmas.Bool.{OnFalse_from, OnTrue_from}
use Rattle.std.specs.Ordering.{is_eq}
use Rattle.ode_keep.proofs.Placing.{free_behind, free_here, same_here}
use Rattle.ode_keep.proofs.batch.stands_at.Goals as goal

pub returns-then-at-changes-clause-free : goal.returns-then-at-changes-clause-free
returns-then-at-changes-clause-free c = free_behind c.args.changes.now c.args.key c.args.at (omega (arith, c.if-at-changes.true))

pub returns-clause-free : goal.returns-clause-free
returns-clause-free c = OnFalse_from c.is_eq.result _ (λ (other : c.is_eq.result ≡ false).
    free_here c.args.changes.now c.args.key c.args.at c.index-changes-at.result (omega (arith, c.if-at-changes.false)) (ap is_eq (sym c.cmp.ensures) ∙ sym c.is_eq.ensures ∙ other))

pub returns-clause-same : goal.returns-clause-same
returns-clause-same c = OnTrue_from c.is_eq.result _ (λ (yes : c.is_eq.result ≡ true) d.
    same_here c.args.changes.now c.args.key c.args.at c.index-changes-at.result d (omega (arith, c.if-at-changes.false)) (ap is_eq (sym c.cmp.ensures) ∙ sym c.is_eq.ensures ∙ yes))
