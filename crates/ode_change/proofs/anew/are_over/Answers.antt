use Rattle.std.proofs.Common.{◌∙◌, arith, sym}
use Rattle.ode_change.proofs.Fitted.{zip-length}
use Rattle.ode_change.proofs.Gathers.{over_at, over_next}
use Rattle.ode_change.proofs.anew.are_over.Goals as goal
use Rattle.ode_change.specs.Fitting.{IsOver}

pub returns-then-tables-alphabets : goal.returns-then-tables-alphabets
returns-then-tables-alphabets c = (λ is. absurd (cc (is)), λ all. absurd (c.if-tables-alphabets.true (zip-length IsOver c.args.tables.now c.args.alphabets.now all)))

pub returns-then-symbols-size : goal.returns-then-symbols-size
returns-then-symbols-size c = (
  λ is. absurd (cc (is)),
  λ all. absurd (c.if-symbols-size.true (c.symbols.ensures
      ∙ over_at c.args.tables.now c.args.alphabets.now c.loop-place.place c.index-tables-place.result c.index-alphabets-place.result c.loop-place-test.true c.index-tables-place.is c.index-alphabets-place.is all
      ∙ sym c.size.ensures.value)),
)

pub loop-place-preserved : goal.loop-place-preserved
loop-place-preserved c =
    over_next c.args.tables.now c.args.alphabets.now c.loop-place.place c.index-tables-place.result c.index-alphabets-place.result c.loop-place-test.true
    (omega (arith, c.loop-place-test.true, c.if-tables-alphabets.false)) c.index-tables-place.is c.index-alphabets-place.is c.loop-place.invariant
    (sym c.symbols.ensures ∙ c.if-symbols-size.false ∙ c.size.ensures.value)
