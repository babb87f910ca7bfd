use Rattle.ode_change.proofs.Fitted.{made-aligned, made-fit}
use Rattle.ode_change.proofs.anew.fitted.Goals as goal

pub returns-then-are_over-clause-fit : goal.returns-then-are_over-clause-fit
returns-then-are_over-clause-fit c =
    made-fit c.args.classes.now c.as_slice-known.result.now c.args.tables.now c.as_slice.result.now c.in_ok-alphabets.alphabets c.as_slice-2.result.now c.in_ok-maps.maps c.as_slice-known.ensures.all
    c.as_slice-known.ensures.checked c.as_slice.ensures c.in_ok-alphabets.ensures.is c.as_slice-2.ensures c.in_ok-maps.ensures.is c.in_ok-maps.ensures.few (c.are_over.ensures.0 c.if-are_over.true)

pub returns-then-are_over-clause-aligned : goal.returns-then-are_over-clause-aligned
returns-then-are_over-clause-aligned c =
    made-aligned c.args.classes.now c.as_slice-known.result.now c.args.tables.now c.as_slice.result.now c.in_ok-alphabets.alphabets c.as_slice-2.result.now c.in_ok-maps.maps c.as_slice-known.ensures.all
    c.as_slice-known.ensures.checked c.as_slice.ensures c.in_ok-alphabets.ensures.is c.as_slice-2.ensures c.in_ok-maps.ensures.is c.in_ok-maps.ensures.few (c.are_over.ensures.0 c.if-are_over.true)
