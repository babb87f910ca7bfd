use Rattle.std.proofs.Common.{◌≡◌, ◌-◌, length, slice_get, Some, refl, sym, subst}
use Rattle.std.proofs.lemmas.Bool.{ltb-true}
use Rattle.ode_opening_objects.proofs.Places.{past_gap}
use Rattle.ode_opening_objects.proofs.numbers.ByNumber.is_past.Goals as goal

pub returns-in-Some : goal.returns-in-Some
returns-in-Some g c = λ below.
    let rows = c.self.inside.rows.items in
    let last = c.in-Some.row.now in
    let got : slice_get rows (length rows - 1) ≡ Some last = subst (λ xs. slice_get xs (length xs - 1) ≡ Some last) c.deref.ensures.value (sym c.in-Some.ensures.value) in
    rw (← c.self.view_is) (past_gap c.args.id rows (length rows - 1) last c.self.invariant refl got (ltb-true last.0 c.args.id below))
