use Rattle.std.proofs.Common.{◌≡◌, ◌<◌, ℕ, length, get_or, subst, arith}
use Rattle.ode_opening_objects.proofs.Places.{read_place}
use Rattle.ode_opening_objects.proofs.numbers.ByNumber.guess.Goals as goal

pub returns-then-number-id : goal.returns-then-number-id
returns-then-number-id g c =
    let rows = c.self.inside.rows.items in
    let place = c.in_ok-place.place in
    let found = c.in_ok-number.field-0.now in
    let read = c.in_ok-number.ensures.lookup in
    let inside : place < length rows = subst (λ xs. place < length xs) c.deref-2.ensures.value read.3.0 in
    let same : (d : ℕ × g.row.X.Denot) → found ≡ get_or rows place d = λ d. subst (λ xs. found ≡ get_or xs place d) c.deref-2.ensures.value (read.4 (omega arith) d) in
    rw (← c.self.view_is) (read_place c.args.id rows place found c.self.invariant inside same c.if-number-id.true)
