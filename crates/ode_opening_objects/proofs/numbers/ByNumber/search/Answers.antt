use Rattle.std.proofs.Common.{rules}
use Rattle.std.specs.List.Sorted.{IsStrictlySortedBy}
use Rattle.std.specs.Map.{keys_of}
use Rattle.std.specs.Ordering.{nat_cmp}
use Rattle.std.proofs.lemmas.List.Sorted.{answers_always}
use Rattle.ode_opening_objects.proofs.Places.{searched}
use Rattle.ode_opening_objects.proofs.numbers.ByNumber.search.Goals as goal

-- the closure gives a row's number, and the slice is the rows
pub returns : goal.returns
returns g c =
    let facts = c.binary_search_by_key.ensures in
    let by_number = facts.position (λ row. row.0) (answers_always _ _ _ (λ f a r h called. search rules)) in
    let rising : IsStrictlySortedBy nat_cmp (keys_of c.deref.result.now) = rw c.deref.ensures.value c.self.invariant in
    rw (← c.self.view_is, ← c.deref.ensures.value) (searched c.deref.result.now c.args.id c.binary_search_by_key.result rising facts.bound by_number)
