use Rattle.std.proofs.Common.{sym, subst, arith, rules}
use Rattle.std.specs.List.Sorted.{IsStrictlySortedBy}
use Rattle.std.specs.Map.{keys_of}
use Rattle.std.specs.Ordering.{nat_cmp}
use Rattle.ode_opening_objects.proofs.Places.{at_gap, at_place, place_inside}
use Rattle.ode_opening_objects.proofs.numbers.ByNumber.at.Goals as goal

pub index-requires : goal.index-requires
index-requires g c = let inside = place_inside c.args.id c.args.self.now _ c.in-Ok.ensures.found in search rules

pub returns-in-Ok : goal.returns-in-Ok
returns-in-Ok g c = let place = at_place c.args.id _ _ c.index.result.now c.in-Ok.ensures.found in grind (arith, c.self.view_is)

pub returns-in-Err : goal.returns-in-Err
returns-in-Err g c = sym (at_gap c.args.id _ _ (subst (λ rows. IsStrictlySortedBy nat_cmp (keys_of rows)) c.self.view_is c.self.invariant) c.in-Err.ensures.absent)
