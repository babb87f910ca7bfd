use Rattle.std.proofs.Common.{rules}
use Rattle.std.proofs.lemmas.Cmp.{nat_cmp_total}
use Rattle.ode_keep.proofs.Maps.{rising_put}
use Rattle.ode_opening_objects.specs.Numbers.{IsAt, IsGap}
use Rattle.ode_opening_objects.proofs.Places.{gap_inside, place_inside, put_between, put_over}
use Rattle.ode_opening_objects.proofs.numbers.ByNumber.put.Goals as goal

-- the number was there, and its row is written over
pub index_mut-requires : goal.index_mut-requires
index_mut-requires g c = let inside = place_inside c.args.id c.args.self.now c.in-Ok.place c.in-Ok.ensures.found in search rules

pub invariant_of-self : goal.invariant_of-self
invariant_of-self g c =
    let rows = c.self.inside.rows.items in
    let here : IsAt c.args.id rows c.in-Ok.place = rw c.self.view_is c.in-Ok.ensures.found in
    rw (put_over c.args.id c.args.x rows c.in-Ok.place here) (rising_put nat_cmp_total c.args.id c.args.x rows c.self.invariant)

pub returns-in-Ok-clause-ok : goal.returns-in-Ok-clause-ok
returns-in-Ok-clause-ok g c = rw c.self.view_is (put_over c.args.id c.args.x _ _ c.in-Ok.ensures.found)

-- a row more comes into the gap
pub insert-requires : goal.insert-requires
insert-requires g c = let inside = gap_inside c.args.id c.args.self.now c.in-Err.place c.in-Err.ensures.absent in search rules

pub invariant_of-self-in-Err : goal.invariant_of-self-in-Err
invariant_of-self-in-Err g c =
    let rows = c.self.inside.rows.items in
    let gap : IsGap c.args.id rows c.in-Err.place = rw c.self.view_is c.in-Err.ensures.absent in
    rw (c.in_ok-insert-in-Err.ensures.items, put_between c.args.id c.args.x rows c.in-Err.place gap) (rising_put nat_cmp_total c.args.id c.args.x rows c.self.invariant)

pub returns-in_ok-insert-in-Err-clause-ok : goal.returns-in_ok-insert-in-Err-clause-ok
returns-in_ok-insert-in-Err-clause-ok g c = rw (c.in_ok-insert-in-Err.ensures.items, c.self.view_is) (put_between c.args.id c.args.x _ _ c.in-Err.ensures.absent)
