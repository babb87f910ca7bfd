use Rattle.std.proofs.Common.{◌≡◌, ◌∙◌, ◌+◌, ◌-◌, List, [], ℕ, ap, arith, length, length-append, refl}
use Rattle.ode_value.specs.Records.{row_bytes}
use Rattle.ode_cutting.proofs.Fronts.{front_all, front_full, read_further}
use Rattle.ode_cutting.proofs.front.front_of.Goals as goal

pub rows-init : goal.rows-init
rows-init c = record {
  place = omega arith;
  room = omega arith;
  rows = omega arith;
  read = λ entries is fits. record { front = []; left = entries; split = refl; rows = refl; bytes = refl; rest_is = is };
}

pub returns-in_default-clause-front : goal.returns-in_default-clause-front
returns-in_default-clause-front c entries is fits =
    front_all entries c.rows.front c.rows.rest.now (c.rows.invariant.read entries is fits) fits (rw c.in_default.is at c.first_row.ensures.none)

pub returns-then-end-gt-PAGE_ROOM-clause-front : goal.returns-then-end-gt-PAGE_ROOM-clause-front
returns-then-end-gt-PAGE_ROOM-clause-front c entries is fits =
    let row = c.in-Some.row in
    front_full entries c.rows.front c.rows.rest.now (c.rows.invariant.read entries is fits) fits (row.key, row.value.now) row.rest.now c.in-Some.ensures.some.0 c.in-Some.ensures.some.1
    (omega (arith, c.if-end-gt-PAGE_ROOM.true, ap length is))

pub rows-preserved : goal.rows-preserved
rows-preserved c =
    let row = c.in-Some.row in
    let so_far = c.rows.invariant in
    let long : length c.rows.rest.now ≡ length (row_bytes (row.key, row.value.now)) + length row.rest.now =
    ap length c.in-Some.ensures.some.1 ∙ length-append (row_bytes (row.key, row.value.now)) row.rest.now in
    record {
      place = omega (arith, so_far.place, long);
      room = omega (arith, c.if-end-gt-PAGE_ROOM.false);
      rows = omega (arith, so_far.rows, so_far.place, long);
      read = λ entries is fits.
          read_further entries c.rows.front c.rows.rest.now (so_far.read entries is fits) fits (row.key, row.value.now) row.rest.now c.in-Some.ensures.some.0 c.in-Some.ensures.some.1 _ refl
          (ap (λ (l : List ℕ). length l - length row.rest.now) is);
    }
