use Rattle.std.proofs.Common.{◌≤◌, arith}
use Rattle.ode_pages.specs.Pages.{entry_need, room_under}
use Rattle.ode_pages.proofs.Keeping.{count_within, end_within, gap_is, gap_small, gap_within, kept_put, one_more, room_within}
use Rattle.ode_pages.proofs.page.PageOf.put.Goals as goal

pub overflow_add-room : goal.overflow_add-room
overflow_add-room g c = omega (arith, c.room.ensures.exact, gap_small c.self.invariant c.self.view_is c.place-place.ensures, c.self.invariant.most)

pub returns-then-room-need-clause-room : goal.returns-then-room-need-clause-room
returns-then-room-need-clause-room g c = omega (arith, c.room.ensures.room, gap_is c.self.invariant c.self.view_is c.place-place.ensures)

pub overflow_sub-count : goal.overflow_sub-count
overflow_sub-count g c = count_within c.self.invariant c.self.view_is c.place-place.ensures

pub overflow_add-count : goal.overflow_add-count
overflow_add-count g c = omega (arith, one_more c.self.invariant c.self.view_is c.place-place.ensures)

pub put_entry-requires-clause-within : goal.put_entry-requires-clause-within
put_entry-requires-clause-within g c = end_within c.self.invariant c.self.view_is c.place-place.ensures

pub put_entry-requires-clause-room : goal.put_entry-requires-clause-room
put_entry-requires-clause-room g c =
    let enough : entry_need c.args.value.now ≤ room_under g.row.N c.args.self.now c.args.key =
    omega (arith, c.if-room-need.false, c.room.ensures.room, gap_is c.self.invariant c.self.view_is c.place-place.ensures) in
    room_within c.self.invariant c.self.view_is c.place-place.ensures c.args.value.now enough

pub overflow_sub-self : goal.overflow_sub-self
overflow_sub-self g c = gap_within c.self.invariant c.self.view_is c.place-place.ensures

pub invariant_of-self : goal.invariant_of-self
invariant_of-self g c =
    let enough : entry_need c.args.value.now ≤ room_under g.row.N c.args.self.now c.args.key =
    omega (arith, c.if-room-need.false, c.room.ensures.room, gap_is c.self.invariant c.self.view_is c.place-place.ensures) in
    (kept_put c.self.invariant c.self.view_is c.place-place.ensures c.args.value.now enough c.put_entry.new.bytes (c.put_entry.ensures c.args.self.now)).1

pub returns-clause-ok : goal.returns-clause-ok
returns-clause-ok g c =
    let enough : entry_need c.args.value.now ≤ room_under g.row.N c.args.self.now c.args.key =
    omega (arith, c.if-room-need.false, c.room.ensures.room, gap_is c.self.invariant c.self.view_is c.place-place.ensures) in
    (kept_put c.self.invariant c.self.view_is c.place-place.ensures c.args.value.now enough c.put_entry.new.bytes (c.put_entry.ensures c.args.self.now)).0

pub returns-clause-fits : goal.returns-clause-fits
returns-clause-fits g c = omega (arith, c.if-room-need.false, c.room.ensures.room, gap_is c.self.invariant c.self.view_is c.place-place.ensures)
