use Rattle.std.proofs.Common.{◌≤◌, ◌+◌, List, ℕ, arith, subst, sym}
use Rattle.std.proofs.lemmas.Result.{on_ok_weaker}
use Rattle.ode_host.specs.Host.{Puts}
use Rattle.ode_journal.specs.Appends.{need_of, room_of}
use Rattle.ode_areas.specs.Steps.{bytes_before}
use Rattle.ode_areas.proofs.Committing.{before_frame, moved_fits, moved_length, none_due}
use Rattle.ode_areas.proofs.steps.write_ready.Goals as goal

-- ---- a frame

pub returns-in-Framed-clause-written : goal.returns-in-Framed-clause-written
returns-in-Framed-clause-written g c =
    on_ok_weaker c.write_changes.result (λ written entries changes stand ready.
    let is = rw c.in-Framed.is at ready in
    written entries changes stand is.moves is.payload) c.write_changes.ensures.written

pub returns-in-Framed-clause-any_moment : goal.returns-in-Framed-clause-any_moment
returns-in-Framed-clause-any_moment g c entries changes stand ready =
    let is = rw c.in-Framed.is at ready in
    c.write_changes.ensures.any_moment entries changes stand is.moves is.payload

pub returns-in-Framed-clause-frame : goal.returns-in-Framed-clause-frame
returns-in-Framed-clause-frame g c =
    let frame = c.in-Framed.frame in
    let old = g.H.Host.view c.args.host.now in
    let new = g.H.Host.view c.write_changes.new.host in
    let room = room_of c.args.journal.now in
    on_ok_weaker c.write_changes.result (λ puts entries changes ready fits.
    let is = rw c.in-Framed.is at ready in
    let none = none_due c.in-Framed.due (need_of frame.payload) room is.needed
    (subst (λ (l : List ℕ). need_of l ≤ room) (sym is.payload.spelled) fits) in
    subst (λ (l : List ℕ). Puts (need_of l) old new) is.payload.spelled (puts none)) c.write_changes.ensures.puts

pub returns-in-Framed-clause-most : goal.returns-in-Framed-clause-most
returns-in-Framed-clause-most g c =
    let due = c.in-Framed.due in
    let old = g.H.Host.view c.args.host.now in
    let new = g.H.Host.view c.write_changes.new.host in
    on_ok_weaker c.write_changes.result (λ most entries changes ready told.
    let is = rw c.in-Framed.is at ready in
    let by_payload = subst (λ (l : List ℕ). new.written ≤ old.written + (bytes_before due + need_of l)) is.payload.spelled (most told) in
    omega (arith, by_payload, before_frame c.args.header.now entries due is.moves)) c.write_changes.ensures.most

-- ---- a checkpoint of the records behind the changes

pub move_over-requires : goal.move_over-requires
move_over-requires g c = let is = rw c.in-Moved.is at c.requires.2 in is.moves.follows.slot

pub returns-in-Moved-clause-written : goal.returns-in-Moved-clause-written
returns-in-Moved-clause-written g c =
    let old = g.H.Host.view c.args.host.now in
    on_ok_weaker c.move_over.result (λ moved entries changes stand ready.
    let is = rw c.in-Moved.is at ready in
    moved entries changes stand (moved_fits changes c.args.header.now c.args.journal.now entries old stand is.each) is.moves) c.move_over.ensures.moved

pub returns-in-Moved-clause-any_moment : goal.returns-in-Moved-clause-any_moment
returns-in-Moved-clause-any_moment g c entries changes stand ready =
    let is = rw c.in-Moved.is at ready in
    let old = g.H.Host.view c.args.host.now in
    c.move_over.ensures.any_moment entries changes stand (moved_fits changes c.args.header.now c.args.journal.now entries old stand is.each) is.moves

pub returns-in-Moved-clause-frame : goal.returns-in-Moved-clause-frame
returns-in-Moved-clause-frame g c =
    on_ok_weaker c.move_over.result (λ moved entries changes ready fits.
    let is = rw c.in-Moved.is at ready in
    absurd (omega (arith, is.none.0, fits))) c.move_over.ensures.moved

pub returns-in-Moved-clause-most : goal.returns-in-Moved-clause-most
returns-in-Moved-clause-most g c =
    on_ok_weaker c.move_over.result (λ most entries changes ready told.
    let is = rw c.in-Moved.is at ready in
    omega (arith, most told, moved_length changes c.args.header.now c.args.journal.now entries c.in-Moved.checkpoint is)) c.move_over.ensures.most
