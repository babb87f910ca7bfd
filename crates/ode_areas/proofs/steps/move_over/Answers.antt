use Rattle.std.proofs.Common.{List, ℕ, length, subst}
use Rattle.ode_host.specs.Host.{LeavesOnly, LeavesTorn, Stands, written_over}
use Rattle.ode_host.proofs.Moments.{weaker}
use Rattle.ode_areas.specs.Image.{AreasMean}
use Rattle.ode_keep.specs.Keeping.{LeavesOldOrNew}
use Rattle.ode_areas.proofs.Moving.{may_replace, move_leaves, moved_over, snapshot_leaves}
use Rattle.ode_areas.proofs.steps.move_over.Goals as goal

pub returns-in_err-write_synced-clause-any_moment : goal.returns-in_err-write_synced-clause-any_moment
returns-in_err-write_synced-clause-any_moment g c entries changes stand fits moves =
    let older = c.args.header.now in
    let place = c.args.journal.now in
    let h = c.args.checkpoint.now.header in
    let bytes = c.args.checkpoint.now.bytes.items in
    let old = g.H.Host.view c.args.host.now in
    let mid = g.H.Host.view c.write_synced.new.host in
    let torn = subst (λ (l : List ℕ). LeavesOnly old mid (LeavesTorn h.body_at (length l) stand.file old)) c.deref.ensures.value
    (c.write_synced.ensures.any_moment stand.file stand.journal.stands) in
    let first = weaker old mid (LeavesTorn h.body_at (length bytes) stand.file old) (LeavesOldOrNew AreasMean entries changes old) (snapshot_leaves older h place entries changes bytes old stand fits moves) torn in
    first

pub returns-in-Ok-clause-any_moment : goal.returns-in-Ok-clause-any_moment
returns-in-Ok-clause-any_moment g c entries changes stand fits moves =
    let older = c.args.header.now in
    let place = c.args.journal.now in
    let h = c.args.checkpoint.now.header in
    let bytes = c.args.checkpoint.now.bytes.items in
    let old = g.H.Host.view c.args.host.now in
    let mid = g.H.Host.view c.write_synced.new.host in
    let torn = subst (λ (l : List ℕ). LeavesOnly old mid (LeavesTorn h.body_at (length l) stand.file old)) c.deref.ensures.value
    (c.write_synced.ensures.any_moment stand.file stand.journal.stands) in
    let staged = subst (λ (l : List ℕ). Stands (written_over stand.file h.body_at l) mid) c.deref.ensures.value
    (c.in_ok-write_synced.ensures.stands stand.file stand.journal.stands.tells) in
    move_leaves older h place entries changes bytes old stand fits moves mid (g.H.Host.view c.change_header.new.host) c.write_synced.ensures.puts.text torn
    (c.change_header.ensures.any_moment (written_over stand.file h.body_at bytes) older (may_replace older h place entries changes bytes old stand fits moves) staged)

pub returns-in-Err-clause-any_moment : goal.returns-in-Err-clause-any_moment
returns-in-Err-clause-any_moment g c entries changes stand fits moves =
    let older = c.args.header.now in
    let place = c.args.journal.now in
    let h = c.args.checkpoint.now.header in
    let bytes = c.args.checkpoint.now.bytes.items in
    let old = g.H.Host.view c.args.host.now in
    let mid = g.H.Host.view c.write_synced.new.host in
    let torn = subst (λ (l : List ℕ). LeavesOnly old mid (LeavesTorn h.body_at (length l) stand.file old)) c.deref.ensures.value
    (c.write_synced.ensures.any_moment stand.file stand.journal.stands) in
    let staged = subst (λ (l : List ℕ). Stands (written_over stand.file h.body_at l) mid) c.deref.ensures.value
    (c.in_ok-write_synced.ensures.stands stand.file stand.journal.stands.tells) in
    move_leaves older h place entries changes bytes old stand fits moves mid (g.H.Host.view c.change_header.new.host) c.write_synced.ensures.puts.text torn
    (c.change_header.ensures.any_moment (written_over stand.file h.body_at bytes) older (may_replace older h place entries changes bytes old stand fits moves) staged)

pub returns-in-Ok-clause-moved : goal.returns-in-Ok-clause-moved
returns-in-Ok-clause-moved g c entries changes stand fits moves =
    let older = c.args.header.now in
    let place = c.args.journal.now in
    let h = c.args.checkpoint.now.header in
    let bytes = c.args.checkpoint.now.bytes.items in
    let old = g.H.Host.view c.args.host.now in
    let mid = g.H.Host.view c.write_synced.new.host in
    let new = g.H.Host.view c.change_header.new.host in
    let staged = subst (λ (l : List ℕ). Stands (written_over stand.file h.body_at l) mid) c.deref.ensures.value
    (c.in_ok-write_synced.ensures.stands stand.file stand.journal.stands.tells) in
    let done = c.in-Ok.ensures.changed (written_over stand.file h.body_at bytes) older (may_replace older h place entries changes bytes old stand fits moves) staged in
    moved_over older h place entries changes bytes old stand fits moves new done.0 done.1 done.2
