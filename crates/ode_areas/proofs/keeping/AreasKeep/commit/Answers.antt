use Rattle.std.proofs.Common.{◌≤◌, subst, sym}
use Rattle.std.proofs.lemmas.Result.{err_from_is_err_and}
use Rattle.ode_journal.specs.Appends.{need_of, room_of}
use Rattle.ode_keep.specs.Payloads.{payload_of}
use Rattle.ode_areas.specs.declared.areas.Areas.{Areas}
use Rattle.ode_areas.specs.declared.plan.Ready.{Ready}
use Rattle.ode_areas.proofs.Committing.{holds_of, large_held, map_now, ready_now, ready_then, stand_now}
use Rattle.ode_areas.proofs.keeping.AreasKeep.commit.Goals as goal

pub returns-in_err-ready-clause-too_large : goal.returns-in_err-ready-clause-too_large
returns-in_err-ready-clause-too_large g c =
    let p = err_from_is_err_and c.from_residual.result c.from_residual.ensures.1 in
    rw (p.1, p.2) (large_held Ready (Unit {0}) c.in_err-ready.field-0.0 c.args.self.now (g.H.Host.view c.args.host.now) c.args.batch.now c.in_err-ready.ensures.too_large)

pub write_ready-requires : goal.write_ready-requires
write_ready-requires g c = (
  c.args.batch.now,
  c.args.self.now.map,
  ready_then c.args.self.now c.prepare.new.self c.args.batch.now c.in_ok-ready.ready c.in_ok-ready.ensures.changed c.in_ok-ready.ensures.ready,
)

pub returns-in-Ok-clause-done : goal.returns-in-Ok-clause-done
returns-in-Ok-clause-done g c entries h =
    let keeper = c.args.self.now in
    let mid = c.prepare.new.self in
    let batch = c.args.batch.now in
    let ready = c.in_ok-ready.ready in
    let view = g.H.Host.view c.args.host.now in
    let changed = c.in_ok-ready.ensures.changed in
    let is = c.in_ok-ready.ensures.ready in
    holds_of _ _ _
    (c.in-Ok.ensures.written entries batch (stand_now keeper mid batch ready changed is view entries h) (ready_now keeper mid batch ready changed is view entries h))
    (map_now keeper mid batch ready changed is view entries h)

pub returns-in-Ok-clause-any_moment : goal.returns-in-Ok-clause-any_moment
returns-in-Ok-clause-any_moment g c entries h =
    let keeper = c.args.self.now in
    let mid = c.prepare.new.self in
    let batch = c.args.batch.now in
    let ready = c.in_ok-ready.ready in
    let view = g.H.Host.view c.args.host.now in
    let changed = c.in_ok-ready.ensures.changed in
    let is = c.in_ok-ready.ensures.ready in
    c.write_ready.ensures.any_moment entries batch (stand_now keeper mid batch ready changed is view entries h) (ready_now keeper mid batch ready changed is view entries h)

pub returns-clause-any_moment : goal.returns-clause-any_moment
returns-clause-any_moment g c entries h =
    let keeper = c.args.self.now in
    let mid = c.prepare.new.self in
    let batch = c.args.batch.now in
    let ready = c.in_ok-ready.ready in
    let view = g.H.Host.view c.args.host.now in
    let changed = c.in_ok-ready.ensures.changed in
    let is = c.in_ok-ready.ensures.ready in
    c.write_ready.ensures.any_moment entries batch (stand_now keeper mid batch ready changed is view entries h) (ready_now keeper mid batch ready changed is view entries h)

pub returns-in-Ok-clause-frame : goal.returns-in-Ok-clause-frame
returns-in-Ok-clause-frame g c fits =
    let keeper = c.args.self.now in
    let batch = c.args.batch.now in
    let changed = c.in_ok-ready.ensures.changed in
    c.in-Ok.ensures.frame keeper.map batch
    (ready_then keeper c.prepare.new.self batch c.in_ok-ready.ready changed c.in_ok-ready.ensures.ready)
    (subst (λ (k : Areas). need_of (payload_of batch) ≤ room_of k.journal) (sym changed) fits)

pub returns-in-Ok-clause-checkpoint : goal.returns-in-Ok-clause-checkpoint
returns-in-Ok-clause-checkpoint g c entries h =
    c.in-Ok.ensures.most entries c.args.batch.now
    (ready_now c.args.self.now c.prepare.new.self c.args.batch.now c.in_ok-ready.ready c.in_ok-ready.ensures.changed c.in_ok-ready.ensures.ready (g.H.Host.view c.args.host.now) entries h)
