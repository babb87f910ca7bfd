use Rattle.std.proofs.Common.{◌≡◌, ◌∙◌, ap, arith}
use Rattle.ode_keep.specs.Entries.{applied, record_bytes}
use Rattle.ode_areas.proofs.Encoding.{snapshot_fits}
use Rattle.ode_areas.proofs.areas.Areas.prepare_moved.Goals as goal

pub checkpoint_of-requires : goal.checkpoint_of-requires
checkpoint_of-requires c =
    let is : c.apply.new.self ≡ applied c.args.batch.now c.args.self.now.map = c.in_ok-apply.ensures.ok ∙ ap (applied c.args.batch.now) c.in_ok-map.ensures in
    omega (arith, c.snapshot_length-length.ensures, snapshot_fits c.apply.new.self (omega (arith, ap record_bytes is, c.requires.total, c.requires.within)))
