use Rattle.std.proofs.Common.{ap, arith}
use Rattle.std.proofs.lemmas.List.{nil_from_length}
use Rattle.ode_keep.specs.Batches.{changes_of}
use Rattle.ode_keep.specs.Entries.{Changes}
use Rattle.ode_keep.specs.Growth.{put_bytes}
use Rattle.ode_declare.proofs.batches.bytes_put.Goals as goal

pub returns : goal.returns
returns c =
    let none = ap (λ (left : Changes). put_bytes left) (ap changes_of (nil_from_length c.loop-change.change-iterator.rest.now c.in-None.ensures.steps.0)) in
    let sum = c.loop-change.invariant.sum in
    let small = c.loop-change.invariant.small in
    omega (arith, none, sum, small)
