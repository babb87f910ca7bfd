use Rattle.std.proofs.Common.{◌≡◌, ◌+◌, ◌*◌, ◌∙◌, ℕ, ap, length, min, arith}
use Rattle.ode_keep.specs.Entries.{Entries}
use Rattle.ode_value.specs.Records.{snapshot}
use Rattle.ode_keep.proofs.Lengths.{keys_count, length-snapshot}
use Rattle.ode_areas.proofs.snapshot.snapshot_length.Goals as goal

pub overflow_mul-fields : goal.overflow_mul-fields
overflow_mul-fields c =
    omega (arith, c.bytes-bytes.ensures.bytes, c.bytes-bytes.type_inv, c.len.ensures.count, ap (λ (l : Entries). length l) c.map.view_is, keys_count c.args.map.now)

pub returns : goal.returns
returns c =
    let same : c.bytes-bytes.result + 2 * c.len.result ≡ length (snapshot c.args.map.now) =
    omega (arith, c.bytes-bytes.ensures.bytes, c.len.ensures.count, ap (λ (l : Entries). length l) c.map.view_is, length-snapshot c.args.map.now) in
    c.saturating_add.ensures ∙ ap (λ (n : ℕ). min n 18446744073709551615) same
