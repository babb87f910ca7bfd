use Rattle.std.proofs.Common.{false}
use Rattle.ode_resting_laws.specs.Showing.{world_base}
use Rattle.ode_ship_laws.proofs.Decoding.{opened_decodes}
use Rattle.ode_ship_laws.proofs.held_records_decode.Goals as goal

pub returns : goal.returns
returns c = λ entries w k v are fits there.
    opened_decodes k v entries (world_base are.0.stored.tables w.bones)
    (c.held_worlds_are_opened.ensures false entries w (record { world = are.0; few = c.read_classes_have_few_parts.ensures w.bones.added w.bones.classes are.0.good.bones.classes }) are.1 tt)
    fits there
