-- The records behind a change of a class.
use Rattle.std.specs.Prelude.{◌+◌, List, ◌∷◌, ◌++◌, map}
use Rattle.std.specs.List.{flat_map}
use Rattle.ode_codec.specs.StoredRows.{Stored, activation_rows, added_rows, counters_row, entry_row, head_row, object_row, table_heads, table_rows, text_rows, version_rows}
use Rattle.ode_value.specs.Records.{Row}
use Rattle.ode_value.specs.Worlds.{Bones, World}

-- those that stand between the counters and the added fields
abbrev pub rows_between : Stored → List Row
rows_between s =
    let b = s.world.bones in
    map head_row b.classes ++ flat_map text_rows b.classes
    ++ flat_map (table_heads s.tables) b.classes ++ flat_map (table_rows s.tables) b.classes
    ++ map object_row b.objects ++ flat_map (version_rows b.classes) b.objects ++ flat_map (activation_rows s.world) b.objects
    ++ map entry_row b.queue

-- the counters of a world, these records, and its added fields
abbrev pub rows_behind : Bones → List Row → List Row
rows_behind b between = counters_row b ∷ between ++ flat_map (added_rows b) b.classes

-- behind one more transaction
abbrev pub bones_passed : Bones → Bones
bones_passed b = record b { transaction = b.transaction + 1 }

abbrev pub world_passed : {O A : Type 0} → World O A → World O A
world_passed w = record w { bones = bones_passed w.bones }
