-- The classes of records.
use Rattle.std.specs.Prelude.{ℕ, List}
use Rattle.ode_keep.specs.Entries.{Entries}
use Rattle.ode_value.specs.Keys.{class_head_kind, table_piece_kind}
use Rattle.ode_value.specs.Language.{Language}
use Rattle.ode_value.specs.declared.class.Class.{Class}
use Rattle.ode_passes.specs.Complete.{complete}
use Rattle.ode_opening.specs.Births.{added_in}
use Rattle.ode_opening.specs.Declaring.{declared_in}
use Rattle.ode_passes.specs.Records.{decoded}
use Rattle.ode_passes.specs.Rules.{Ruled, ◌>>=◌}
use Rattle.ode_passes.specs.Walking.{within}

-- the records of classes and tables decode and are complete, fields were added, and the classes are declared
unfoldable pub classes_in : Language → ℕ → Entries → Ruled (List Class)
classes_in l count entries = do
  records ← decoded (within class_head_kind table_piece_kind entries)
  _ ← complete records
  added ← added_in records count entries
  declared_in l added records
