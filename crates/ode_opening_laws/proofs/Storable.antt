-- Classes whose records have spellings.
use Rattle.std.proofs.Common.{◌<◌, ◌^◌, ℕ, length}
use Rattle.ode_codec.specs.Rules.{IsRecord}
use Rattle.ode_value.specs.Lengths.{piece_count}
use Rattle.ode_value.specs.PrintedClasses.{decl_text}
use Rattle.ode_value.specs.Tables.{Table}
use Rattle.ode_value.specs.Worlds.{Declared}
use Rattle.ode_opening_laws.specs.Holding.{head_of}
use Rattle.ode_opening_laws.proofs.Sized.{HasSizes}

-- a class with few records
pub record IsSmall (d : Declared) : Type 0 where
  pub number : d.class.number < 2 ^ 32
  pub pieces : piece_count (length (decl_text d.tree)) < 2 ^ 32

-- one whose head has a spelling, and whose tables have sizes
pub record IsStorable (tables : ℕ → ℕ → Table) (d : Declared) : Type 0 where
  pub small : IsSmall d
  pub spelled : IsRecord (head_of d)
  pub sized : HasSizes tables d
