-- What was read ahead of a file.
use Rattle.std.specs.Prelude.{◌≡◌, ℕ, List, take, drop}
use Rattle.ode_host.specs.Host.{Tells}
use Rattle.ode_host.specs.View.{View}
use Rattle.ode_journal.specs.declared.block.Block.{Block}

-- what a block has is what the file has at its place
abbrev pub IsOf : List ℕ → Block → Type 0
IsOf file block = take block.filled block.bytes.items ≡ take block.filled (drop block.at file)

-- a host tells this file, and what was read ahead is of it
pub record TellsAhead (view : View) (block : Block) (file : List ℕ) : Type 0 where
  pub tells : Tells view file
  pub ahead : IsOf file block

-- what was read ahead is still of the file, whatever was read since
abbrev pub StaysOf : View → Block → Block → Type 0
StaysOf view old new = (file : List ℕ) → Tells view file → IsOf file old → IsOf file new
