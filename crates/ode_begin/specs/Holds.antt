-- What it is that a file holds a world.
use Rattle.std.specs.Prelude.{◌≡◌, ◌≤◌, ℕ, List, []}
use Rattle.std.specs.List.{AllByRecursion}
use Rattle.ode_cutting.specs.Cutting.{HasRoom}
use Rattle.ode_ends.specs.Resting.{HoldsBy}
use Rattle.ode_gate.specs.Slots.{Counts}
use Rattle.ode_gate.specs.declared.header.Header.{Header}
use Rattle.ode_gate.specs.declared.places.TheConstants.{FIRST_FORMAT, FORMAT}
use Rattle.ode_keeper.specs.Files.{FileMeans}
use Rattle.ode_keep.specs.Entries.{Entries}
use Rattle.ode_language.specs.Languages.{ode}
use Rattle.ode_paging.specs.Meaning.{PagesMeanIn}
use Rattle.ode_value.specs.Language.{ListWorld}
use Rattle.ode_value.specs.Limits.{first_weight_limit}
use Rattle.ode_value.specs.Weights.{weight}

-- what a file of the first format holds: no field was added, the world keeps that format's limit, and a page has room for each record
pub record IsOfFirst (entries : Entries) (w : ListWorld) : Type 0 where
  pub none : w.bones.added ≡ []
  pub light : weight w.bones ≤ first_weight_limit
  pub room : AllByRecursion HasRoom entries

-- it is so where the file's header says that format
abbrev pub FitsFormat : List ℕ → Entries → ListWorld → Type 0
FitsFormat image entries w = (header : Header) → Counts image header → header.format ≡ FIRST_FORMAT → IsOfFirst entries w

-- the file stands for records that hold this world, in one format or the other
pub record Holds (image : List ℕ) (w : ListWorld) : Type 0 where
  pub held : HoldsBy ode FileMeans image w
  pub format : FitsFormat image held.entries w

-- it does so in pages of the last format
abbrev pub HoldsInPages : List ℕ → ListWorld → Type 0
HoldsInPages image w = HoldsBy ode (PagesMeanIn FORMAT) image w
