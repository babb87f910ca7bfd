-- What a file is opened to for questions.
use Rattle.std.specs.Prelude.{◌==◌, ℕ, List, Ok}
use Rattle.ode_ends.specs.Resting.{HoldsBy}
use Rattle.ode_gate.specs.declared.places.TheConstants.{FIRST_FORMAT}
use Rattle.ode_host.specs.Host.{Tells}
use Rattle.ode_host.specs.View.{View}
use Rattle.ode_keep.specs.Entries.{Entries}
use Rattle.ode_keeper.specs.Files.{FileMeans}
use Rattle.ode_keeper.specs.Holding.{KeeperHolds}
use Rattle.ode_keeper.specs.declared.keeper.Keeper.{Keeper}
use Rattle.ode_language.specs.Languages.{ode}
use Rattle.ode_open.specs.Opening.{base_in}
use Rattle.ode_opened.specs.declared.opened.Opened.{Opened}
use Rattle.ode_opening_records.specs.Reading.{AreOpened}
use Rattle.ode_value.specs.Language.{ListWorld}

-- A file that holds this world was opened as it is, in either format, and its keeper holds the records that were opened.
pub record OpensAsIs (image : List ℕ) (w : ListWorld) (o : Opened Keeper) (view : View) : Type 0 where
  pub tells : Tells view image
  pub holds : HoldsBy ode FileMeans image w
  pub entries : Entries
  pub means : FileMeans image entries
  pub kept : KeeperHolds o.keeper view entries
  pub opened : AreOpened (o.format == FIRST_FORMAT) ode entries (Ok (base_in o))
