-- What a file is opened to for a run.
use Rattle.std.specs.Prelude.{◌≡◌, ℕ, List, Ok, false}
use Rattle.ode_ends.specs.Resting.{HoldsBy}
use Rattle.ode_gate.specs.declared.places.TheConstants.{FORMAT}
use Rattle.ode_host.specs.Host.{Stands}
use Rattle.ode_host.specs.View.{View}
use Rattle.ode_keep.specs.Entries.{Entries}
use Rattle.ode_keeper.specs.Files.{FileMeans}
use Rattle.ode_keeper.specs.declared.keeper.Keeper.{Keeper}
use Rattle.ode_keeper.specs.declared.keeper.Keeper.TheVariants.{Areas, Pages}
use Rattle.ode_language.specs.Languages.{ode}
use Rattle.ode_migrate.specs.declared.error.MigrateError.{MigrateError}
use Rattle.ode_migrate.specs.declared.error.MigrateError.TheVariants as unmigrated
use Rattle.ode_open.specs.Opening.{base_in}
use Rattle.ode_open.specs.declared.error.OpenError.{OpenError}
use Rattle.ode_open.specs.declared.error.OpenError.TheVariants.{Memory, DiskFault, BadFile}
use Rattle.ode_opened.specs.declared.opened.Opened.{Opened}
use Rattle.ode_opening_records.specs.Reading.{AreOpened}
use Rattle.ode_pagemap.specs.Holding.{LastHold}
use Rattle.ode_pagemap.specs.declared.map.PageMap.{PageMap}
use Rattle.ode_paging.specs.Meaning.{PagesMeanIn}
use Rattle.ode_passes.specs.declared.cause.Cause.TheVariants.{Journal}
use Rattle.ode_value.specs.Language.{ListWorld}
use Rattle.ode_begin.specs.Holds.{HoldsInPages, IsOfFirst}

-- why a file isn't migrated, as why it isn't opened
abbrev pub unmoved : MigrateError → OpenError
unmoved unmigrated.Memory = Memory
unmoved unmigrated.DiskFault = DiskFault
unmoved (unmigrated.Changed at) = BadFile (Journal at)

-- the same opened file, over the keeper of its pages
pub record IsOver (o : Opened Keeper) (p : Opened PageMap) : Type 0 where
  pub keeper : o.keeper ≡ Pages p.keeper
  pub base : base_in p ≡ base_in o

-- a keeper of two areas, which no file of the last format has
abbrev pub HasAreas : Keeper → Type 0
HasAreas (Areas keeper) = Unit {0}
HasAreas (Pages keeper) = ⊥

-- a file of the first format stands on the disk and holds this world
pub record StandsInFirst (w : ListWorld) (view : View) : Type 0 where
  pub image : List ℕ
  pub stands : Stands image view
  pub held : HoldsBy ode FileMeans image w
  pub first : IsOfFirst held.entries w

-- A file of the last format that holds this world was opened, and its keeper holds the records that were opened.
pub record OpensTo (w : ListWorld) (o : Opened PageMap) (view : View) : Type 0 where
  pub image : List ℕ
  pub holds : HoldsInPages image w
  pub entries : Entries
  pub means : PagesMeanIn FORMAT image entries
  pub kept : LastHold o.keeper view entries
  pub opened : AreOpened false ode entries (Ok (base_in o))
