-- What the keeper's records have to do with the disk.
use Rattle.std.specs.Prelude.{◌≡◌, ℕ, List}
use Rattle.std.proofs.Common.{inl, inr}
use Rattle.ode_areas.specs.Laws as of_areas
use Rattle.ode_host.specs.Host.{Stands}
use Rattle.ode_host.specs.View.{View}
use Rattle.ode_keep.specs.Entries.{Entries, HasRisingKeys}
use Rattle.ode_keeper.specs.Files.{FileMeans}
use Rattle.ode_keeper.specs.Holding.{KeeperHolds}
use Rattle.ode_keeper.specs.OneMap.{one_map, rising}
use Rattle.ode_keeper.specs.declared.keeper.Keeper.{Keeper}
use Rattle.ode_keeper.specs.declared.keeper.Keeper.TheVariants.{Areas, Pages}
use Rattle.ode_pagemap.specs.Laws as of_pages

-- what it holds stands on the disk
pub stands_law : (keeper : Keeper) (view : View) (entries : Entries) → KeeperHolds keeper view entries → (file : List ℕ) × Stands file view × FileMeans file entries
stands_law (Areas keeper) view entries h = let it = of_areas.stands_law keeper view entries h in (it.0, it.1, inl it.2)
stands_law (Pages keeper) view entries h = let it = of_pages.stands_law keeper view entries h in (it.0, it.1, inr it.2.means)

-- and it holds it still where the disk is left alone
pub stays_law : (keeper : Keeper) (old new : View) (entries : Entries) → KeeperHolds keeper old entries → ((file : List ℕ) → Stands file old → Stands file new) → KeeperHolds keeper new entries
stays_law (Areas keeper) old new entries h still = of_areas.stays_law keeper old new entries h still
stays_law (Pages keeper) old new entries h still = of_pages.stays_law keeper old new entries h still

-- the keys of an image's records rise
pub rising_law : (image : List ℕ) (entries : Entries) → FileMeans image entries → HasRisingKeys entries
rising_law image entries means = rising image entries means

-- and it has one map alone
pub one_map_law : (image : List ℕ) (entries others : Entries) → FileMeans image entries → FileMeans image others → entries ≡ others
one_map_law image entries others first second = one_map image entries others first second
