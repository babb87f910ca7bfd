-- What the keeper's records have to do with the disk.
use Rattle.std.specs.Prelude.{◌≡◌, ℕ, List}
use Rattle.ode_host.specs.View.{View}
use Rattle.ode_host.specs.Host.{Stands}
use Rattle.ode_keep.specs.Entries.{Entries, HasRisingKeys}
use Rattle.ode_areas.specs.declared.areas.Areas.{Areas}
use Rattle.ode_areas.specs.Holding.{AreasHold}
use Rattle.ode_areas.specs.Image.{AreasMean}
use Rattle.ode_areas.specs.OneMap.{one_map, rising}

-- what it holds stands on the disk
pub stands_law : (keeper : Areas) (view : View) (entries : Entries) → AreasHold keeper view entries → (file : List ℕ) × Stands file view × AreasMean file entries
stands_law keeper view entries h = (
  h.file,
  h.journal.stands,
  record { header = keeper.header; counts = h.counts; areas = h.areas; has = h.has },
)

-- and it holds it still where the disk is left alone
pub stays_law : (keeper : Areas) (old new : View) (entries : Entries) → AreasHold keeper old entries → ((file : List ℕ) → Stands file old → Stands file new) → AreasHold keeper new entries
stays_law keeper old new entries h still = record {
  file = h.file;
  counts = h.counts;
  areas = h.areas;
  has = h.has;
  journal = record { stands = still h.file h.journal.stands; has = h.journal.has; place = h.journal.place };
  end = h.end;
  map = h.map;
}

-- the keys of an image's records rise
pub rising_law : (image : List ℕ) (entries : Entries) → AreasMean image entries → HasRisingKeys entries
rising_law image entries means = rising image entries means

-- and it has one map alone
pub one_map_law : (image : List ℕ) (entries others : Entries) → AreasMean image entries → AreasMean image others → entries ≡ others
one_map_law image entries others first second = one_map image entries others first second
