-- What the keeper's records have to do with the disk.
use Rattle.std.specs.Prelude.{◌≡◌, ◌≤◌, ℕ, List}
use Rattle.std.proofs.Common.{◌∙◌, arith, refl}
use Rattle.ode_gate.specs.declared.places.TheConstants.{FORMAT}
use Rattle.ode_host.specs.View.{View}
use Rattle.ode_host.specs.Host.{Stands}
use Rattle.ode_keep.specs.Entries.{Entries, HasRisingKeys}
use Rattle.ode_keep.specs.declared.limits.TheConstants.{MAX_PAGED_BYTES}
use Rattle.ode_paging.specs.Meaning.{PagesMeanIn}
use Rattle.ode_paging.specs.OneMap.{one_map, rising}
use Rattle.ode_pagemap.specs.declared.map.PageMap.{PageMap}
use Rattle.ode_pagemap.specs.Holding.{LastHold, PagesHold, format_of, most}

-- what it holds stands on the disk
pub stands_law : (keeper : PageMap) (view : View) (entries : Entries) → PagesHold keeper view entries → (file : List ℕ) × Stands file view × PagesMeanIn (format_of keeper) file entries
stands_law keeper view entries h = (
  h.file,
  h.journal.stands,
  record { means = record { header = keeper.header; counts = h.counts; pages = h.pages; has = h.opens.has }; is = refl },
)

-- and it holds it still where the disk is left alone
pub stays_law : (keeper : PageMap) (old new : View) (entries : Entries) → PagesHold keeper old entries → ((file : List ℕ) → Stands file old → Stands file new) → PagesHold keeper new entries
stays_law keeper old new entries h still = record {
  file = h.file;
  counts = h.counts;
  pages = h.pages;
  opens = h.opens;
  journal = record { stands = still h.file h.journal.stands; has = h.journal.has; place = h.journal.place };
  cached = h.cached;
}

-- so it is over a file of the last format
pub last_stands_law : (keeper : PageMap) (view : View) (entries : Entries) → LastHold keeper view entries → (file : List ℕ) × Stands file view × PagesMeanIn FORMAT file entries
last_stands_law keeper view entries h =
    let here = stands_law keeper view entries h.hold in
    (here.0, here.1, record { means = here.2.means; is = here.2.is ∙ h.last })

pub last_stays_law : (keeper : PageMap) (old new : View) (entries : Entries) → LastHold keeper old entries → ((file : List ℕ) → Stands file old → Stands file new) → LastHold keeper new entries
last_stays_law keeper old new entries h still = record { hold = stays_law keeper old new entries h.hold still; last = h.last }

-- it takes the records of every database
pub roomy_law : (keeper : PageMap) → MAX_PAGED_BYTES ≤ most keeper
roomy_law keeper = omega arith

-- the keys of an image's records rise
pub rising_law : (format : ℕ) (image : List ℕ) (entries : Entries) → PagesMeanIn format image entries → HasRisingKeys entries
rising_law format image entries means = rising image entries means.means

-- and it has one map alone
pub one_map_law : (format : ℕ) (image : List ℕ) (entries others : Entries) → PagesMeanIn format image entries → PagesMeanIn format image others → entries ≡ others
one_map_law format image entries others first second = one_map image entries others first.means second.means
