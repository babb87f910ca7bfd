-- Records cut into pages, from page 0 on, and the images of these.
use Rattle.std.specs.Prelude.{◌≡◌, ◌<◌, ◌≤◌, ◌^◌, ℕ, ◌+◌, ◌*◌, List, [], ◌∷◌, ◌++◌, length}
use Rattle.std.specs.Int.{w16, to_be_bytes}
use Rattle.std.specs.List.{AllByRecursion, flat_map}
use Rattle.ode_keep.specs.Entries.{Entries, record_bytes}
use Rattle.ode_paging.specs.Images.{Image, image_bytes, payload_of}
use Rattle.ode_value.specs.Records.{Row, row_bytes, snapshot}
use Rattle.ode_cutting.specs.declared.cutting.Pages.{Pages}
use Rattle.ode_cutting.specs.declared.framing.TheConstants.{MAX_MOVED_BYTES}
use Rattle.ode_cutting.specs.declared.front.Front.{Front}
use Rattle.ode_cutting.specs.declared.front.TheConstants.{PAGE_ROOM}

-- the image of a page: the number of its records, and these
abbrev pub image_with : ℕ → Entries → Image
image_with page es = (page, to_be_bytes w16 (length es) ++ snapshot es)

-- the images of pages one behind the other, of which the first has this number
abbrev pub images_with : ℕ → List Entries → List Image
images_with page [] = []
images_with page (es ∷ pages) = image_with page es ∷ images_with (page + 1) pages

-- the records of pages, one page behind the other
abbrev pub all_entries : List Entries → Entries
all_entries pages = flat_map (λ es. es) pages

-- a page has room for these records together
abbrev pub FitPage : Entries → Type 0
FitPage es = length (snapshot es) ≤ PAGE_ROOM

-- these are the records, cut into pages
pub record ArePagesOf (entries : Entries) (pages : List Entries) : Type 0 where
  pub all : entries ≡ all_entries pages
  pub each : AllByRecursion FitPage pages

-- the payload spells pages that have these records between them
pub record SpellsPagesOf (entries : Entries) (payload : List ℕ) : Type 0 where
  pub pages : List Entries
  pub cut : ArePagesOf entries pages
  pub spelled : payload ≡ payload_of (images_with 0 pages)
  pub few : length pages < 2 ^ 32

-- a page has room for this record alone
abbrev pub HasRoom : Row → Type 0
HasRoom r = length (row_bytes r) ≤ PAGE_ROOM

-- records that a frame of pages has room for
pub record FitFrame (entries : Entries) : Type 0 where
  pub each : AllByRecursion HasRoom entries
  pub within : record_bytes entries ≤ MAX_MOVED_BYTES

-- ---- how they are cut

-- the bytes of the first record, or more than a page has where there is none
abbrev pub first_length : Entries → ℕ
first_length [] = PAGE_ROOM + 1
first_length (e ∷ es) = length (row_bytes e)

-- of these records as many as a page has room for are at the front
pub record IsFront (entries : Entries) (it : Front) : Type 0 where
  pub front : Entries
  pub left : Entries
  pub split : entries ≡ front ++ left
  pub rows : it.rows ≡ length front
  pub bytes : it.bytes ≡ length (snapshot front)
  pub most : PAGE_ROOM < it.bytes + first_length left

-- They are the images of pages with these records, of which there are few: any two that follow one another have more bytes
-- than a page.
pub record AreImagesOf (entries : Entries) (it : Pages) : Type 0 where
  pub pages : List Entries
  pub cut : ArePagesOf entries pages
  pub count : it.count ≡ length pages
  pub images : it.images.items ≡ flat_map image_bytes (images_with 0 pages)
  pub few : (PAGE_ROOM + 1) * length pages ≤ 2 * length (snapshot entries) + (PAGE_ROOM + 1)
