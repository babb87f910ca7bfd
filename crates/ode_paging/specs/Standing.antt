-- Pages as they stand in a file: each by its image, or else in its place.
use Rattle.std.specs.Prelude.{◌≡◌, ℕ, ◌+◌, ◌-◌, ◌*◌, max, nat_lt, cond, List, [], ◌∷◌, ◌++◌, length, take, drop, replicate, Option, Some, None}
use Rattle.std.specs.BTreeMap.{is_at}
use Rattle.std.specs.Map.{lookup}
use Rattle.std.specs.Ordering.{nat_cmp}
use Rattle.ode_gate.specs.declared.header.Header.{Header}
use Rattle.ode_gate.specs.declared.places.TheConstants.{PAGE_LEN}
use Rattle.ode_keep.specs.Entries.{Entries}
use Rattle.ode_pages.specs.Pages.{IsPage}
use Rattle.ode_paging.specs.Images.{Image}

-- the image of a page, if there is one
abbrev pub image_of : List Image → ℕ → Option (List ℕ)
image_of images page = lookup (is_at (nat_cmp page)) images

-- the bytes of a page that begins so: zeros follow
abbrev pub filled : List ℕ → List ℕ
filled used = used ++ replicate (PAGE_LEN - length used) 0

-- where a page stands
abbrev pub place_of : Header → ℕ → ℕ
place_of header page = header.body_at + PAGE_LEN * page

-- those of its image; else those in its place, if it has one
abbrev pub bytes_at : Header → List ℕ → ℕ → Option (List ℕ) → Option (List ℕ)
bytes_at header file page (Some used) = Some (filled used)
bytes_at header file page None = cond (nat_lt page header.body_len) (Some (take PAGE_LEN (drop (place_of header page) file))) None

-- a page with these entries
pub record HasPage (header : Header) (images : List Image) (file : List ℕ) (page : ℕ) (entries : Entries) : Type 0 where
  pub bytes : List ℕ
  pub stands : bytes_at header file page (image_of images page) ≡ Some bytes
  pub form : IsPage PAGE_LEN entries bytes

-- from this page on pages with these entries, one behind the other
abbrev pub HavePages : Header → List Image → List ℕ → ℕ → List Entries → Type 0
HavePages header images file page [] = Unit {0}
HavePages header images file page (entries ∷ others) = HasPage header images file page entries × HavePages header images file (page + 1) others

-- how many pages there are, where so many are in place: they run up to the last image at least
abbrev pub page_count : ℕ → List Image → ℕ
page_count count [] = count
page_count count (i ∷ images) = page_count (max count (i.0 + 1)) images
