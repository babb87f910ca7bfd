-- The images of pages in hand, and the room in these.
use Rattle.std.specs.Prelude.{◌≡◌, ℕ, List, [], ◌∷◌}
use Rattle.ode_gate.specs.declared.places.TheConstants.{PAGE_LEN}
use Rattle.ode_keep.specs.Entries.{Entries}
use Rattle.ode_pages.specs.Pages.{IsPage, room_in}
use Rattle.ode_paging.specs.Images.{Image, IsShortImage}
use Rattle.ode_paging.specs.Standing.{filled}

-- the image is that of this page with these entries
pub record IsImageOf (h : ℕ × Entries) (i : Image) : Type 0 where
  pub page : i.0 ≡ h.0
  pub form : IsPage PAGE_LEN h.1 (filled i.1)
  pub short : IsShortImage i

-- the images are those of the pages in hand, one by one
abbrev pub AreImages : List (ℕ × Entries) → List Image → Type 0
AreImages [] [] = Unit {0}
AreImages (h ∷ hand) (i ∷ images) = IsImageOf h i × AreImages hand images
AreImages _ _ = ⊥

-- how many bytes are free in each of them
abbrev pub rooms_in : List (ℕ × Entries) → List (ℕ × ℕ)
rooms_in [] = []
rooms_in (h ∷ hand) = (h.0, room_in PAGE_LEN h.1) ∷ rooms_in hand
