-- Images whose pages are made room for first.
use Rattle.std.specs.Prelude.{ℕ, List, [], ◌∷◌, IsSome}
use Rattle.std.specs.BTreeMap.{is_at}
use Rattle.std.specs.List.{AllByRecursion}
use Rattle.std.specs.Map.{remove_entry}
use Rattle.std.specs.Ordering.{nat_cmp}
use Rattle.ode_paging.specs.Images.{Image}
use Rattle.ode_paging.specs.Standing.{image_of}

-- images one after another
abbrev pub ImageList : Type 0
ImageList = List Image

-- the page has an image
abbrev pub HasImage : List Image → ℕ → Type 0
HasImage images page = IsSome (image_of images page)

-- and so has each page of these others
abbrev pub HaveImages : List Image → List Image → Type 0
HaveImages over images = AllByRecursion (λ i. HasImage images i.0) over

-- these pages have no images from then on
abbrev pub bared : List ℕ → List Image → List Image
bared [] images = images
bared (page ∷ pages) images = bared pages (remove_entry (is_at (nat_cmp page)) images)
