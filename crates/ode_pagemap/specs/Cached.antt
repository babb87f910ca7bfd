-- What a cache of pages has.
use Rattle.std.specs.Prelude.{◌≡◌, ℕ, not, nat_eq, List, [], ◌∷◌, take, cond, Some}
use Rattle.std.specs.List.{AllByRecursion, filter, slice_get}
use Rattle.std.specs.Map.{remove_entry}
use Rattle.ode_keep.specs.Entries.{Entries}
use Rattle.ode_paging.specs.Images.{Image}
use Rattle.ode_pagemap.specs.declared.cache.Cache.{Cache}

-- how many pages there is room for
abbrev pub most_of : Cache → ℕ
most_of cache = cond cache.is_open cache.pages.cap 0

-- the numbers of the pages after this one was used, where there is room for so many
abbrev pub used : ℕ → ℕ → List ℕ → List ℕ
used most page held = take most (page ∷ filter (λ n. not (nat_eq page n)) held)

-- these pages, but none that has one of these images
abbrev pub without : List Image → List (ℕ × Entries) → List (ℕ × Entries)
without [] pages = pages
without (i ∷ images) pages = without images (remove_entry (nat_eq i.0) pages)

-- each of these is the page of its number among all
abbrev pub AreAmong : List Entries → List (ℕ × Entries) → Type 0
AreAmong all pages = AllByRecursion (λ e. slice_get all e.0 ≡ Some e.1) pages
