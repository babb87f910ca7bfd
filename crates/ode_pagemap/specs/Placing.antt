-- Images that are written to the places of their pages.
use Rattle.std.specs.Prelude.{◌≡◌, ◌≤◌, ◌⊎◌, ℕ, ◌+◌, ◌*◌, List, length, take, drop, Some}
use Rattle.std.specs.List.{AllByRecursion}
use Rattle.ode_gate.specs.declared.places.TheConstants.{PAGES_AT, PAGE_LEN}
use Rattle.ode_host.specs.View.{View}
use Rattle.ode_paging.specs.Images.{Image}
use Rattle.ode_paging.specs.Standing.{filled}

-- where the place of a page starts
abbrev pub place_at : ℕ → ℕ
place_at page = PAGES_AT + PAGE_LEN * page

-- the bytes in the place of a page
abbrev pub in_place : List ℕ → ℕ → List ℕ
in_place file page = take PAGE_LEN (drop (place_at page) file)

-- so many bytes from here on touch no place of these images' pages
abbrev pub TouchesNone : ℕ → ℕ → List Image → Type 0
TouchesNone at n images = AllByRecursion (λ i. (at + n ≤ place_at i.0) ⊎ (place_at i.0 + PAGE_LEN ≤ at)) images

-- the file, but with any bytes in the places of these images' pages and behind its end
pub record IsSameBeside (images : List Image) (file c : List ℕ) : Type 0 where
  pub no_shorter : length file ≤ length c
  pub same : (at n : ℕ) → at + n ≤ length file → TouchesNone at n images → take n (drop at c) ≡ take n (drop at file)

-- the file with each image, filled with zeros, in the place of its page
pub record ArePlaced (images : List Image) (file c : List ℕ) : Type 0 where
  pub beside : IsSameBeside images file c
  pub each : AllByRecursion (λ i. in_place c i.0 ≡ filled i.1) images

-- what a stop leaves of the file while they are written, with the text as it was
pub record LeavesBeside (images : List Image) (file : List ℕ) (old : View) (c o : List ℕ) : Type 0 where
  pub beside : IsSameBeside images file c
  pub text : old.text ≡ Some o
