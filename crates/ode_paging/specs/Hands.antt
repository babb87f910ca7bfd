-- Pages in hand, over those of a file.
use Rattle.std.specs.Prelude.{◌≡◌, ◌<◌, ◌≤◌, ℕ, ◌+◌, List, length, Option, IsSome}
use Rattle.std.specs.BTreeMap.{is_at}
use Rattle.std.specs.Map.{lookup}
use Rattle.std.specs.Option.{unwrap_or}
use Rattle.std.specs.Ordering.{nat_cmp}
use Rattle.ode_gate.specs.declared.header.Header.{Header}
use Rattle.ode_host.specs.Host.{Tells}
use Rattle.ode_host.specs.View.{View}
use Rattle.ode_value.specs.declared.key.Key.{Key}
use Rattle.ode_keep.specs.Entries.{Entries}
use Rattle.ode_paging.specs.declared.hand.Hand.{Hand}
use Rattle.ode_paging.specs.Images.{Image}
use Rattle.ode_paging.specs.Replacing.{page_at, page_changed}
use Rattle.ode_paging.specs.Standing.{HavePages}

-- the entries of the page of this number, if it is in hand
abbrev pub entries_of : List (ℕ × Entries) → ℕ → Option Entries
entries_of hand page = lookup (is_at (nat_cmp page)) hand

-- With these in hand the pages are now those, so many: each is as it is in hand, or else as it was. The new ones are in hand.
pub record AreCovered (hand : List (ℕ × Entries)) (count : ℕ) (pages now : List Entries) : Type 0 where
  pub each : (page : ℕ) → page_at now page ≡ unwrap_or (entries_of hand page) (page_at pages page)
  pub many : count ≡ length now
  pub grown : length pages ≤ length now
  pub new : (page : ℕ) → length pages ≤ page → page < length now → IsSome (entries_of hand page)
  pub within : (page : ℕ) → IsSome (entries_of hand page) → page < length now

abbrev pub Covers : Hand → List Entries → List Entries → Type 0
Covers hand pages now = AreCovered hand.pages.entries hand.count pages now

-- whether a page is in hand
abbrev pub IsInHand : Hand → ℕ → Type 0
IsInHand hand page = IsSome (entries_of hand.pages.entries page)

-- at most so many pages more are in hand
abbrev pub GrowsBy : ℕ → Hand → Hand → Type 0
GrowsBy n old new = length new.pages.entries ≤ length old.pages.entries + n

-- whatever the pages were, they are still that
abbrev pub StaysSame : Hand → Hand → Type 0
StaysSame old new = (pages now : List Entries) → Covers old pages now → Covers new pages now

-- the value under this key in this page, and nothing else, changes to this
abbrev pub MakesChange : Hand → Hand → ℕ → Key → Option (List ℕ) → Type 0
MakesChange old new page k value = (pages now : List Entries) → Covers old pages now
    → (page ≤ length now) × Covers new pages (page_changed now page k value)

-- the host's file has these pages, and with those in hand they are now those
pub record HasInHand (view : View) (header : Header) (images : List Image) (hand : Hand) (pages now : List Entries) : Type 0 where
  pub file : List ℕ
  pub tells : Tells view file
  pub stand : HavePages header images file 0 pages
  pub covers : Covers hand pages now
