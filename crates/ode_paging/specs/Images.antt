-- Images of pages, and the payload that spells them.
use Rattle.std.specs.Prelude.{◌<◌, ◌≤◌, ◌^◌, ℕ, List, ◌++◌, length}
use Rattle.std.specs.Int.{w16, w32, to_be_bytes}
use Rattle.std.specs.List.Sorted.{IsStrictlySortedBy}
use Rattle.std.specs.Map.{keys_of}
use Rattle.std.specs.Ordering.{nat_cmp}
use Rattle.ode_gate.specs.declared.places.TheConstants.{PAGE_LEN}
use Rattle.ode_keep.specs.Counted.{IsCountedList, counted}

-- the number of a page, and the bytes that it begins with; behind them it has zeros
abbrev pub Image : Type 0
Image = ℕ × List ℕ

-- each page is below the next
abbrev pub HasRisingPages : List Image → Type 0
HasRisingPages images = IsStrictlySortedBy nat_cmp (keys_of images)

-- an image: its page, how many bytes it has, and these
abbrev pub image_bytes : Image → List ℕ
image_bytes i = to_be_bytes w32 i.0 ++ to_be_bytes w16 (length i.1) ++ i.1

-- how many images there are, and these one behind the other
abbrev pub payload_of : List Image → List ℕ
payload_of images = counted image_bytes images

-- an image whose page's number fits its field, and whose bytes fit a page
pub record FitsImage (i : Image) : Type 0 where
  pub page : i.0 < 2 ^ 32
  pub used : length i.1 ≤ PAGE_LEN

-- the bytes are the payload of these images, in rising order of their pages
abbrev pub IsPayload : List Image → List ℕ → Type 0
IsPayload = IsCountedList image_bytes FitsImage nat_cmp

-- an image that isn't longer than a page
abbrev pub IsShortImage : Image → Type 0
IsShortImage i = length i.1 ≤ PAGE_LEN
