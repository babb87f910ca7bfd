-- Items in rising order of their keys, spelled behind their number.
use Rattle.std.specs.Prelude.{◌≡◌, ◌<◌, ◌^◌, ◌++◌, ℕ, List, length}
use Rattle.std.specs.Int.{w32, to_be_bytes}
use Rattle.std.specs.List.{AllByRecursion, flat_map}
use Rattle.std.specs.List.Sorted.{IsStrictlySortedBy}
use Rattle.std.specs.Map.{keys_of}
use Rattle.std.specs.declared.cmp.Ordering.{Ordering}

-- how many items there are, and these one behind the other
abbrev pub counted : {X : Type 0} → (X → List ℕ) → List X → List ℕ
counted spell items = to_be_bytes w32 (length items) ++ flat_map spell items

-- the bytes spell these items, of which each fits its fields
pub record IsCountedList {K V : Type 0} (spell : K × V → List ℕ) (Fits : K × V → Type 0) (cmp : K → K → Ordering) (items : List (K × V)) (bytes : List ℕ) : Type 0 where
  pub spelled : bytes ≡ counted spell items
  pub few : length items < 2 ^ 32
  pub each : AllByRecursion Fits items
  pub rising : IsStrictlySortedBy cmp (keys_of items)
