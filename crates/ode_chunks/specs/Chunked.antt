-- Chunks of records, each under a key.
use Rattle.std.specs.Prelude.{◌≡◌, ◌∷◌, ◌++◌, List, [], true}
use Rattle.std.specs.List.{AllByRecursion}
use Rattle.std.specs.Map.{keys_of}
use Rattle.std.specs.Ordering.{is_le}
use Rattle.std.specs.declared.vec.Vec.{Vec}
use Rattle.ode_value.specs.declared.key.Key.{Key}
use Rattle.ode_value.specs.Keys.{key_cmp}
use Rattle.ode_value.specs.Records.{Row}
use Rattle.ode_keep.specs.Entries.{Entries, HasRisingKeys}
use Rattle.ode_chunks.specs.Cuts.{AreAbove, AreBelow}

-- chunks, each under a key
abbrev pub Tree : Type 0 → Type 0
Tree Z = List (Key × Vec Row Z)

module _ {Z : Type 0} where
  -- the records of chunks one behind the other, and then the last ones
  abbrev pub rows_of : Tree Z → Entries → Entries
  rows_of [] last = last
  rows_of (c ∷ cs) last = c.1.items ++ rows_of cs last

  -- each key is at or above those of its chunk, and below those behind it
  abbrev pub AreBounds : Tree Z → Entries → Type 0
  AreBounds [] last = Unit {0}
  AreBounds (c ∷ cs) last = AllByRecursion (λ y. is_le (key_cmp y c.0) ≡ true) (keys_of c.1.items) × AreAbove c.0 (keys_of (rows_of cs last)) × AreBounds cs last

  -- the keys rise throughout, and those of the chunks bound them
  pub record AreChunks (cs : Tree Z) (last : Entries) : Type 0 where
    pub rising : HasRisingKeys (rows_of cs last)
    pub bounds : AreBounds cs last

  -- this is the first key at or above k, with the chunks before it and behind it
  pub record IsFirstFrom (cs : Tree Z) (k bound : Key) : Type 0 where
    pub before : Tree Z
    pub chunk : Vec Row Z
    pub behind : Tree Z
    pub whole : cs ≡ before ++ (bound, chunk) ∷ behind
    pub below : AreBelow k (keys_of before)
    pub reached : is_le (key_cmp k bound) ≡ true
