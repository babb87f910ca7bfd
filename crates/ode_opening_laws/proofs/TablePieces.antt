-- The records of a table, as they are stored and as they are read.
use Rattle.std.proofs.Common.{◌≡◌, ℕ, zero, suc, ◌+◌, ◌-◌, ◌*◌, ◌<◌, ◌≤◌, ◌^◌, min, List, [], ◌∷◌, length, map, refl, ap, ◌∙◌, arith, length-drop}
use Rattle.std.specs.List.{range_with_len}
use Rattle.std.proofs.lemmas.List.{length-take}
use Rattle.ode_codec.specs.Rules.{HasRanges, IsKept, IsRecord}
use Rattle.ode_codec.specs.Spelling.{key_of, value_of}
use Rattle.ode_codec.specs.StoredRows.{piece_of, table_bytes, table_head, table_row}
use Rattle.ode_codec.specs.declared.record.Record.{Record}
use Rattle.ode_codec.specs.declared.record.Record.TheVariants as of
use Rattle.ode_codec.specs.declared.record.TheConstants.{TABLE_PLACES}
use Rattle.ode_passes.specs.Records.{Found}
use Rattle.ode_value.specs.Keys.{key, table_head_kind, table_piece_kind}
use Rattle.ode_value.specs.Lengths.{piece_count}
use Rattle.ode_value.specs.Limits.{value_limit}
use Rattle.ode_value.specs.Records.{Row}
use Rattle.ode_value.specs.Tables.{Table}
use Rattle.ode_value.specs.declared.key.Key.{Key}
use Rattle.ode_opening_laws.proofs.Decoding.{Again, Decode, decodes_one}
use Rattle.ode_opening_laws.proofs.Pieces.{at_least, at_most, inside}
use Rattle.ode_opening_laws.proofs.Sized.{IsSized}

module _ (class place : ℕ) (t : Table) where
  -- ---- its head

  abbrev pub head_record : Record
  head_record = of.TableHead class place t.states t.symbols

  abbrev pub found_head : Key × Record
  found_head = (key table_head_kind class place, head_record)

  head_kept : class < 2 ^ 32 → place < 2 ^ 16 → IsSized t → IsRecord head_record
  unfolding IsKept HasRanges
  head_kept low small is = record { kept = tt; ranges = (low, small, is.states, is.symbols) }

  head_keyed : key table_head_kind class place ≡ key_of head_record
  unfolding key_of
  head_keyed = refl

  head_spelled : (table_head class place t).1 ≡ value_of head_record
  unfolding value_of
  head_spelled = refl

  -- the stored head decodes
  pub head_decodes : Again → class < 2 ^ 32 → place < 2 ^ 16 → IsSized t → Decode (table_head class place t ∷ []) (found_head ∷ [])
  head_decodes again low small is =
      (refl, decodes_one again head_record (key table_head_kind class place) (table_head class place t).1 (head_kept low small is) head_keyed head_spelled, tt)

  -- ---- its pieces

  abbrev bytes_of : ℕ → List ℕ
  bytes_of i = (piece_of (table_bytes t) i).1

  abbrev pub piece_record : ℕ → Record
  piece_record i = of.TablePiece class place i (bytes_of i)

  abbrev pub found_piece : ℕ → Key × Record
  found_piece i = (key table_piece_kind class (place * TABLE_PLACES + i), piece_record i)

  -- so many pieces from one on
  abbrev pub found_pieces : ℕ → ℕ → Found
  found_pieces i count = map found_piece (range_with_len i count)

  abbrev pub stored_pieces : ℕ → ℕ → List Row
  stored_pieces i count = map (table_row class place) (map (piece_of (table_bytes t)) (range_with_len i count))

  length_of : (i : ℕ) → length (bytes_of i) ≡ min value_limit (length (table_bytes t) - i * value_limit)
  length_of i = length-take value_limit _ ∙ ap (min value_limit) (length-drop (i * value_limit) (table_bytes t))

  piece_kept : (i : ℕ) → class < 2 ^ 32 → place < 2 ^ 16 → i < 2 ^ 16 → i < piece_count (length (table_bytes t)) → IsRecord (piece_record i)
  unfolding IsKept HasRanges
  piece_kept i low small few less =
      let left = length (table_bytes t) - i * value_limit in
      let some : 0 < left = let in_ : i * value_limit < length (table_bytes t) = inside i (length (table_bytes t)) less in omega arith in
      record { kept = (at_least left (length (bytes_of i)) some (length_of i), at_most left (length (bytes_of i)) (length_of i)); ranges = (low, small, few) }

  piece_keyed : (i : ℕ) → key table_piece_kind class (place * TABLE_PLACES + i) ≡ key_of (piece_record i)
  unfolding key_of
  piece_keyed i = refl

  piece_spelled : (i : ℕ) → bytes_of i ≡ value_of (piece_record i)
  unfolding value_of
  piece_spelled i = refl

  -- the stored pieces decode
  pub pieces_decode : Again → class < 2 ^ 32 → place < 2 ^ 16 → IsSized t → (i count : ℕ) → i + count ≤ piece_count (length (table_bytes t)) → Decode (stored_pieces i count) (found_pieces i count)
  pieces_decode again low small is i zero within = tt
  pieces_decode again low small is i (suc n) within =
      let few = is.few in
      let less : i < piece_count (length (table_bytes t)) = omega (arith, within) in
      let next : i + 1 + n ≤ piece_count (length (table_bytes t)) = omega (arith, within) in (
        refl,
        decodes_one again (piece_record i) (key table_piece_kind class (place * TABLE_PLACES + i)) (bytes_of i) (piece_kept i low small (omega (arith, few, less)) less) (piece_keyed i) (piece_spelled i),
        pieces_decode again low small is (i + 1) n next,
      )
