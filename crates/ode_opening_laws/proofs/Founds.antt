-- What is read of the records of classes and of their tables.
use Rattle.std.proofs.Common.{◌≡◌, ◌<◌, ◌^◌, ℕ, List, [], ◌∷◌, ◌++◌, map, length, Ok, refl, append_assoc, arith}
use Rattle.std.specs.List.{AllByRecursion, flat_map}
use Rattle.ode_codec.specs.Spelling.{key_of, value_of}
use Rattle.ode_codec.specs.StoredRows.{head_row, places_of, table_bytes, table_head, table_heads, table_pieces, table_rows, text_rows}
use Rattle.ode_codec.specs.declared.record.Record.{Record}
use Rattle.ode_passes.specs.Records.{Found, decoded}
use Rattle.ode_value.specs.Keys.{class_head_key}
use Rattle.ode_value.specs.Lengths.{piece_count}
use Rattle.ode_value.specs.PrintedClasses.{decl_text}
use Rattle.ode_value.specs.Tables.{Table}
use Rattle.ode_value.specs.Worlds.{Declared}
use Rattle.ode_value.specs.declared.key.Key.{Key}
use Rattle.ode_opening_laws.specs.Holding.{class_rows, head_of}
use Rattle.ode_opening_laws.proofs.Decoding.{Again, Decode, decode_append, decodes_all, decodes_one}
use Rattle.ode_opening_laws.proofs.Pieces.{found_pieces, pieces_decode}
use Rattle.ode_opening_laws.proofs.Sized.{IsSizedAt}
use Rattle.ode_opening_laws.proofs.Storable.{IsStorable}
use Rattle.ode_opening_laws.proofs.TablePieces as table

-- ---- classes

abbrev pub head_found : Declared → Key × Record
head_found d = (class_head_key d.class.number, head_of d)

abbrev pub pieces_of_class : Declared → Found
pieces_of_class d = found_pieces d.class.number (decl_text d.tree) 0 (piece_count (length (decl_text d.tree)))

abbrev pub heads_found : List Declared → Found
heads_found ds = map head_found ds

abbrev pub pieces_found : List Declared → Found
pieces_found ds = flat_map pieces_of_class ds

head_keyed : (d : Declared) → class_head_key d.class.number ≡ key_of (head_of d)
unfolding key_of
head_keyed d = refl

head_spelled : (d : Declared) → (head_row d).1 ≡ value_of (head_of d)
unfolding value_of
head_spelled d = simp append_assoc

module _ (tables : ℕ → ℕ → Table) (again : Again) where
  pub heads_decode : (ds : List Declared) → AllByRecursion (IsStorable tables) ds → Decode (map head_row ds) (heads_found ds)
  heads_decode [] all = tt
  heads_decode (d ∷ ds) all = (
    refl,
    decodes_one again (head_of d) (class_head_key d.class.number) (head_row d).1 all.0.spelled (head_keyed d) (head_spelled d),
    heads_decode ds all.1,
  )

  texts_decode : (ds : List Declared) → AllByRecursion (IsStorable tables) ds → Decode (flat_map text_rows ds) (pieces_found ds)
  texts_decode [] all = tt
  texts_decode (d ∷ ds) all =
      decode_append (text_rows d) (flat_map text_rows ds) (pieces_of_class d) (pieces_found ds)
      (pieces_decode d.class.number (decl_text d.tree) again all.0.small.number all.0.small.pieces 0 (piece_count (length (decl_text d.tree))) (omega arith))
      (texts_decode ds all.1)

-- ---- tables

module _ (tables : ℕ → ℕ → Table) where
  -- of one trigger
  abbrev pub head_at : ℕ → ℕ → Key × Record
  head_at class place = table.found_head class place (tables class place)

  abbrev pub pieces_at : ℕ → ℕ → Found
  pieces_at class place = table.found_pieces class place (tables class place) 0 (piece_count (length (table_bytes (tables class place))))

  -- of a class
  abbrev pub table_heads_of : Declared → Found
  table_heads_of d = map (head_at d.class.number) (places_of d)

  abbrev pub tables_of : Declared → Found
  tables_of d = flat_map (pieces_at d.class.number) (places_of d)

  -- of all classes
  abbrev pub table_heads_found : List Declared → Found
  table_heads_found ds = flat_map table_heads_of ds

  abbrev pub tables_found : List Declared → Found
  tables_found ds = flat_map tables_of ds

  abbrev pub found_of : List Declared → Found
  found_of ds = heads_found ds ++ pieces_found ds ++ table_heads_found ds ++ tables_found ds

  module _ (again : Again) (class : ℕ) (low : class < 2 ^ 32) where
    heads_from : (places : List ℕ) → AllByRecursion (IsSizedAt tables class) places
        → Decode (map (λ place. table_head class place (tables class place)) places) (map (head_at class) places)
    heads_from [] all = tt
    heads_from (place ∷ places) all =
        let first = table.head_decodes class place (tables class place) again low all.0.place_is all.0.sized in
        (first.0, first.1, heads_from places all.1)

    tables_from : (places : List ℕ) → AllByRecursion (IsSizedAt tables class) places
        → Decode (flat_map (λ place. table_pieces class place (tables class place)) places) (flat_map (pieces_at class) places)
    tables_from [] all = tt
    tables_from (place ∷ places) all =
        decode_append (table_pieces class place (tables class place)) (flat_map (λ at. table_pieces class at (tables class at)) places) (pieces_at class place) (flat_map (pieces_at class) places)
        (table.pieces_decode class place (tables class place) again low all.0.place_is all.0.sized 0 (piece_count (length (table_bytes (tables class place)))) (omega arith))
        (tables_from places all.1)

  table_heads_decode : Again → (ds : List Declared) → AllByRecursion (IsStorable tables) ds → Decode (flat_map (table_heads tables) ds) (table_heads_found ds)
  table_heads_decode again [] all = tt
  table_heads_decode again (d ∷ ds) all =
      decode_append (table_heads tables d) (flat_map (table_heads tables) ds) (table_heads_of d) (table_heads_found ds)
      (heads_from again d.class.number all.0.small.number (places_of d) all.0.sized) (table_heads_decode again ds all.1)

  tables_decode : Again → (ds : List Declared) → AllByRecursion (IsStorable tables) ds → Decode (flat_map (table_rows tables) ds) (tables_found ds)
  tables_decode again [] all = tt
  tables_decode again (d ∷ ds) all =
      decode_append (table_rows tables d) (flat_map (table_rows tables) ds) (tables_of d) (tables_found ds)
      (tables_from again d.class.number all.0.small.number (places_of d) all.0.sized) (tables_decode again ds all.1)

  -- ---- all of them

  pub rows_decode : Again → (ds : List Declared) → AllByRecursion (IsStorable tables) ds → Decode (class_rows tables ds) (found_of ds)
  rows_decode again ds all =
      let texts = decode_append (map head_row ds) (flat_map text_rows ds) (heads_found ds) (pieces_found ds) (heads_decode tables again ds all) (texts_decode tables again ds all) in
      let heads = decode_append (map head_row ds ++ flat_map text_rows ds) (flat_map (table_heads tables) ds) (heads_found ds ++ pieces_found ds) (table_heads_found ds)
      texts (table_heads_decode again ds all) in
      decode_append (map head_row ds ++ flat_map text_rows ds ++ flat_map (table_heads tables) ds) (flat_map (table_rows tables) ds) (heads_found ds ++ pieces_found ds ++ table_heads_found ds)
      (tables_found ds) heads (tables_decode again ds all)

  pub classes_decode : Again → (ds : List Declared) → AllByRecursion (IsStorable tables) ds → decoded (class_rows tables ds) ≡ Ok (found_of ds)
  classes_decode again ds all = decodes_all (class_rows tables ds) (found_of ds) [] (rows_decode again ds all)
