-- The pieces of a class's text, as they are stored and as they are read.
use Rattle.std.proofs.Common.{◌≡◌, ℕ, zero, suc, ◌+◌, ◌-◌, ◌*◌, ◌<◌, ◌≤◌, ◌^◌, min, List, [], ◌∷◌, ◌++◌, map, length, take, drop, true, cond, Some, None, Ok, refl, sym, ap, ◌∙◌, arith, length-drop}
use Rattle.std.specs.Prelude.{◌==◌}
use Rattle.std.specs.List.{range_with_len}
use Rattle.std.proofs.lemmas.Bool.Decides.{nat_tests}
use Rattle.std.proofs.lemmas.List.{drop-drop, length-take, take-append-drop}
use Rattle.ode_codec.specs.Rules.{HasRanges, IsKept, IsRecord}
use Rattle.ode_codec.specs.Spelling.{key_of, value_of}
use Rattle.ode_codec.specs.StoredRows.{piece_of, text_row}
use Rattle.ode_codec.specs.declared.record.Record.{Record}
use Rattle.ode_codec.specs.declared.record.Record.TheVariants as of
use Rattle.ode_opening.specs.Declaring.{piece_in, text_in}
use Rattle.ode_opening.proofs.Cut.{cut_ends, cut_goes, no_front, with_front}
use Rattle.ode_passes.specs.Records.{Found}
use Rattle.ode_value.specs.Keys.{class_piece_key}
use Rattle.ode_value.specs.Lengths.{piece_count}
use Rattle.ode_value.specs.Limits.{value_limit}
use Rattle.ode_value.specs.Records.{Row}
use Rattle.ode_value.specs.declared.key.Key.{Key}
use Rattle.ode_opening_laws.proofs.Decoding.{Again, Decode, decodes_one}

-- ---- numbers

pub inside : (i n : ℕ) → i < piece_count n → i * value_limit < n
unfolding value_limit
inside i n less = omega arith

pub at_most : (n b : ℕ) → b ≡ min value_limit n → b ≤ value_limit
at_most n b is = omega arith

pub at_least : (n b : ℕ) → 0 < n → b ≡ min value_limit n → 1 ≤ b
unfolding value_limit
at_least n b some is = omega arith

some_left : (n i c : ℕ) → suc c ≡ piece_count (n - i * value_limit) → 0 < n - i * value_limit
unfolding value_limit
some_left n i c is = omega arith

nothing_left : (n i : ℕ) → 0 ≡ piece_count (n - i * value_limit) → n - i * value_limit ≡ 0
unfolding value_limit
nothing_left n i is = omega arith

left_next : (n i b : ℕ) → b ≡ min value_limit (n - i * value_limit) → (n - i * value_limit) - b ≡ n - (i + 1) * value_limit
unfolding value_limit
left_next n i b is = omega arith

count_next : (n i c : ℕ) → suc c ≡ piece_count (n - i * value_limit) → c ≡ piece_count (n - (i + 1) * value_limit)
unfolding value_limit
count_next n i c is = omega arith

place_next : (i : ℕ) → i * value_limit + value_limit ≡ (i + 1) * value_limit
unfolding value_limit
place_next i = omega arith

place_0 : 0 * value_limit ≡ 0
unfolding value_limit
place_0 = refl

left_0 : (n : ℕ) → n - 0 * value_limit ≡ n
unfolding value_limit
left_0 n = omega arith

is_least : (b left : ℕ) → b ≡ min value_limit left → (b == min left value_limit) ≡ true
is_least b left is = grind (arith, nat_tests)

empty : {A : Type 0} (xs : List A) → length xs ≡ 0 → xs ≡ []
empty [] is = refl
empty (x ∷ xs) is = absurd (omega arith)

-- ---- of one text

module _ (class : ℕ) (text : List ℕ) where
  abbrev pub bytes_of : ℕ → List ℕ
  bytes_of i = take value_limit (drop (i * value_limit) text)

  abbrev pub found_piece : ℕ → Key × Record
  found_piece i = (class_piece_key class i, of.ClassPiece class i (bytes_of i))

  -- so many pieces from one on, as they are read, and as they are stored
  abbrev pub found_pieces : ℕ → ℕ → Found
  found_pieces i count = map found_piece (range_with_len i count)

  abbrev pub stored_pieces : ℕ → ℕ → List Row
  stored_pieces i count = map (text_row class) (map (piece_of text) (range_with_len i count))

  length_of : (i : ℕ) → length (bytes_of i) ≡ min value_limit (length text - i * value_limit)
  length_of i = length-take value_limit (drop (i * value_limit) text) ∙ ap (min value_limit) (length-drop (i * value_limit) text)

  piece_kept : (i : ℕ) → class < 2 ^ 32 → i < 2 ^ 32 → i < piece_count (length text) → IsRecord (of.ClassPiece class i (bytes_of i))
  unfolding IsKept HasRanges
  piece_kept i low small less =
      let some : 0 < length text - i * value_limit = let in_ : i * value_limit < length text = inside i (length text) less in omega arith in
      record {
        kept = (at_least (length text - i * value_limit) (length (bytes_of i)) some (length_of i), at_most (length text - i * value_limit) (length (bytes_of i)) (length_of i));
        ranges = (low, small);
      }

  piece_keyed : (i : ℕ) → class_piece_key class i ≡ key_of (of.ClassPiece class i (bytes_of i))
  unfolding key_of
  piece_keyed i = refl

  piece_spelled : (i : ℕ) → bytes_of i ≡ value_of (of.ClassPiece class i (bytes_of i))
  unfolding value_of
  piece_spelled i = refl

  -- the stored pieces decode
  pub pieces_decode : Again → class < 2 ^ 32 → piece_count (length text) < 2 ^ 32 → (i count : ℕ) → i + count ≤ piece_count (length text) → Decode (stored_pieces i count) (found_pieces i count)
  pieces_decode again low small i zero within = tt
  pieces_decode again low small i (suc n) within =
      let less : i < piece_count (length text) = omega arith in
      let next : i + 1 + n ≤ piece_count (length text) = omega arith in (
        refl,
        decodes_one again (of.ClassPiece class i (bytes_of i)) (class_piece_key class i) (bytes_of i) (piece_kept i low (omega arith) less) (piece_keyed i) (piece_spelled i),
        pieces_decode again low small (i + 1) n next,
      )

  taken : (i : ℕ) → piece_in (length text - i * value_limit) (of.ClassPiece class i (bytes_of i)) ≡ Some (bytes_of i)
  taken i = ap (λ b. cond b (Some (bytes_of i)) None) (is_least (length (bytes_of i)) (length text - i * value_limit) (length_of i))

  joined : (i : ℕ) → bytes_of i ++ drop ((i + 1) * value_limit) text ≡ drop (i * value_limit) text
  joined i =
      let rest : drop ((i + 1) * value_limit) text ≡ drop value_limit (drop (i * value_limit) text) =
      sym (drop-drop value_limit (i * value_limit) text ∙ ap (λ (n : ℕ). drop n text) (place_next i)) in
      ap (λ (xs : List ℕ). bytes_of i ++ xs) rest ∙ take-append-drop value_limit (drop (i * value_limit) text)

  -- and are cut to what is left of the text
  pub pieces_cut : (i count : ℕ) (more : Found) → count ≡ piece_count (length text - i * value_limit)
      → text_in class (length text - i * value_limit) (found_pieces i count ++ more) ≡ Ok (drop (i * value_limit) text, more)
  pieces_cut i zero more is =
      let none : length text - i * value_limit ≡ 0 = nothing_left (length text) i is in
      let ends : text_in class (length text - i * value_limit) more ≡ Ok ([], more) =
      cut_ends class (length text - i * value_limit) more [] (text_in class (length text - i * value_limit) more) none (no_front (text_in class (length text - i * value_limit) more)) in
      let gone : drop (i * value_limit) text ≡ [] = empty (drop (i * value_limit) text) (length-drop (i * value_limit) text ∙ none) in
      ends ∙ ap (λ (xs : List ℕ). Ok (xs, more)) (sym gone)
  pieces_cut i (suc n) more is =
      let left = length text - i * value_limit in
      let rest : Found = found_pieces (i + 1) n ++ more in
      let one : with_front (bytes_of i) (text_in class (left - length (bytes_of i)) rest) ≡ text_in class left (found_piece i ∷ rest) =
      cut_goes class left (some_left (length text) i n is) (found_piece i ∷ rest) 0 [] (text_in class left (found_piece i ∷ rest))
      (no_front (text_in class left (found_piece i ∷ rest))) (bytes_of i) (taken i) in
      let cut : text_in class (left - length (bytes_of i)) rest ≡ Ok (drop ((i + 1) * value_limit) text, more) =
      ap (λ (m : ℕ). text_in class m rest) (left_next (length text) i (length (bytes_of i)) (length_of i))
      ∙ pieces_cut (i + 1) n more (count_next (length text) i n is) in
      sym one ∙ ap (with_front (bytes_of i)) cut ∙ ap (λ (xs : List ℕ). Ok (xs, more)) (joined i)

  -- all of them to the text
  pub all_pieces_cut : (more : Found) → text_in class (length text) (found_pieces 0 (piece_count (length text)) ++ more) ≡ Ok (text, more)
  all_pieces_cut more =
      let count : piece_count (length text) ≡ piece_count (length text - 0 * value_limit) = ap piece_count (sym (left_0 (length text))) in
      ap (λ (m : ℕ). text_in class m (found_pieces 0 (piece_count (length text)) ++ more)) (sym (left_0 (length text)))
      ∙ pieces_cut 0 (piece_count (length text)) more count
      ∙ ap (λ (n : ℕ). Ok (drop n text, more)) place_0
