-- Records have one table alone of a trigger.
use Rattle.std.proofs.Common.{◌≡◌, ℕ, zero, suc, ◌+◌, ◌-◌, ◌*◌, ◌<◌, ◌^◌, List, [], ◌∷◌, ◌++◌, map, length, take, drop, Bool, true, false, Option, Some, refl, sym, ap, subst, ◌∙◌, arith, length-append}
use Rattle.std.specs.Prelude.{slice_index}
use Rattle.std.specs.Int.{from_be_bytes, w16}
use Rattle.std.specs.List.{AllByRecursion, EachIndex, flat_map, range_with_len}
use Rattle.std.proofs.lemmas.Nat.{from_be_bytes-to_be_bytes_2}
use Rattle.std.proofs.lemmas.List.{append_assoc, drop-drop, drop_all, length-map, take-append-drop}
use Rattle.ode_codec.specs.StoredRows.{bit, piece_of, pieces_of, table_bytes, table_row, u16}
use Rattle.ode_keep.specs.Entries.{Entries}
use Rattle.ode_opening_tables.specs.Tables.{IsAmong, IsStored}
use Rattle.ode_table.specs.Whole.{IsWhole}
use Rattle.ode_value.specs.Lengths.{piece_count, table_length}
use Rattle.ode_value.specs.Limits.{value_limit}
use Rattle.ode_value.specs.Tables.{Table}

-- ---- numbers and answers as bytes

abbrev pub AreShort : List ℕ → Type 0
AreShort ns = AllByRecursion (λ n. n < 2 ^ 16) ns

pub number_once : (n m : ℕ) (r s : List ℕ) → n < 2 ^ 16 → m < 2 ^ 16 → u16 n ++ r ≡ u16 m ++ s → (n ≡ m) × (r ≡ s)
number_once n m r s low small is =
    let front : u16 n ≡ u16 m = ap (take 2) is in
    let same : n ≡ m = sym (from_be_bytes-to_be_bytes_2 n low) ∙ ap (from_be_bytes w16) front ∙ from_be_bytes-to_be_bytes_2 m small in
    let rest : r ≡ s = ap (drop 2) is in
    (same, rest)

-- as many numbers in front of other bytes
pub numbers_once : (ns ms r s : List ℕ) → AreShort ns → AreShort ms → length ns ≡ length ms → flat_map u16 ns ++ r ≡ flat_map u16 ms ++ s → (ns ≡ ms) × (r ≡ s)
numbers_once [] [] r s low small long is = (refl, is)
numbers_once [] (m ∷ ms) r s low small long is = absurd (omega (arith, long))
numbers_once (n ∷ ns) [] r s low small long is = absurd (omega (arith, long))
numbers_once (n ∷ ns) (m ∷ ms) r s low small long is =
    let front : u16 n ++ (flat_map u16 ns ++ r) ≡ u16 m ++ (flat_map u16 ms ++ s) =
    sym (append_assoc (u16 n) (flat_map u16 ns) r) ∙ is ∙ append_assoc (u16 m) (flat_map u16 ms) s in
    let first = number_once n m (flat_map u16 ns ++ r) (flat_map u16 ms ++ s) low.0 small.0 front in
    let more = numbers_once ns ms r s low.1 small.1 (omega (arith, long)) first.1 in
    (ap (λ k. k ∷ ns) first.0 ∙ ap (λ ks. m ∷ ks) more.0, more.1)

bit_once : (a b : Bool) → bit a ≡ bit b → a ≡ b
bit_once true true is = refl
bit_once true false is = absurd (omega (arith, is))
bit_once false true is = absurd (omega (arith, is))
bit_once false false is = refl

pub head_same : (n m : ℕ) (ns ms : List ℕ) → n ∷ ns ≡ m ∷ ms → (n ≡ m) × (ns ≡ ms)
head_same n m ns ms is = let first : n ≡ m = cc (is) in let rest : ns ≡ ms = cc (is) in (first, rest)

pub bits_once : (as_ bs : List Bool) → map bit as_ ≡ map bit bs → as_ ≡ bs
bits_once [] [] is = refl
bits_once [] (b ∷ bs) is = absurd (cc (is))
bits_once (a ∷ as_) [] is = absurd (cc (is))
bits_once (a ∷ as_) (b ∷ bs) is =
    let both = head_same (bit a) (bit b) (map bit as_) (map bit bs) is in
    ap (λ x. x ∷ as_) (bit_once a b both.0) ∙ ap (λ xs. b ∷ xs) (bits_once as_ bs both.1)

pub each_short : (ns : List ℕ) (most : ℕ) → most < 2 ^ 16 → EachIndex ns (λ k. slice_index ns k < most) → AreShort ns
each_short [] most few below = tt
each_short (n ∷ ns) most few below =
    let first : n < most = below 0 (omega arith) in
    (omega (arith, first, few), each_short ns most few (λ k inside. below (suc k) (omega (arith, inside))))

pub states_length : (ns : List ℕ) → length (flat_map u16 ns) ≡ 2 * length ns
states_length [] = refl
states_length (n ∷ ns) = let more = states_length ns in length-append (u16 n) (flat_map u16 ns) ∙ omega (arith, more)

-- how many bytes a table has
pub sized : (t : Table) → IsWhole t → length (table_bytes t) ≡ table_length t.states t.symbols
sized t whole =
    let states = states_length t.next in
    let bits = length-map t.yes bit in
    let rows = whole.rows in
    let answers = whole.answers in
    length-append (flat_map u16 t.next) (map bit t.yes) ∙ omega (arith, states, bits, rows, answers)

-- parts make one table
pub same_table : (t u : Table) → t.states ≡ u.states → t.symbols ≡ u.symbols → t.next ≡ u.next → t.yes ≡ u.yes → t ≡ u
same_table t u states symbols next answers =
    let by_states : ℕ → Table = λ n. record { states = n; symbols = t.symbols; next = t.next; yes = t.yes } in
    let by_symbols : ℕ → Table = λ n. record { states = u.states; symbols = n; next = t.next; yes = t.yes } in
    let by_next : List ℕ → Table = λ xs. record { states = u.states; symbols = u.symbols; next = xs; yes = t.yes } in
    let by_answers : List Bool → Table = λ xs. record { states = u.states; symbols = u.symbols; next = u.next; yes = xs } in
    ap by_states states ∙ ap by_symbols symbols ∙ ap by_next next ∙ ap by_answers answers

-- the bytes of a table of a size tell the table
pub bytes_once : (t u : Table) → IsWhole t → IsWhole u → t.states < 2 ^ 16 → u.states < 2 ^ 16 → t.states ≡ u.states → t.symbols ≡ u.symbols → table_bytes t ≡ table_bytes u → t ≡ u
bytes_once t u one other low small states symbols is =
    let count : t.states * t.symbols ≡ u.states * u.symbols = ap (λ n. n * t.symbols) states ∙ ap (λ n. u.states * n) symbols in
    let long : length t.next ≡ length u.next = one.rows ∙ count ∙ sym other.rows in
    let parts = numbers_once t.next u.next (map bit t.yes) (map bit u.yes) (each_short t.next t.states low one.numbers) (each_short u.next u.states small other.numbers) long is in
    same_table t u states symbols parts.0 (bits_once t.yes u.yes parts.1)

-- ---- pieces

nothing_left : (n i : ℕ) → 0 ≡ piece_count (n - i * value_limit) → n - i * value_limit ≡ 0
unfolding value_limit
nothing_left n i is = omega arith

count_next : (n i c : ℕ) → suc c ≡ piece_count (n - i * value_limit) → c ≡ piece_count (n - (i + 1) * value_limit)
unfolding value_limit
count_next n i c is = omega arith

place_next : (i : ℕ) → i * value_limit + value_limit ≡ (i + 1) * value_limit
unfolding value_limit
place_next i = omega arith

left_0 : (n : ℕ) → n - 0 * value_limit ≡ n
unfolding value_limit
left_0 n = omega arith

drop_0 : (bytes : List ℕ) → drop (0 * value_limit) bytes ≡ bytes
unfolding value_limit
drop_0 bytes = refl

module _ (entries : Entries) (class place : ℕ) where
  -- so many pieces of some bytes, from one on, are there
  abbrev pub AreThere : List ℕ → ℕ → ℕ → Type 0
  AreThere bytes i count = AllByRecursion (IsAmong entries) (map (table_row class place) (map (piece_of bytes) (range_with_len i count)))

  -- what is left behind so many pieces
  split : (bytes : List ℕ) (i : ℕ) → take value_limit (drop (i * value_limit) bytes) ++ drop ((i + 1) * value_limit) bytes ≡ drop (i * value_limit) bytes
  split bytes i =
      let rest : drop ((i + 1) * value_limit) bytes ≡ drop value_limit (drop (i * value_limit) bytes) =
      sym (drop-drop value_limit (i * value_limit) bytes ∙ ap (λ (n : ℕ). drop n bytes) (place_next i)) in
      ap (λ (xs : List ℕ). take value_limit (drop (i * value_limit) bytes) ++ xs) rest ∙ take-append-drop value_limit (drop (i * value_limit) bytes)

  pub value_once : (found : Option (List ℕ)) (a b : List ℕ) → found ≡ Some a → found ≡ Some b → a ≡ b
  value_once found a b one other = cc (one, other)

  left_once : (a b : List ℕ) (n : ℕ) → length a ≡ n → length b ≡ n → (c i : ℕ) → c ≡ piece_count (n - i * value_limit) → AreThere a i c → AreThere b i c
      → drop (i * value_limit) a ≡ drop (i * value_limit) b
  left_once a b n long as_long zero i is one other =
      let none : n - i * value_limit ≡ 0 = nothing_left n i is in
      drop_all (i * value_limit) a (omega (arith, long, none)) ∙ sym (drop_all (i * value_limit) b (omega (arith, as_long, none)))
  left_once a b n long as_long (suc c) i is one other =
      let piece = value_once _ (take value_limit (drop (i * value_limit) a)) (take value_limit (drop (i * value_limit) b)) one.0 other.0 in
      let rest = left_once a b n long as_long c (i + 1) (count_next n i c is) one.1 other.1 in
      sym (split a i)
      ∙ ap (λ (xs : List ℕ). xs ++ drop ((i + 1) * value_limit) a) piece
      ∙ ap (λ (xs : List ℕ). take value_limit (drop (i * value_limit) b) ++ xs) rest
      ∙ split b i

  pub joined_once : (a b : List ℕ) (n : ℕ) → length a ≡ n → length b ≡ n → AllByRecursion (IsAmong entries) (map (table_row class place) (pieces_of a))
      → AllByRecursion (IsAmong entries) (map (table_row class place) (pieces_of b)) → a ≡ b
  joined_once a b n long as_long one other =
      let count : (bytes : List ℕ) → length bytes ≡ n → AllByRecursion (IsAmong entries) (map (table_row class place) (pieces_of bytes)) → AreThere bytes 0 (piece_count n) =
      λ bytes is all. subst (λ (k : ℕ). AreThere bytes 0 (piece_count k)) is all in
      let start : piece_count n ≡ piece_count (n - 0 * value_limit) = ap piece_count (sym (left_0 n)) in
      sym (drop_0 a) ∙ left_once a b n long as_long (piece_count n) 0 start (count a long one) (count b as_long other) ∙ drop_0 b

  -- ---- a table

  pub stored_once : (t u : Table) → IsStored entries class place t → IsWhole t → IsStored entries class place u → IsWhole u → t ≡ u
  stored_once t u one whole other complete =
      let heads = value_once _ (u16 t.states ++ t.symbols ∷ []) (u16 u.states ++ u.symbols ∷ []) one.rows.0 other.rows.0 in
      let size = number_once t.states u.states (t.symbols ∷ []) (u.symbols ∷ []) one.states other.states heads in
      let symbols = (head_same t.symbols u.symbols [] [] size.1).0 in
      let long : length (table_bytes t) ≡ length (table_bytes u) =
      sized t whole ∙ ap (λ n. table_length n t.symbols) size.0 ∙ ap (table_length u.states) symbols ∙ sym (sized u complete) in
      bytes_once t u whole complete one.states other.states size.0 symbols (joined_once (table_bytes t) (table_bytes u) (length (table_bytes u)) long refl one.rows.1 other.rows.1)
