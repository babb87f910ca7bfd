-- What the records of a class weigh.
use Rattle.std.proofs.Common.{◌≡◌, ◌≤◌, ℕ, zero, suc, ◌+◌, ◌-◌, ◌*◌, List, [], ◌∷◌, ◌++◌, map, length, take, drop, refl, sym, ap, ◌∙◌, subst, arith, length-append}
use Rattle.std.specs.List.{flat_map, range_with_len, sum_by}
use Rattle.std.specs.Option.{unwrap_or}
use Rattle.std.proofs.lemmas.List.{length-drop, length-map, length-take}
use Rattle.std.proofs.lemmas.List.Sums.{sum_by-cons}
use Rattle.std.proofs.lemmas.Nat.{mul-le}
use Rattle.ode_class_records.proofs.PieceLaws.{few_bytes}
use Rattle.ode_class_records.specs.ClassRows.{IsStoredBy, class_rows}
use Rattle.ode_class_records.specs.Puts.{puts}
use Rattle.ode_class_records.specs.Weighing.{spare_beside}
use Rattle.ode_codec.specs.StoredRows.{bit, head_row, piece_of, pieces_of, table_bytes, table_head, table_heads, table_pieces, table_row, table_rows, text_row, text_rows, u16, u32}
use Rattle.ode_compile.specs.Compiling.{AreCompiled, IsCompiled, tree_counts}
use Rattle.ode_keep.specs.Growth.{put_bytes}
use Rattle.ode_table.specs.Whole.{IsWhole}
use Rattle.ode_value.specs.Lengths.{key_length, piece_count, pieces_length, table_length, trigger_length}
use Rattle.ode_value.specs.Limits.{value_limit}
use Rattle.ode_value.specs.PrintedClasses.{decl_text}
use Rattle.ode_value.specs.Records.{Row, byte, total_weight}
use Rattle.ode_value.specs.Symbols.{Alphabet}
use Rattle.ode_value.specs.Tables.{Table}
use Rattle.ode_value.specs.TreeCount.{tree_count}
use Rattle.ode_value.specs.Weights.{class_weight, trigger_weight}
use Rattle.ode_value.specs.Worlds.{Declared}
use Rattle.ode_value.specs.declared.member.TriggerDecl.{TriggerDecl}

total_both : (xs ys : List Row) → total_weight (xs ++ ys) ≡ total_weight xs + total_weight ys
total_both [] ys = omega arith
total_both (x ∷ xs) ys = let more = total_both xs ys in omega (arith, more)

-- what is put is what the rows weigh
put_rows : (rows : List Row) → put_bytes (puts rows) ≡ total_weight rows
put_rows [] = refl
put_rows (r ∷ rows) = let more = put_rows rows in omega (arith, more)

-- ---- pieces

piece_weighs : (bytes : List ℕ) (k : ℕ) → length (take value_limit (drop (k * value_limit) bytes)) + (length bytes - (k + 1) * value_limit) ≡ length bytes - k * value_limit
unfolding value_limit
piece_weighs bytes k =
    let taken = length-take value_limit (drop (k * value_limit) bytes) in
    let left = length-drop (k * value_limit) bytes in
    omega (arith, taken, left)

module _ (row : ℕ × List ℕ → Row) (is : (p : ℕ × List ℕ) → (row p).1 ≡ p.1) (bytes : List ℕ) where
  pieces_from : (k count : ℕ) → length bytes ≤ (k + count) * value_limit → total_weight (map row (map (piece_of bytes) (range_with_len k count))) ≡ key_length * count + (length bytes - k * value_limit)
  unfolding value_limit
  pieces_from k zero whole = omega (arith, whole)
  pieces_from k (suc count) whole =
      let rest = pieces_from (k + 1) count (omega (arith, whole)) in
      let here : length (row (piece_of bytes k)).1 ≡ length (take value_limit (drop (k * value_limit) bytes)) = ap (λ (b : List ℕ). length b) (is (piece_of bytes k)) in
      let piece = piece_weighs bytes k in
      omega (arith, rest, here, piece)

  pieces_weigh : total_weight (map row (pieces_of bytes)) ≡ pieces_length (length bytes)
  unfolding value_limit
  pieces_weigh =
      let count : ℕ = piece_count (length bytes) in
      let whole : length bytes ≤ count * value_limit = few_bytes value_limit (length bytes) count (omega arith) (omega arith) in
      let all = pieces_from 0 count (omega (arith, whole)) in
      omega (arith, all)

-- ---- tables

states_length : (ns : List ℕ) → length (flat_map u16 ns) ≡ 2 * length ns
states_length [] = refl
states_length (n ∷ ns) = let more = states_length ns in length-append (u16 n) (flat_map u16 ns) ∙ omega (arith, more)

table_is : (t : Table) → IsWhole t → length (table_bytes t) ≡ table_length t.states t.symbols
table_is t whole =
    let states = states_length t.next in
    let bits = length-map t.yes bit in
    let rows = whole.rows in
    let answers = whole.answers in
    length-append (flat_map u16 t.next) (map bit t.yes) ∙ omega (arith, states, bits, rows, answers)

-- one of fewer states weighs less
fewer_pieces : (m n : ℕ) → m ≤ n → piece_count m ≤ piece_count n
unfolding value_limit
fewer_pieces m n le = omega (arith, le)

fewer_states : (n most symbols : ℕ) → n ≤ most → trigger_length n symbols ≤ trigger_length most symbols
fewer_states n most symbols le =
    let cells = mul-le n symbols most symbols le (omega arith) in
    let bytes : table_length n symbols ≤ table_length most symbols = omega (arith, cells, le) in
    let pieces = fewer_pieces (table_length n symbols) (table_length most symbols) bytes in
    omega (arith, bytes, pieces)

-- how much more a trigger's table counts than it weighs
abbrev over : TriggerDecl → Table → ℕ
over d t = trigger_length (tree_count d.event) t.symbols - trigger_length t.states t.symbols

with_more : (weighs own most all : ℕ) → weighs ≡ own → own ≤ most → most ≡ all → weighs + (most - own) ≡ all
with_more weighs own most all is less same = omega (arith, is, less, same)

table_weighs : (class place : ℕ) (t : Table) (d : TriggerDecl) (rows : Alphabet) → IsCompiled d t rows
    → total_weight (table_head class place t ∷ []) + total_weight (table_pieces class place t) + over d t ≡ trigger_weight d
table_weighs class place t d rows made =
    let pieces : total_weight (table_pieces class place t) ≡ pieces_length (table_length t.states t.symbols) =
    pieces_weigh (table_row class place) (λ p. refl) (table_bytes t) ∙ ap pieces_length (table_is t made.whole) in
    let head : length (table_head class place t).1 ≡ 3 = length-append (u16 t.states) (byte t.symbols) in
    with_more (total_weight (table_head class place t ∷ []) + total_weight (table_pieces class place t)) (trigger_length t.states t.symbols) (trigger_length (tree_count d.event) t.symbols)
    (trigger_weight d) (omega (arith, pieces, head)) (fewer_states t.states (tree_count d.event) t.symbols made.states) (ap (trigger_length (tree_count d.event)) made.means.symbols)

module _ (class : ℕ) (by : ℕ → Table) where
  abbrev heads : ℕ → ℕ → List Row
  heads k n = map (λ place. table_head class place (by place)) (range_with_len k n)

  abbrev pieces : ℕ → ℕ → List Row
  pieces k n = flat_map (λ place. table_pieces class place (by place)) (range_with_len k n)

  tables_weigh : (k : ℕ) (ts : List TriggerDecl) (own : List Table) (alphabets : List Alphabet) → AreCompiled ts own alphabets → map by (range_with_len k (length ts)) ≡ own
      → total_weight (heads k (length ts)) + total_weight (pieces k (length ts)) + spare_beside (tree_counts ts) own ≡ sum_by trigger_weight ts
  tables_weigh k [] own alphabets all same = refl
  tables_weigh k (t ∷ ts) [] alphabets all same = absurd all
  tables_weigh k (t ∷ ts) (x ∷ xs) [] all same = absurd all
  tables_weigh k (t ∷ ts) (x ∷ xs) (rows ∷ more) all same =
      let here : by k ≡ x = cc in
      let there : map by (range_with_len (k + 1) (length ts)) ≡ xs = cc in
      let made : IsCompiled t (by k) rows = subst (λ (u : Table). IsCompiled t u rows) (sym here) all.0 in
      let one : total_weight (table_head class k (by k) ∷ []) + total_weight (table_pieces class k (by k)) + over t x ≡ trigger_weight t =
      subst (λ (u : Table). total_weight (table_head class k (by k) ∷ []) + total_weight (table_pieces class k (by k)) + over t u ≡ trigger_weight t) here
      (table_weighs class k (by k) t rows made) in
      let rest = tables_weigh (k + 1) ts xs more all.1 there in
      let both = total_both (table_pieces class k (by k)) (pieces (k + 1) (length ts)) in
      let sum = sum_by-cons trigger_weight t ts in
      omega (arith, one, rest, both, sum)

-- ---- the whole

head_length : (c : Declared) → length (head_row c).1 ≡ 11 + length c.class.name
head_length c =
    let a = byte (length c.class.name) in
    let p = u32 (unwrap_or c.class.parent 0) in
    let t = u32 (length (decl_text c.tree)) in
    let one = length-append (a ++ c.class.name ++ p ++ t) (u16 (length c.class.triggers)) in
    let two = length-append (a ++ c.class.name ++ p) t in
    let three = length-append (a ++ c.class.name) p in
    let four = length-append a c.class.name in
    omega (arith, one, two, three, four)

pub class_weighs : (by : ℕ → ℕ → Table) (c : Declared) (own : List Table) (alphabets : List Alphabet) → IsStoredBy by c c.class (decl_text c.tree) own → AreCompiled c.class.triggers own alphabets
    → put_bytes (puts (class_rows by c)) + spare_beside (tree_counts c.class.triggers) own ≡ class_weight c
class_weighs by c own alphabets is made =
    let T : List Row = text_rows c in
    let H : List Row = table_heads by c in
    let P : List Row = table_rows by c in
    let text : total_weight T ≡ pieces_length (length (decl_text c.tree)) = pieces_weigh (text_row c.class.number) (λ p. refl) (decl_text c.tree) in
    let more = spare_beside (tree_counts c.class.triggers) own in
    let tables : total_weight H + total_weight P + more ≡ sum_by trigger_weight c.class.triggers = tables_weigh c.class.number (by c.class.number) 0 c.class.triggers own alphabets made is.tables_are in
    let head = head_length c in
    let first = total_both (head_row c ∷ T ++ H) P in
    let second = total_both (head_row c ∷ T) H in
    ap (λ n. n + more) (put_rows (class_rows by c)) ∙ omega (arith, text, tables, head, first, second)
