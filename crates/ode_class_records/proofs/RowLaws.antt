-- All rows of a class: they rise, are as many as are counted, and are short.
use Rattle.std.proofs.Common.{◌≡◌, ◌<◌, ◌≤◌, ℕ, zero, suc, ◌+◌, ◌*◌, List, [], ◌∷◌, ◌++◌, length, map, drop, take, refl, ap, sym, ◌∙◌, arith, append_assoc, length-append, subst}
use Rattle.std.specs.Prelude.{IfSome}
use Rattle.std.specs.List.{AllByRecursion, enumerate_from, flat_map, range_with_len, sum_by}
use Rattle.std.specs.List.Sorted.{IsStrictlySortedBy}
use Rattle.std.specs.Map.{values_of}
use Rattle.std.specs.Option.{unwrap_or}
use Rattle.std.proofs.lemmas.List.{append-nil, length-map, length-take}
use Rattle.std.proofs.lemmas.List.Elements.{All-from_recursion}
use Rattle.std.proofs.lemmas.List.FromFn.{length-map-range_with_len}
use Rattle.std.proofs.lemmas.List.Sums.{sum_by-cons}
use Rattle.std.proofs.lemmas.Simd.{map-map}
use Rattle.ode_codec.specs.declared.record.TheConstants.{TABLE_PLACES}
use Rattle.ode_codec.specs.StoredRows.{head_row, piece_of, pieces_of, places_of, table_bytes, table_heads, table_row, table_rows, text_row, text_rows, u16, u32}
use Rattle.ode_keep.specs.Entries.{Changes, HasRisingKeys}
use Rattle.ode_keep.specs.ShortValues.{HasShortValues}
use Rattle.ode_keep.specs.declared.limits.TheConstants.{MAX_VALUE}
use Rattle.ode_value.specs.Keys.{class_head_kind, class_piece_kind, key, table_head_kind, table_piece_kind}
use Rattle.ode_value.specs.Lengths.{class_records, piece_count, table_length, table_records}
use Rattle.ode_value.specs.Limits.{value_limit}
use Rattle.ode_value.specs.PrintedClasses.{decl_text}
use Rattle.ode_value.specs.Records.{Row, byte}
use Rattle.ode_value.specs.Tables.{Table}
use Rattle.ode_value.specs.Text.{IsName}
use Rattle.ode_value.specs.Worlds.{Declared}
use Rattle.ode_value.specs.declared.class.Class.{Class}
use Rattle.ode_value.specs.declared.key.Key.{Key}
use Rattle.ode_compile.specs.Compiling.{size_of_table}
use Rattle.ode_class_records.specs.ClassRows.{IsSized, IsStoredBy, class_head, class_rows, head_at, own_rows, pieces_at}
use Rattle.ode_class_records.specs.Puts.{puts, with_rows}
use Rattle.ode_class_records.proofs.ClimbLaws.{Climbs, HigherKinds, climbs_behind, climbs_by, climbs_from, climbs_to, higher_both, higher_climb, rising_behind}
use Rattle.ode_class_records.proofs.PutLaws.{rising_rows, rows_behind}

abbrev Sized : List Table → Type 0
Sized ts = AllByRecursion IsSized ts

abbrev heads_of : ℕ → ℕ → List Table → List Row
heads_of class first ts = map (head_at class) (enumerate_from first ts)

abbrev tables_of : ℕ → ℕ → List Table → List Row
tables_of class first ts = flat_map (pieces_at class) (enumerate_from first ts)

abbrev text_of : ℕ → List ℕ → List Row
text_of class text = map (text_row class) (pieces_of text)

-- ---- the rows climb

pub text_climbs : (class : ℕ) (text : List ℕ) → Climbs class_piece_kind class 0 (piece_count (length text)) (text_of class text)
text_climbs class text =
    let count = piece_count (length text) in
    let row : ℕ → Row = λ n. text_row class (piece_of text n) in
    let is : (n : ℕ) → (row n).0 ≡ key class_piece_kind class (0 + n) = λ n. let same : n ≡ 0 + n = omega arith in ap (key class_piece_kind class) same in
    subst (Climbs class_piece_kind class 0 count) (sym (map-map (text_row class) (piece_of text) (range_with_len 0 count)))
    (climbs_to class_piece_kind class 0 (0 + (0 + count)) count (map row (range_with_len 0 count)) (omega arith) (climbs_by class_piece_kind class 0 row is 0 count))

pub heads_climb : (class first : ℕ) (ts : List Table) → Climbs table_head_kind class first (first + length ts) (heads_of class first ts)
heads_climb class first [] = omega arith
heads_climb class first (t ∷ ts) =
    (refl, refl, omega arith, climbs_to table_head_kind class (first + 1) (first + 1 + length ts) (first + suc (length ts)) (heads_of class (first + 1) ts) (omega arith) (heads_climb class (first + 1) ts))

pieces_climb : (class place : ℕ) (t : Table) → IsSized t → Climbs table_piece_kind class (place * TABLE_PLACES) ((place + 1) * TABLE_PLACES) (pieces_at class (place, t))
pieces_climb class place t sized =
    let count = piece_count (length (table_bytes t)) in
    let base = place * TABLE_PLACES in
    let row : ℕ → Row = λ n. table_row class place (piece_of (table_bytes t) n) in
    let few : count < TABLE_PLACES = subst (λ n. piece_count n < TABLE_PLACES) (sym sized.bytes) sized.few in
    let split : (place + 1) * TABLE_PLACES ≡ base + TABLE_PLACES = omega arith in
    subst (Climbs table_piece_kind class base ((place + 1) * TABLE_PLACES)) (sym (map-map (table_row class place) (piece_of (table_bytes t)) (range_with_len 0 count)))
    (climbs_to table_piece_kind class base (base + (0 + count)) ((place + 1) * TABLE_PLACES) (map row (range_with_len 0 count)) (omega (arith, few, split))
    (climbs_from table_piece_kind class base (base + 0) (base + (0 + count)) (map row (range_with_len 0 count)) (omega arith)
    (climbs_by table_piece_kind class base row (λ n. refl) 0 count)))

pub tables_climb : (class first : ℕ) (ts : List Table) → Sized ts → Climbs table_piece_kind class (first * TABLE_PLACES) ((first + length ts) * TABLE_PLACES) (tables_of class first ts)
tables_climb class first [] sized = omega arith
tables_climb class first (t ∷ ts) sized =
    climbs_behind table_piece_kind class (first * TABLE_PLACES) ((first + 1) * TABLE_PLACES) ((first + suc (length ts)) * TABLE_PLACES) (pieces_at class (first, t)) (tables_of class (first + 1) ts)
    (pieces_climb class first t sized.0)
    (climbs_to table_piece_kind class ((first + 1) * TABLE_PLACES) ((first + 1 + length ts) * TABLE_PLACES) ((first + suc (length ts)) * TABLE_PLACES) (tables_of class (first + 1) ts) (omega arith)
    (tables_climb class (first + 1) ts sized.1))

module _ (c : Class) (text : List ℕ) (ts : List Table) (sized : Sized ts) where
  abbrev n : ℕ
  n = c.number

  abbrev head : Row
  head = class_head c (length text) (length ts)

  abbrev T : List Row
  T = text_of n text

  abbrev H : List Row
  H = heads_of n 0 ts

  abbrev P : List Row
  P = tables_of n 0 ts

  grouped : own_rows c text ts ≡ (head ∷ []) ++ (T ++ (H ++ P))
  grouped = append_assoc (head ∷ T) H P

  none_rise : HasRisingKeys (puts [])
  unfolding IsStrictlySortedBy
  none_rise = tt

  tables_high : (kind : ℕ) → kind < table_piece_kind → HigherKinds kind P
  tables_high kind less = higher_climb kind table_piece_kind n (0 * TABLE_PLACES) ((0 + length ts) * TABLE_PLACES) P less (tables_climb n 0 ts sized)

  heads_high : (kind : ℕ) → kind < table_head_kind → HigherKinds kind (H ++ P)
  heads_high kind less =
      higher_both kind H P (higher_climb kind table_head_kind n 0 (0 + length ts) H less (heads_climb n 0 ts)) (tables_high kind (omega (arith, less)))

  text_high : HigherKinds class_head_kind (T ++ (H ++ P))
  text_high =
      higher_both class_head_kind T (H ++ P) (higher_climb class_head_kind class_piece_kind n 0 (piece_count (length text)) T (omega arith) (text_climbs n text))
      (heads_high class_head_kind (omega arith))

  tables_rise : HasRisingKeys (puts P)
  tables_rise = subst (λ rs. HasRisingKeys (puts rs)) (append-nil P) (rising_behind table_piece_kind n (0 * TABLE_PLACES) ((0 + length ts) * TABLE_PLACES) P [] (tables_climb n 0 ts sized) tt none_rise)

  pub rows_rise : HasRisingKeys (puts (own_rows c text ts))
  rows_rise =
      subst (λ rs. HasRisingKeys (puts rs)) (sym grouped)
      (rising_behind class_head_kind n 0 1 (head ∷ []) (T ++ (H ++ P)) (refl, refl, omega arith, omega arith) text_high
      (rising_behind class_piece_kind n 0 (piece_count (length text)) T (H ++ P) (text_climbs n text) (heads_high class_piece_kind (omega arith))
      (rising_behind table_head_kind n 0 (0 + length ts) H P (heads_climb n 0 ts) (tables_high table_head_kind (omega arith)) tables_rise)))

-- ---- how many there are

pieces_count : (bytes : List ℕ) → length (pieces_of bytes) ≡ piece_count (length bytes)
pieces_count bytes = length-map-range_with_len (piece_of bytes) 0 (piece_count (length bytes))

tables_count : (class first : ℕ) (ts : List Table) → Sized ts → length (heads_of class first ts) + length (tables_of class first ts) ≡ sum_by table_records (map size_of_table ts)
tables_count class first [] sized = refl
tables_count class first (t ∷ ts) sized =
    let here : length (pieces_at class (first, t)) ≡ piece_count (table_length t.states t.symbols) =
    length-map (pieces_of (table_bytes t)) (table_row class first) ∙ pieces_count (table_bytes t) ∙ ap piece_count sized.0.bytes in
    omega (arith, here, length-append (pieces_at class (first, t)) (tables_of class (first + 1) ts), tables_count class (first + 1) ts sized.1, sum_by-cons table_records (size_of_table t) (map size_of_table ts))

pub rows_count : (c : Class) (text : List ℕ) (ts : List Table) → Sized ts → length (own_rows c text ts) ≡ class_records (length text) (map size_of_table ts)
rows_count c text ts sized =
    let T = text_of c.number text in
    let H = heads_of c.number 0 ts in
    let P = tables_of c.number 0 ts in
    let first = class_head c (length text) (length ts) in
    let texts : length T ≡ piece_count (length text) = length-map (pieces_of text) (text_row c.number) ∙ pieces_count text in
    omega (arith, length-append (first ∷ T ++ H) P, length-append (first ∷ T) H, texts, tables_count c.number 0 ts sized)

-- ---- how long they are

abbrev AreShort : List Row → Type 0
AreShort rs = AllByRecursion (λ (r : Row). length r.1 ≤ MAX_VALUE) rs

short_both : (rs ss : List Row) → AreShort rs → AreShort ss → AreShort (rs ++ ss)
short_both [] ss p q = q
short_both (r ∷ rs) ss p q = (p.0, short_both rs ss p.1 q)

piece_short : (bytes : List ℕ) → length (take value_limit bytes) ≤ MAX_VALUE
unfolding value_limit
piece_short bytes = omega (arith, length-take value_limit bytes)

pieces_short : (key_of : ℕ → Key) (bytes : List ℕ) (ns : List ℕ) → AreShort (map (λ (p : ℕ × List ℕ). (key_of p.0, p.1)) (map (piece_of bytes) ns))
pieces_short key_of bytes [] = tt
pieces_short key_of bytes (n ∷ ns) = (piece_short (drop (n * value_limit) bytes), pieces_short key_of bytes ns)

heads_short : (class first : ℕ) (ts : List Table) → AreShort (heads_of class first ts)
heads_short class first [] = tt
heads_short class first (t ∷ ts) = (omega (arith, length-append (u16 t.states) (byte t.symbols)), heads_short class (first + 1) ts)

tables_short : (class first : ℕ) (ts : List Table) → AreShort (tables_of class first ts)
tables_short class first [] = tt
tables_short class first (t ∷ ts) =
    short_both (pieces_at class (first, t)) (tables_of class (first + 1) ts)
    (pieces_short (λ n. key table_piece_kind class (first * TABLE_PLACES + n)) (table_bytes t) (range_with_len 0 (piece_count (length (table_bytes t)))))
    (tables_short class (first + 1) ts)

head_short : (c : Class) (text_length triggers : ℕ) → IsName c.name → length (class_head c text_length triggers).1 ≤ MAX_VALUE
head_short c text_length triggers name =
    let a = byte (length c.name) in
    let p = u32 (unwrap_or c.parent 0) in
    omega (arith, length-append (a ++ c.name ++ p ++ u32 text_length) (u16 triggers), length-append (a ++ c.name ++ p) (u32 text_length), length-append (a ++ c.name) p, length-append a c.name, name.short)

all_short : (rs : List Row) → AreShort rs → AllByRecursion (λ value. IfSome value (λ bytes. length bytes ≤ MAX_VALUE)) (values_of (puts rs))
all_short [] h = tt
all_short (r ∷ rs) h = (h.0, all_short rs h.1)

pub rows_short : (c : Class) (text : List ℕ) (ts : List Table) → IsName c.name → HasShortValues (puts (own_rows c text ts))
rows_short c text ts name =
    let T = text_of c.number text in
    let H = heads_of c.number 0 ts in
    let P = tables_of c.number 0 ts in
    let first = class_head c (length text) (length ts) in
    All-from_recursion (λ value. IfSome value (λ bytes. length bytes ≤ MAX_VALUE)) (values_of (puts (own_rows c text ts)))
    (all_short (own_rows c text ts)
    (short_both (first ∷ T ++ H) P
    (short_both (first ∷ T) H
    (head_short c (length text) (length ts) name, pieces_short (λ n. key class_piece_kind c.number n) text (range_with_len 0 (piece_count (length text))))
    (heads_short c.number 0 ts))
    (tables_short c.number 0 ts)))

-- ---- they are those of a declared class

enumerated : (f : ℕ → Table) (first count : ℕ) → enumerate_from first (map f (range_with_len first count)) ≡ map (λ place. (place, f place)) (range_with_len first count)
enumerated f first zero = refl
enumerated f first (suc count) = ap (λ ps. (first, f first) ∷ ps) (enumerated f (first + 1) count)

flat_mapped : {X Y Z : Type 0} (g : Y → List Z) (f : X → Y) (xs : List X) → flat_map g (map f xs) ≡ flat_map (λ x. g (f x)) xs
flat_mapped g f [] = refl
flat_mapped g f (x ∷ xs) = ap (λ zs. g (f x) ++ zs) (flat_mapped g f xs)

module _ (by : ℕ → ℕ → Table) (d : Declared) where
  abbrev own : List Table
  own = map (by d.class.number) (places_of d)

  abbrev numbered : ℕ → ℕ × Table
  numbered place = (place, by d.class.number place)

  places_numbered : enumerate_from 0 own ≡ map numbered (places_of d)
  places_numbered = enumerated (by d.class.number) 0 (length d.class.triggers)

  -- the heads and the pieces of its tables
  pub heads_stored : heads_of d.class.number 0 own ≡ table_heads by d
  heads_stored = ap (map (head_at d.class.number)) places_numbered ∙ map-map (head_at d.class.number) numbered (places_of d)

  pub tables_stored : tables_of d.class.number 0 own ≡ table_rows by d
  tables_stored = ap (flat_map (pieces_at d.class.number)) places_numbered ∙ flat_mapped (pieces_at d.class.number) numbered (places_of d)

  own_as_stored : own_rows d.class (decl_text d.tree) own ≡ class_rows by d
  own_as_stored =
      ap (λ k. class_head d.class (length (decl_text d.tree)) k ∷ text_rows d ++ heads_of d.class.number 0 own ++ tables_of d.class.number 0 own)
      (length-map-range_with_len (by d.class.number) 0 (length d.class.triggers))
      ∙ ap (λ hs. head_row d ∷ text_rows d ++ hs ++ tables_of d.class.number 0 own) heads_stored
      ∙ ap (λ ps. head_row d ∷ text_rows d ++ table_heads by d ++ ps) tables_stored

pub own_is_stored : (by : ℕ → ℕ → Table) (d : Declared) (c : Class) (text : List ℕ) (ts : List Table) → IsStoredBy by d c text ts → own_rows c text ts ≡ class_rows by d
own_is_stored by d c text ts is =
    ap (λ (xs : List Table). own_rows c text xs) (sym is.tables_are)
    ∙ ap (λ (bytes : List ℕ). own_rows c bytes (map (by c.number) (places_of d))) (sym is.text_is)
    ∙ ap (λ (e : Class). own_rows e (decl_text d.tree) (map (by e.number) (places_of d))) (sym is.class_is)
    ∙ own_as_stored by d

-- ---- all of them are put

pub all_put : (c : Class) (text : List ℕ) (ts : List Table) → Sized ts → (a b e g : Changes) → a ≡ with_rows (class_head c (length text) (length ts) ∷ []) []
    → b ≡ with_rows (text_of c.number text) a → e ≡ with_rows (heads_of c.number 0 ts) b → g ≡ with_rows (tables_of c.number 0 ts) e → g ≡ puts (own_rows c text ts)
all_put c text ts sized a b e g first texts heads tables =
    let T = text_of c.number text in
    let H = heads_of c.number 0 ts in
    let P = tables_of c.number 0 ts in
    let h = class_head c (length text) (length ts) in
    tables ∙ ap (with_rows P) heads ∙ ap (λ cs. with_rows P (with_rows H cs)) texts ∙ ap (λ cs. with_rows P (with_rows H (with_rows T cs))) first
    ∙ ap (λ cs. with_rows P (with_rows H cs)) (sym (rows_behind (h ∷ []) T []))
    ∙ ap (with_rows P) (sym (rows_behind (h ∷ T) H []))
    ∙ sym (rows_behind (h ∷ T ++ H) P [])
    ∙ rising_rows (own_rows c text ts) [] (rows_rise c text ts sized)
