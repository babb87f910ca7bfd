-- The records of added fields and the counters, one put behind the other: they are short.
use Rattle.std.proofs.Common.{◌≡◌, ◌<◌, ◌≤◌, ◌+◌, ◌∙◌, ℕ, zero, suc, List, [], ◌∷◌, ◌++◌, length, map, take, get_or, Option, Some, refl, ap, sym, arith, length-append}
use Rattle.std.specs.BTreeMap.{insert_entry}
use Rattle.std.specs.Int.{w16, to_be_bytes}
use Rattle.std.specs.Ordering.{match_ordering}
use Rattle.std.specs.declared.cmp.Ordering.{Ordering}
use Rattle.std.specs.declared.cmp.Ordering.TheVariants.{Less, Equal, Greater}
use Rattle.std.proofs.lemmas.List.{map-append, take_more}
use Rattle.ode_change.proofs.Gathers.{taken_all}
use Rattle.ode_changed_laws.specs.Records.{added_row_by, counters_behind, fields_put, referred_by}
use Rattle.ode_class_records.proofs.PutLaws.{row_more}
use Rattle.ode_class_records.specs.Puts.{with_rows}
use Rattle.ode_codec.specs.Spelling.{nexts_value, spelled, u32, value_of}
use Rattle.ode_codec.specs.StoredRows.{sort_number}
use Rattle.ode_codec.specs.declared.record.Counters.{Counters}
use Rattle.ode_codec.specs.declared.record.Record.TheVariants as of
use Rattle.ode_declare.proofs.BatchLaws.{short_more}
use Rattle.ode_good_runs.specs.Reading.{IsReadValue}
use Rattle.ode_keep.specs.Entries.{Changes}
use Rattle.ode_keep.specs.ShortValues.{HasShortValues}
use Rattle.ode_keep.specs.declared.limits.TheConstants.{MAX_VALUE}
use Rattle.ode_value.specs.Keys.{key_cmp}
use Rattle.ode_value.specs.Limits.{name_limit}
use Rattle.ode_value.specs.Records.{Row, byte, spelled_value, stamp_bytes}
use Rattle.ode_value.specs.declared.change.Added.{Added}
use Rattle.ode_value.specs.declared.class.Class.{Class}
use Rattle.ode_value.specs.declared.key.Key.{Key}
use Rattle.ode_value.specs.declared.value.Value.{Value}
use Rattle.ode_value.specs.declared.value.Value.TheVariants as value

-- ---- lengths

abbrev longest_value : ℕ
longest_value = 2051

value_short : (v : Value) → IsReadValue v → length (spelled_value v) ≤ longest_value
value_short (value.Int n) read = let is : length (spelled_value (value.Int n)) ≡ 9 = refl in omega (arith, is)
value_short (value.Bool b) read = let is : length (spelled_value (value.Bool b)) ≡ 2 = refl in omega (arith, is)
value_short (value.Text t) read =
    let short = read.short in
    let is = length-append (byte 2 ++ to_be_bytes w16 (length t)) t in
    omega (arith, short, is)
value_short (value.Reference r) read = let is : length (spelled_value (value.Reference r)) ≡ 13 = refl in omega (arith, is)

pub field_short : (classes : List Class) (a : Added) → length a.name ≤ name_limit → IsReadValue a.value → length (added_row_by classes a).1 ≤ MAX_VALUE
unfolding value_of
field_short classes a name read =
    let n = byte (length a.name) in
    let s = byte (sort_number a.sort) in
    let r = u32 (referred_by classes a.sort) in
    let v = spelled_value a.value in
    let literal = value_short a.value read in
    let one = length-append (n ++ a.name) (s ++ (r ++ v)) in
    let two = length-append n a.name in
    let three = length-append s (r ++ v) in
    let four = length-append r v in
    omega (arith, name, literal, one, two, three, four)

stamp_short : (n : ℕ) → length (stamp_bytes n) ≤ 4
stamp_short zero = omega arith
stamp_short (suc n) = let is : length (stamp_bytes (suc n)) ≡ 4 = refl in omega (arith, is)

pub counters_short : (c : Counters) (added : ℕ) → length (spelled (of.Counters (counters_behind c added))).1 ≤ MAX_VALUE
unfolding value_of
counters_short c added =
    let first : length (nexts_value (counters_behind c added)) ≡ 45 = refl in
    let stamp = stamp_short added in
    let all = length-append (nexts_value (counters_behind c added)) (stamp_bytes added) in
    omega (arith, first, stamp, all)

-- ---- one more change

longer_at : (e : Key × Option (List ℕ)) (es : Changes) (k : Key) (w : Option (List ℕ)) → length (insert_entry key_cmp es k w) ≤ length es + 1
    → (o : Ordering) → length (match_ordering o ((k, w) ∷ e ∷ es) ((e.0, w) ∷ es) (e ∷ insert_entry key_cmp es k w)) ≤ length (e ∷ es) + 1
longer_at e es k w more Less = omega arith
longer_at e es k w more Equal = omega arith
longer_at e es k w more Greater = omega (arith, more)

pub one_longer : (es : Changes) (k : Key) (w : Option (List ℕ)) → length (insert_entry key_cmp es k w) ≤ length es + 1
one_longer [] k w = omega arith
one_longer (e ∷ es) k w = longer_at e es k w (one_longer es k w) (key_cmp k e.0)

pub put_short : (r : Row) (old new : Changes) → new ≡ with_rows (r ∷ []) old → length r.1 ≤ MAX_VALUE → HasShortValues old → HasShortValues new
put_short r old new is one short = short_more r.0 (Some r.1) old new is one short

pub put_few : (r : Row) (old new : Changes) → new ≡ with_rows (r ∷ []) old → length new ≤ length old + 1
put_few r old new is =
    let same : length new ≡ length (insert_entry key_cmp old r.0 (Some r.1)) = ap (λ (cs : Changes). length cs) is in
    let more = one_longer old r.0 (Some r.1) in
    omega (arith, same, more)

-- ---- field by field

pub fields_next : (classes : List Class) (xs : List Added) (i : ℕ) (x : Added) (batch new : Changes) → i < length xs → x ≡ get_or xs i x → batch ≡ fields_put classes (take i xs)
    → new ≡ with_rows (added_row_by classes x ∷ []) batch → new ≡ fields_put classes (take (i + 1) xs)
fields_next classes xs i x batch new inside is so more =
    let taken : take (i + 1) xs ≡ take i xs ++ x ∷ [] = take_more xs i x inside ∙ ap (λ (y : Added). take i xs ++ y ∷ []) (sym is) in
    let rows : map (added_row_by classes) (take (i + 1) xs) ≡ map (added_row_by classes) (take i xs) ++ added_row_by classes x ∷ [] =
    ap (map (added_row_by classes)) taken ∙ map-append (added_row_by classes) (take i xs) (x ∷ []) in
    row_more (map (added_row_by classes) (take i xs)) (added_row_by classes x) [] batch new so more ∙ ap (λ (rs : List Row). with_rows rs []) (sym rows)

pub fields_done : (classes : List Class) (xs : List Added) (i : ℕ) (batch : Changes) → length xs ≤ i → batch ≡ fields_put classes (take i xs) → batch ≡ fields_put classes xs
fields_done classes xs i batch low so = so ∙ ap (fields_put classes) (taken_all i xs low)
