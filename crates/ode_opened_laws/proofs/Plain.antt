-- Where no field was added to the classes of a good world, no version has a stamp, so all its records have forms that the first format
-- knows.
use Rattle.std.proofs.Common.{◌≡◌, ℕ, ◌+◌, ◌<◌, ◌≤◌, ◌^◌, List, [], ◌∷◌, ◌++◌, length, map, true, false, cond, ltb, Bool, Option, Some, None, refl, ap, ◌∙◌, arith, append_assoc, append-nil, length-append}
use Rattle.std.specs.Prelude.{◌==◌, ◌||◌, nat_le, nat_lt, not}
use Rattle.std.specs.Int.{w16, byte_len, from_be_bytes, to_be_bytes}
use Rattle.std.specs.List.{AllByRecursion, flat_map}
use Rattle.std.specs.Option.{IfSome, IsSome, option_map_or, unwrap_or}
use Rattle.std.proofs.lemmas.Bool.{le-ltb}
use Rattle.std.proofs.lemmas.Bool.Decides.{nat_tests}
use Rattle.std.proofs.lemmas.List.{drop_at}
use Rattle.std.proofs.lemmas.Nat.{from_be_bytes-to_be_bytes_2}
use Rattle.ode_codec.specs.FirstFormat.{is_of_first, is_unstamped}
use Rattle.ode_codec.specs.Formats.{number_in}
use Rattle.ode_codec.specs.StoredRows.{added_row, added_rows, counters_row, u16, u32, u64}
use Rattle.ode_value.specs.Changing.{added_to}
use Rattle.ode_value.specs.Fields.{born_values}
use Rattle.ode_value.specs.GoodWorlds.{IsObject, IsVersion}
use Rattle.ode_value.specs.Keys.{added_kind, counters_kind, version_kind}
use Rattle.ode_value.specs.Records.{Row, clock_bytes, spelled_value, stamp_bytes, version_bytes, version_row}
use Rattle.ode_value.specs.Versions.{Version}
use Rattle.ode_value.specs.Worlds.{Bones, Declared, Object, Position, class_numbered}
use Rattle.ode_value.specs.declared.change.Added.{Added}
use Rattle.ode_value.specs.declared.class.Class.{Class}
use Rattle.ode_value.specs.declared.class.Field.{Field}
use Rattle.ode_value.specs.declared.key.Key.{Key}
use Rattle.ode_value.specs.declared.value.Value.{Value}

-- ---- no added fields

pub none_added : (b : Bones) → b.added ≡ [] → (ds : List Declared) → flat_map (added_rows b) ds ≡ []
none_added b none [] = refl
none_added b none (d ∷ ds) =
    ap (λ (all : List Added). map (added_row b.classes) (added_to d.class.number all) ++ flat_map (added_rows b) ds) none ∙ none_added b none ds

-- ---- by the format

-- where records are of the first format, this is so
pub plain_where : (first : Bool) (k : Key) (bytes : List ℕ) → (first ≡ true → is_of_first k bytes ≡ true) → (not first || is_of_first k bytes) ≡ true
plain_where true k bytes plain = plain refl
plain_where false k bytes plain = refl

-- ---- no stamps

abbrev pub IsUnstamped : Version → Type 0
IsUnstamped v = v.stamp ≡ 0

module _ (b : Bones) (none : b.added ≡ []) where
  version_unstamped : (c : Class) (last : ℕ) (v : Version) → IsVersion b c last v → IsUnstamped v
  version_unstamped c last v is =
      let upto : v.stamp ≤ length b.added = is.stamp in
      let zero : length b.added ≡ 0 = ap (λ (all : List Added). length all) none in
      omega (arith, upto, zero)

  versions_unstamped : (c : Class) (last : ℕ) (vs : List Version) → AllByRecursion (IsVersion b c last) vs → AllByRecursion IsUnstamped vs
  versions_unstamped c last [] all = tt
  versions_unstamped c last (v ∷ vs) all = (version_unstamped c last v all.0, versions_unstamped c last vs all.1)

  pub object_unstamped : (o : Object) → IsObject b o → AllByRecursion IsUnstamped o.versions
  object_unstamped o is = by (class_numbered o.class b.classes) is.class is.versions
    where
      by : (found : Option Class) → IsSome found → IfSome found (λ (c : Class). AllByRecursion (IsVersion b c o.last) o.versions) → AllByRecursion IsUnstamped o.versions
      by None some all = absurd (cc)
      by (Some c) some all = versions_unstamped c o.last o.versions all

-- ---- the forms of records

-- a record of another kind than those that have two forms
pub plain_kind : (k : Key) (bytes : List ℕ) → (k.kind == added_kind) ≡ false → (k.kind == counters_kind) ≡ false → (k.kind == version_kind) ≡ false → is_of_first k bytes ≡ true
plain_kind k bytes added counters version =
    ap (λ t. cond t false (cond (k.kind == counters_kind) (nat_le (length bytes) 45) (cond (k.kind == version_kind) (is_unstamped bytes) true))) added
    ∙ ap (λ t. cond t (nat_le (length bytes) 45) (cond (k.kind == version_kind) (is_unstamped bytes) true)) counters
    ∙ ap (λ t. cond t (is_unstamped bytes) true) version

other_kind : (n kind : ℕ) → 1 < n → n < 7 → kind < 2 → (n == kind) ≡ false
other_kind n kind low high small = grind (arith, nat_tests)

no_kind : (n kind : ℕ) → n < 7 → 6 < kind → (n == kind) ≡ false
no_kind n kind high big = grind (arith, nat_tests)

-- those of classes, tables and objects are
pub plain_between : (e : Row) → 2 ≤ e.0.kind → e.0.kind ≤ 6 → is_of_first e.0 e.1 ≡ true
plain_between e low high =
    plain_kind e.0 e.1 (no_kind e.0.kind added_kind (omega (arith, high)) (omega arith))
    (other_kind e.0.kind counters_kind (omega (arith, low)) (omega (arith, high)) (omega arith))
    (no_kind e.0.kind version_kind (omega (arith, high)) (omega arith))

-- a number of two bytes that stands in front
number_first : (n : ℕ) (rest : List ℕ) → n < 2 ^ 16 → number_in w16 (to_be_bytes w16 n ++ rest) ≡ Some (n, rest)
number_first n rest low =
    let long : ltb (length (to_be_bytes w16 n ++ rest)) (byte_len w16) ≡ false = le-ltb _ _ (omega (arith, length-append (to_be_bytes w16 n) rest)) in
    ap (λ t. cond t None (Some (from_be_bytes w16 (to_be_bytes w16 n), rest))) long ∙ ap (λ (m : ℕ). Some (m, rest)) (from_be_bytes-to_be_bytes_2 n low)

-- few enough fields leave the high bit of their count
abbrev is_few : ℕ × List ℕ → Bool
is_few n = nat_lt n.0 (2 ^ 15)

bytes_unstamped : (parent : ℕ) (values : List Value) → length values < 2 ^ 15 → is_unstamped (version_bytes parent 0 values) ≡ true
bytes_unstamped parent values few =
    let n = length values in
    let rest = flat_map spelled_value values in
    let parts : version_bytes parent 0 values ≡ u32 parent ++ (u16 n ++ rest) = ap (λ (bytes : List ℕ). bytes ++ rest) (append-nil (u32 parent ++ u16 n)) ∙ append_assoc (u32 parent) (u16 n) rest in
    let less : nat_lt n (2 ^ 15) ≡ true = grind (arith, nat_tests) in
    ap is_unstamped parts
    ∙ ap (λ (bytes : List ℕ). option_map_or is_few (number_in w16 bytes) true) (drop_at (u32 parent) (u16 n ++ rest) 4 refl)
    ∙ ap (λ (found : Option (ℕ × List ℕ)). option_map_or is_few found true) (number_first n rest (omega (arith, few)))
    ∙ less

pub version_plain : (id : ℕ) (fields : List Field) (v : Version) → IsUnstamped v → length (born_values v.stamp fields v.fields) < 2 ^ 15
    → is_of_first (version_row id fields v).0 (version_row id fields v).1 ≡ true
version_plain id fields v zero few =
    let parent = unwrap_or v.parent 0 in
    let values = born_values v.stamp fields v.fields in
    ap (λ (stamp : ℕ). is_unstamped (version_bytes parent stamp values)) zero ∙ bytes_unstamped parent values few

pub counters_plain : (b : Bones) → b.added ≡ [] → is_of_first (counters_row b).0 (counters_row b).1 ≡ true
counters_plain b none =
    ap (λ (all : List Added). nat_le (length ((u64 b.next ++ u64 b.transaction ++ u64 b.next_entry ++ clock_bytes b.clock) ++ stamp_bytes (length all))) 45) none ∙ by b.clock
  where
    by : (clock : Option Position) → nat_le (length ((u64 b.next ++ u64 b.transaction ++ u64 b.next_entry ++ clock_bytes clock) ++ [])) 45 ≡ true
    by None = refl
    by (Some p) = refl
