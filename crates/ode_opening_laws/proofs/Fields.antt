-- What is read of the records of added fields.
use Rattle.std.proofs.Common.{◌≡◌, ℕ, zero, suc, ◌+◌, ◌-◌, ◌<◌, ◌≤◌, ◌^◌, List, [], ◌∷◌, ◌++◌, length, map, Bool, true, false, cond, Option, Some, None, Ok, refl, sym, subst, ap, ◌∙◌, append_assoc, length-append, arith}
use Rattle.std.specs.Prelude.{◌==◌, ◌||◌, ◌&&◌, not, nat_le}
use Rattle.std.specs.List.{AllByRecursion, filter, find, flat_map, list_any, range_with_len, slice_get}
use Rattle.std.specs.Option.{IsSome, option_and_then, option_map, option_map_or}
use Rattle.std.specs.Str.{bytes_eq}
use Rattle.std.proofs.lemmas.Bool.{eqb-true}
use Rattle.std.proofs.lemmas.Bool.Decides.{nat_tests}
use Rattle.std.proofs.lemmas.List.{map-append}
use Rattle.std.proofs.lemmas.List.Folds.{list_any-append}
use Rattle.std.proofs.lemmas.Slice.Eq.{bytes_eq-Decides}
use Rattle.ode_codec.specs.Formats.{is_sort}
use Rattle.ode_codec.specs.Rules.{HasRanges, InRange, IsKept, IsKeptValue, IsRecord}
use Rattle.ode_codec.specs.Spelling.{key_of, value_of}
use Rattle.ode_codec.specs.StoredRows.{added_row, referred, sort_number}
use Rattle.ode_codec.specs.declared.record.Record.{Record}
use Rattle.ode_codec.specs.declared.record.Record.TheVariants as of
use Rattle.ode_codec.specs.declared.record.TheConstants.{REFERENCE_SORT}
use Rattle.ode_keep.specs.Entries.{Entries}
use Rattle.ode_language.specs.Languages.{ode}
use Rattle.ode_opening.specs.Births.{added_in, added_of, class_name, first_missing, fits_literal, is_born, is_class, is_kept, list_one, listed, name_in, none_missing, sort_in}
use Rattle.ode_passes.specs.Complete.{class_count}
use Rattle.ode_passes.specs.Records.{Found, decoded}
use Rattle.ode_passes.specs.Rules.{Ruled, ◌>>=◌, found, needs}
use Rattle.ode_passes.specs.Walking.{within}
use Rattle.ode_passes.specs.declared.cause.Cause.TheVariants as cause
use Rattle.ode_value.specs.Changing.{added_to}
use Rattle.ode_value.specs.Fitting.{IsLiteralOf}
use Rattle.ode_value.specs.GoodWorlds.{AreAdded, AreClasses, IsAdded, IsClass, IsKnownSort, RiseFrom}
use Rattle.ode_value.specs.Keys.{added_key, added_kind}
use Rattle.ode_value.specs.Tables.{Table}
use Rattle.ode_value.specs.Worlds.{Declared, class_named, class_numbered}
use Rattle.ode_value.specs.declared.change.Added.{Added}
use Rattle.ode_value.specs.declared.class.Class.{Class}
use Rattle.ode_value.specs.declared.key.Key.{Key}
use Rattle.ode_value.specs.declared.statement.Sort.{Sort}
use Rattle.ode_value.specs.declared.statement.Sort.TheVariants as sort
use Rattle.ode_value.specs.declared.value.Value.{Value}
use Rattle.ode_value.specs.declared.value.Value.TheVariants as value
use Rattle.ode_opening_laws.specs.Holding.{own_rows}
use Rattle.ode_opening_laws.proofs.BornOnce.{AreFresh, IsPlaced, all_fresh, are_placed, blocks, has_same}
use Rattle.ode_opening_laws.proofs.Decoding.{Again, Decode, decodes_all, decodes_one}
use Rattle.ode_opening_laws.proofs.Each.{all_append, all_then}
use Rattle.ode_opening_laws.proofs.Expecting.{count_is}
use Rattle.ode_opening_laws.proofs.Founds.{found_of, head_found, heads_found, pieces_found, table_heads_found, tables_found}

-- ---- classes by number and by name

-- a class has a number from 1 on of so many, and stands there among the heads
pub record IsHead (heads : Found) (c : Class) : Type 0 where
  pub low : 1 ≤ c.number
  pub high : c.number ≤ class_count heads
  pub named : class_name heads c.number ≡ Some c.name

module _ (heads : Found) where
  abbrev pub Heads : List Declared → Type 0
  Heads ds = AllByRecursion (λ (d : Declared). IsHead heads d.class) ds

  numbered_head : (n : ℕ) (ds : List Declared) → Heads ds → IsSome (class_numbered n ds) → is_class heads n ≡ true
  numbered_head n [] all some = absurd (cc)
  numbered_head n (d ∷ ds) all some = by (d.class.number == n) refl some (numbered_head n ds all.1)
    where
      by : (b : Bool) → (d.class.number == n) ≡ b → IsSome (cond b (Some d.class) (class_numbered n ds)) → (IsSome (class_numbered n ds) → is_class heads n ≡ true) → is_class heads n ≡ true
      by true is some more =
          let same : d.class.number ≡ n = eqb-true d.class.number n is in
          let low = all.0.low in
          let high = all.0.high in
          let in_range : (nat_le 1 n && nat_le n (class_count heads)) ≡ true = grind (arith, nat_tests, same, low, high) in in_range
      by false is some more = more some

  -- what a reference's sort says of its class
  pub record IsReferred (name : List ℕ) (n : ℕ) : Type 0 where
    pub is : is_class heads n ≡ true
    pub low : n ≤ class_count heads
    pub named : class_name heads n ≡ Some name

  named_head : (name : List ℕ) (ds : List Declared) → Heads ds → IsSome (class_named name ds) → IsReferred name (option_map_or (λ (c : Class). c.number) (class_named name ds) 0)
  named_head name [] all some = absurd (cc)
  named_head name (d ∷ ds) all some = by (bytes_eq d.class.name name) refl some (named_head name ds all.1)
    where
      by : (b : Bool) → bytes_eq d.class.name name ≡ b → IsSome (cond b (Some d.class) (class_named name ds))
          → (IsSome (class_named name ds) → IsReferred name (option_map_or (λ (c : Class). c.number) (class_named name ds) 0))
          → IsReferred name (option_map_or (λ (c : Class). c.number) (cond b (Some d.class) (class_named name ds)) 0)
      by true is some more =
          let same : d.class.name ≡ name = (bytes_eq-Decides d.class.name name).0 is in
          let low = all.0.low in
          let high = all.0.high in
          let in_range : (nat_le 1 d.class.number && nat_le d.class.number (class_count heads)) ≡ true = grind (arith, nat_tests, low, high) in
          record { is = in_range; low = high; named = all.0.named ∙ ap (λ (n : List ℕ). Some n) same }
      by false is some more = more some

-- ---- literals

literal_kept : (s : Sort) (v : Value) → IsLiteralOf s v → IsKeptValue v
literal_kept s (value.Int n) literal = tt
literal_kept s (value.Bool b) literal = tt
literal_kept s (value.Text t) literal = tt
literal_kept sort.Int (value.Reference r) literal = absurd literal
literal_kept sort.Bool (value.Reference r) literal = absurd literal
literal_kept sort.Text (value.Reference r) literal = absurd literal
literal_kept (sort.Reference name) (value.Reference r) literal = subst IsKeptValue (sym literal) tt
literal_kept sort.Void (value.Reference r) literal = absurd literal

literal_in_range : (s : Sort) (v : Value) → IsLiteralOf s v → InRange v
literal_in_range sort.Int (value.Int n) literal = literal
literal_in_range sort.Int (value.Bool b) literal = absurd literal
literal_in_range sort.Int (value.Text t) literal = absurd literal
literal_in_range sort.Int (value.Reference r) literal = absurd literal
literal_in_range sort.Bool (value.Int n) literal = absurd literal
literal_in_range sort.Bool (value.Bool b) literal = tt
literal_in_range sort.Bool (value.Text t) literal = absurd literal
literal_in_range sort.Bool (value.Reference r) literal = absurd literal
literal_in_range sort.Text (value.Int n) literal = absurd literal
literal_in_range sort.Text (value.Bool b) literal = absurd literal
literal_in_range sort.Text (value.Text t) literal = literal
literal_in_range sort.Text (value.Reference r) literal = absurd literal
literal_in_range (sort.Reference name) (value.Int n) literal = absurd literal
literal_in_range (sort.Reference name) (value.Bool b) literal = absurd literal
literal_in_range (sort.Reference name) (value.Text t) literal = absurd literal
literal_in_range (sort.Reference name) (value.Reference r) literal = subst InRange (sym literal) (omega arith, tt)
literal_in_range sort.Void (value.Int n) literal = absurd literal
literal_in_range sort.Void (value.Bool b) literal = absurd literal
literal_in_range sort.Void (value.Text t) literal = absurd literal
literal_in_range sort.Void (value.Reference r) literal = absurd literal

few_sorts : (s : Sort) → sort_number s < 2 ^ 8
few_sorts sort.Int = omega arith
few_sorts sort.Bool = omega arith
few_sorts sort.Text = omega arith
few_sorts (sort.Reference name) = omega arith
few_sorts sort.Void = omega arith

and_second : (a b : Bool) → (a && b) ≡ true → b ≡ true
and_second true b is = is
and_second false b is = absurd (cc (is))

-- ---- one field

abbrev pub record_of : List Declared → Added → Record
record_of classes a = of.Added a.class a.birth a.name (sort_number a.sort) (referred classes a.sort) a.value

abbrev pub field_found : List Declared → Added → Key × Record
field_found classes a = (added_key a.class a.birth, record_of classes a)

field_keyed : (classes : List Declared) (a : Added) → added_key a.class a.birth ≡ key_of (record_of classes a)
unfolding key_of
field_keyed classes a = refl

field_spelled : (classes : List Declared) (a : Added) → (added_row classes a).1 ≡ value_of (record_of classes a)
unfolding value_of
field_spelled classes a = simp append_assoc

module _ (heads : Found) (classes : List Declared) (few : class_count heads < 2 ^ 32) (are : Heads heads classes) where
  -- its sort as a record has it
  pub record IsStoredSort (s : Sort) (v : Value) : Type 0 where
    pub kept : is_sort (sort_number s) (referred classes s) ≡ true
    pub known : (not (sort_number s == REFERENCE_SORT) || is_class heads (referred classes s)) ≡ true
    pub read : sort_in heads (sort_number s) (referred classes s) ≡ Some s
    pub fits : fits_literal (sort_number s) v ≡ true
    pub low : referred classes s < 2 ^ 32

  stored_sort : (s : Sort) (v : Value) → IsKnownSort classes s → IsLiteralOf s v → IsStoredSort s v
  stored_sort sort.Int (value.Int n) known literal = record { kept = refl; known = refl; read = refl; fits = refl; low = omega arith }
  stored_sort sort.Int (value.Bool b) known literal = absurd literal
  stored_sort sort.Int (value.Text t) known literal = absurd literal
  stored_sort sort.Int (value.Reference r) known literal = absurd literal
  stored_sort sort.Bool (value.Int n) known literal = absurd literal
  stored_sort sort.Bool (value.Bool b) known literal = record { kept = refl; known = refl; read = refl; fits = refl; low = omega arith }
  stored_sort sort.Bool (value.Text t) known literal = absurd literal
  stored_sort sort.Bool (value.Reference r) known literal = absurd literal
  stored_sort sort.Text (value.Int n) known literal = absurd literal
  stored_sort sort.Text (value.Bool b) known literal = absurd literal
  stored_sort sort.Text (value.Text t) known literal = record { kept = refl; known = refl; read = refl; fits = refl; low = omega arith }
  stored_sort sort.Text (value.Reference r) known literal = absurd literal
  stored_sort (sort.Reference name) (value.Int n) known literal = absurd literal
  stored_sort (sort.Reference name) (value.Bool b) known literal = absurd literal
  stored_sort (sort.Reference name) (value.Text t) known literal = absurd literal
  stored_sort (sort.Reference name) (value.Reference r) known literal =
      let its = named_head heads name classes are known in
      let low = its.low in
      record {
        kept = refl;
        known = its.is;
        read = ap (option_map sort.Reference) its.named;
        fits = ap (fits_literal REFERENCE_SORT) literal;
        low = omega (arith, low, few);
      }
  stored_sort sort.Void (value.Int n) known literal = absurd literal
  stored_sort sort.Void (value.Bool b) known literal = absurd literal
  stored_sort sort.Void (value.Text t) known literal = absurd literal
  stored_sort sort.Void (value.Reference r) known literal = absurd literal

  -- what its record keeps
  pub record IsStoredField (a : Added) : Type 0 where
    pub spelled : IsRecord (record_of classes a)
    pub sort : IsStoredSort a.sort a.value
    pub class : is_class heads a.class ≡ true

  class_low : (n : ℕ) → is_class heads n ≡ true → n < 2 ^ 32
  class_low n is = let upto : nat_le n (class_count heads) ≡ true = and_second (nat_le 1 n) (nat_le n (class_count heads)) is in grind (arith, nat_tests, upto, few)

  pub stored_field : (a : Added) → IsAdded classes a → a.birth < 2 ^ 32 → IsStoredField a
  unfolding IsKept HasRanges
  stored_field a is low =
      let stored = stored_sort a.sort a.value is.sort is.literal in
      let class = numbered_head heads a.class classes are is.class in
      record {
        spelled = record {
          kept = (stored.kept, literal_kept a.sort a.value is.literal);
          ranges = (class_low a.class class, low, is.name, few_sorts a.sort, stored.low, literal_in_range a.sort a.value is.literal);
        };
        sort = stored;
        class = class;
      }

  -- ---- fields are decoded

  pub fields_decode : Again → (xs : List Added) → AllByRecursion IsStoredField xs → Decode (map (added_row classes) xs) (map (field_found classes) xs)
  fields_decode again [] all = tt
  fields_decode again (a ∷ xs) all = (
    refl,
    decodes_one again (record_of classes a) (added_key a.class a.birth) (added_row classes a).1 all.0.spelled (field_keyed classes a) (field_spelled classes a),
    fields_decode again xs all.1,
  )

  -- ---- and listed

  same_any : (a : Added) (before : List Added) → list_any (is_born a.birth) (map (field_found classes) before) ≡ list_any (has_same a) before
  same_any a [] = refl
  same_any a (x ∷ before) = ap (λ (b : Bool). (x.birth == a.birth) || b) (same_any a before)

  module _ (added : List Added) where
    -- what is to be there of each
    abbrev pub IsSound : Added → Type 0
    IsSound a = IsStoredField a × IsPlaced added a

    module _ (before : List Added) (a : Added) (sound : IsSound a) (fresh : list_any (has_same a) before ≡ false) where
      abbrev records : Found
      records = map (field_found classes) before

      from_one : nat_le 1 a.birth ≡ true
      from_one = let least = sound.1.0 in grind (arith, nat_tests, least)

      upto : nat_le a.birth (length added) ≡ true
      upto = let most = sound.1.1 in grind (arith, nat_tests, most)

      -- rule by rule
      abbrev rules : Bool → Bool → Bool → Bool → Bool → Bool → Bool
      rules same low high class refers fits = not same && ((low && high) && (class && (refers && fits)))

      kept : is_kept heads records (length added) (record_of classes a) ≡ true
      kept =
          let s = sort_number a.sort in
          let refers = not (s == REFERENCE_SORT) || is_class heads (referred classes a.sort) in
          let fits = fits_literal s a.value in
          ap (λ (b : Bool). rules b (nat_le 1 a.birth) (nat_le a.birth (length added)) (is_class heads a.class) refers fits) (same_any a before ∙ fresh)
          ∙ ap (λ (b : Bool). rules false b (nat_le a.birth (length added)) (is_class heads a.class) refers fits) from_one
          ∙ ap (λ (b : Bool). rules false true b (is_class heads a.class) refers fits) upto
          ∙ ap (λ (b : Bool). rules false true true b refers fits) sound.0.class
          ∙ ap (λ (b : Bool). rules false true true true b fits) sound.0.sort.known
          ∙ sound.0.sort.fits

      again_added : added_of heads (record_of classes a) ≡ Some a
      again_added = ap (option_map (λ (s : Sort). record { class = a.class; birth = a.birth; name = a.name; sort = s; value = a.value })) sound.0.sort.read

      one_listed : list_one heads (length added) records (field_found classes a) ≡ Ok a
      one_listed =
          let why = cause.Record (added_key a.class a.birth) in
          ap (λ (b : Bool). needs why b >>= λ _. found why (added_of heads (record_of classes a))) kept ∙ ap (found why) again_added

    pub all_listed : (before more : List Added) → AreFresh before more → AllByRecursion IsSound more
        → listed heads (length added) (map (field_found classes) before) (map (field_found classes) more) ≡ Ok more
    all_listed before [] fresh all = refl
    all_listed before (a ∷ more) fresh all =
        let records = map (field_found classes) before in
        let rest = λ (fs : Found). listed heads (length added) fs (map (field_found classes) more) in
        ap (λ (m : Ruled Added). m >>= λ x. rest (records ++ field_found classes a ∷ []) >>= λ xs. Ok (x ∷ xs)) (one_listed before a all.0 fresh.0)
        ∙ ap (λ (fs : Found). rest fs >>= λ xs. Ok (a ∷ xs)) (sym (map-append (field_found classes) before (a ∷ [])))
        ∙ ap (λ (m : Ruled (List Added)). m >>= λ xs. Ok (a ∷ xs)) (all_listed (before ++ a ∷ []) more fresh.1 all.1)

-- ---- no birth is missing

or_right : (a b : Bool) → b ≡ true → (a || b) ≡ true
or_right true b is = refl
or_right false b is = is

itself : (n : ℕ) → (n == n) ≡ true
itself n = grind (arith, nat_tests)

module _ (classes : List Declared) (added : List Added) where
  abbrev born : ℕ → List Added → Bool
  born birth xs = list_any (is_born birth) (map (field_found classes) xs)

  among : (front : List Added) (a : Added) (more : List Added) → born a.birth (filter (λ (x : Added). x.class == a.class) (front ++ a ∷ more)) ≡ true
  among [] a more =
      ap (λ (b : Bool). born a.birth (cond b (a ∷ filter (λ (x : Added). x.class == a.class) more) (filter (λ (x : Added). x.class == a.class) more))) (itself a.class)
      ∙ ap (λ (b : Bool). b || born a.birth (filter (λ (x : Added). x.class == a.class) more)) (itself a.birth)
  among (x ∷ front) a more = by (x.class == a.class) (among front a more)
    where
      by : (b : Bool) → born a.birth (filter (λ (y : Added). y.class == a.class) (front ++ a ∷ more)) ≡ true
          → born a.birth (cond b (x ∷ filter (λ (y : Added). y.class == a.class) (front ++ a ∷ more)) (filter (λ (y : Added). y.class == a.class) (front ++ a ∷ more))) ≡ true
      by true rest = or_right (x.birth == a.birth) (born a.birth (filter (λ (y : Added). y.class == a.class) (front ++ a ∷ more))) rest
      by false rest = rest

  born_append : (birth : ℕ) (xs ys : List Added) → born birth (xs ++ ys) ≡ (born birth xs || born birth ys)
  born_append birth xs ys =
      ap (list_any (is_born birth)) (map-append (field_found classes) xs ys) ∙ list_any-append (is_born birth) (map (field_found classes) xs) (map (field_found classes) ys)

  in_blocks : (front : List Added) (a : Added) (more : List Added) → front ++ a ∷ more ≡ added → (ds : List Declared) → IsSome (class_numbered a.class ds) → born a.birth (blocks added ds) ≡ true
  in_blocks front a more is [] some = absurd (cc)
  in_blocks front a more is (d ∷ ds) some = born_append a.birth (added_to d.class.number added) (blocks added ds) ∙ by (d.class.number == a.class) refl some (in_blocks front a more is ds)
    where
      by : (b : Bool) → (d.class.number == a.class) ≡ b → IsSome (cond b (Some d.class) (class_numbered a.class ds))
          → (IsSome (class_numbered a.class ds) → born a.birth (blocks added ds) ≡ true) → (born a.birth (added_to d.class.number added) || born a.birth (blocks added ds)) ≡ true
      by true same some rest =
          ap (λ (n : ℕ). born a.birth (added_to n added) || born a.birth (blocks added ds)) (eqb-true d.class.number a.class same)
          ∙ ap (λ (all : List Added). born a.birth (added_to a.class all) || born a.birth (blocks added ds)) (sym is)
          ∙ ap (λ (b : Bool). b || born a.birth (blocks added ds)) (among front a more)
      by false same some rest = or_right (born a.birth (added_to d.class.number added)) (born a.birth (blocks added ds)) (rest some)

  -- from a birth on
  none_from : (front more : List Added) (birth : ℕ) → front ++ more ≡ added → AreAdded classes birth more
      → find (λ n. not (born n (blocks added classes))) (range_with_len birth (length more)) ≡ None
  none_from front [] birth is are = refl
  none_from front (a ∷ more) birth is are =
      let there : born birth (blocks added classes) ≡ true =
      ap (λ (n : ℕ). born n (blocks added classes)) (sym are.0) ∙ in_blocks front a more is classes are.1.class in
      let behind : front ++ a ∷ [] ++ more ≡ added = (let same : front ++ a ∷ [] ++ more ≡ front ++ a ∷ more = simp append_assoc in same) ∙ is in
      ap (λ (b : Bool). cond (not b) (Some birth) (find (λ n. not (born n (blocks added classes))) (range_with_len (birth + 1) (length more)))) there
      ∙ none_from (front ++ a ∷ []) more (birth + 1) behind are.2

  pub none_is_missing : AreAdded classes 1 added → first_missing (map (field_found classes) (blocks added classes)) (length added) ≡ None
  none_is_missing are = none_from [] added 1 refl are

  -- the rows of all, class by class
  pub rows_are : (ds : List Declared) → flat_map (own_rows classes added) ds ≡ map (added_row classes) (blocks added ds)
  rows_are [] = refl
  rows_are (d ∷ ds) =
      ap (λ (rows : Entries). own_rows classes added d ++ rows) (rows_are ds) ∙ sym (map-append (added_row classes) (added_to d.class.number added) (blocks added ds))

-- ---- all of them

all_kept : {X : Type 0} (P : X → Type 0) (t : X → Bool) (xs : List X) → AllByRecursion P xs → AllByRecursion P (filter t xs)
all_kept P t [] all = tt
all_kept P t (x ∷ xs) all = by (t x) (all_kept P t xs all.1)
  where
    by : (b : Bool) → AllByRecursion P (filter t xs) → AllByRecursion P (cond b (x ∷ filter t xs) (filter t xs))
    by true rest = (all.0, rest)
    by false rest = rest

module _ (again : Again) (heads : Found) (classes : List Declared) (added : List Added) (few : class_count heads < 2 ^ 32) (few_added : length added < 2 ^ 32)
    (are : AllByRecursion (λ (d : Declared). IsHead heads d.class) classes) (fields : AreAdded classes 1 added) (rising : RiseFrom 0 (map (λ (d : Declared). d.class.number) classes)) where
  abbrev Is : Added → Type 0
  Is = IsSound heads classes few are added

  each_stored : (birth : ℕ) (more : List Added) → AreAdded classes birth more → AllByRecursion (IsPlaced added) more → AllByRecursion Is more
  each_stored birth [] given placed = tt
  each_stored birth (a ∷ more) given placed = (
    (stored_field heads classes few are a given.1 (omega (arith, placed.0.1, few_added)), placed.0),
    each_stored (birth + 1) more given.2 placed.1,
  )

  all_stored : AllByRecursion Is added
  all_stored = each_stored 1 added fields (are_placed added classes fields)

  of_blocks : (ds : List Declared) → AllByRecursion Is (blocks added ds)
  of_blocks [] = tt
  of_blocks (d ∷ ds) = all_append Is (added_to d.class.number added) (blocks added ds) (all_kept Is (λ (a : Added). a.class == d.class.number) added all_stored) (of_blocks ds)

  pub blocks_decode : Decode (map (added_row classes) (blocks added classes)) (map (field_found classes) (blocks added classes))
  blocks_decode =
      fields_decode heads classes few are again (blocks added classes)
      (all_then Is (IsStoredField heads classes few are) (λ a is. is.0) (blocks added classes) (of_blocks classes))

  pub fields_are_read : (entries : Entries) → within added_kind added_kind entries ≡ flat_map (own_rows classes added) classes → added_in heads (length added) entries ≡ Ok (blocks added classes)
  unfolding added_in
  fields_are_read entries stand =
      let all = blocks added classes in
      let found_all = map (field_found classes) all in
      let behind : Ruled Found → Ruled (List Added) = λ m. m >>= λ rs. none_missing (first_missing rs (length added)) >>= λ _. listed heads (length added) [] rs in
      ap (λ (es : Entries). behind (decoded es)) (stand ∙ rows_are classes added classes)
      ∙ ap behind (decodes_all (map (added_row classes) all) found_all [] blocks_decode)
      ∙ ap (λ (o : Option ℕ). none_missing o >>= λ _. listed heads (length added) [] found_all) (none_is_missing classes added fields)
      ∙ all_listed heads classes few are added [] all (all_fresh added classes fields classes rising) (of_blocks classes)

-- ---- the heads of classes

module _ (tables : ℕ → ℕ → Table) (added : List Added) (all : List Declared) where
  abbrev all_records : Found
  all_records = found_of tables all

  abbrev behind_heads : Found
  behind_heads = pieces_found all ++ table_heads_found tables all ++ tables_found tables all

  in_parts : all_records ≡ heads_found all ++ behind_heads
  in_parts = simp append_assoc

  get_behind : (front : List Declared) (d : Declared) (more : List Declared) (rest : Found) (i : ℕ) → i ≡ length front → slice_get (heads_found (front ++ d ∷ more) ++ rest) i ≡ Some (head_found d)
  get_behind [] d more rest zero is = refl
  get_behind [] d more rest (suc i) is = absurd (omega (arith, is))
  get_behind (x ∷ front) d more rest zero is = absurd (omega (arith, is))
  get_behind (x ∷ front) d more rest (suc i) is = get_behind front d more rest i (omega (arith, is))

  head_there : (front : List Declared) (d : Declared) (more : List Declared) → front ++ d ∷ more ≡ all → IsClass ode added front d → IsHead all_records d.class
  head_there front d more is class =
      let number : d.class.number ≡ length front + 1 = class.number in
      let long : length front + suc (length more) ≡ length all = sym (length-append front (d ∷ more)) ∙ ap length is in
      let count : class_count all_records ≡ length all = count_is tables all in
      let zero_not : (d.class.number == 0) ≡ false = grind (arith, nat_tests, number) in
      let there : slice_get all_records (d.class.number - 1) ≡ Some (head_found d) =
      ap (λ (fs : Found). slice_get fs (d.class.number - 1)) in_parts
      ∙ ap (λ (ds : List Declared). slice_get (heads_found ds ++ behind_heads) (d.class.number - 1)) (sym is)
      ∙ get_behind front d more behind_heads (d.class.number - 1) (omega (arith, number)) in
      record {
        low = omega (arith, number);
        high = omega (arith, number, long, count);
        named =
            ap (λ (b : Bool). cond b None (option_and_then (λ (f : Key × Record). name_in f.1) (slice_get all_records (d.class.number - 1)))) zero_not
            ∙ ap (option_and_then (λ (f : Key × Record). name_in f.1)) there;
      }

  heads_there : (front more : List Declared) → front ++ more ≡ all → AreClasses ode added front more → AllByRecursion (λ (d : Declared). IsHead all_records d.class) more
  heads_there front [] is classes = tt
  heads_there front (d ∷ more) is classes =
      let behind : front ++ d ∷ [] ++ more ≡ all = (let same : front ++ d ∷ [] ++ more ≡ front ++ d ∷ more = simp append_assoc in same) ∙ is in
      (head_there front d more is classes.0, heads_there (front ++ d ∷ []) more behind classes.1)

  pub all_heads : AreClasses ode added [] all → AllByRecursion (λ (d : Declared). IsHead all_records d.class) all
  all_heads classes = heads_there [] all refl classes

-- classes are numbered one behind the other, and few

pub numbers_rise : (added : List Added) (earlier ds : List Declared) (low : ℕ) → low ≤ length earlier + 1 → AreClasses ode added earlier ds → RiseFrom low (map (λ (d : Declared). d.class.number) ds)
numbers_rise added earlier [] low less classes = tt
numbers_rise added earlier (d ∷ ds) low less classes =
    let number : d.class.number ≡ length earlier + 1 = classes.0.number in
    (omega arith, numbers_rise added (earlier ++ d ∷ []) ds (d.class.number + 1) (omega (arith, length-append earlier (d ∷ []))) classes.1)

pub few_classes : (added : List Added) (earlier ds : List Declared) → length earlier < 2 ^ 32 → AreClasses ode added earlier ds → length earlier + length ds < 2 ^ 32
few_classes added earlier [] few classes = omega arith
few_classes added earlier (d ∷ ds) few classes =
    let low : d.class.number < 2 ^ 32 = classes.0.low in
    let number : d.class.number ≡ length earlier + 1 = classes.0.number in
    let long = length-append earlier (d ∷ []) in
    let more = few_classes added (earlier ++ d ∷ []) ds (omega (arith, low, number, long)) classes.1 in
    omega (arith, more, long)
