-- The records of a world, kind by kind.
use Rattle.std.proofs.Common.{◌≡◌, ℕ, ◌<◌, ◌≤◌, ◌^◌, List, [], ◌∷◌, ◌++◌, map, length, Bool, true, false, Option, Some, None, refl, ap, append_assoc, arith}
use Rattle.std.specs.List.{AllByRecursion, flat_map}
use Rattle.std.specs.Prelude.{◌==◌, pos}
use Rattle.std.specs.Int.{cast_unsigned, w64}
use Rattle.std.specs.Option.{is_some, option_map_or}
use Rattle.std.proofs.lemmas.Bool.Decides.{nat_tests}
use Rattle.ode_codec.specs.FirstFormat.{is_of_first}
use Rattle.ode_codec.specs.Reading.{record_under}
use Rattle.ode_codec.specs.Rules.{HasRanges, IsKept, IsRecord}
use Rattle.ode_codec.specs.Spelling.{key_of, truth, u32, u64, value_of}
use Rattle.ode_codec.specs.StoredRows.{activation_row, added_row, activation_rows, counters_row, entry_row, object_row, places_of, state_of, version_rows}
use Rattle.ode_codec.specs.declared.record.Counters.{Counters}
use Rattle.ode_codec.specs.declared.record.Record.{Record}
use Rattle.ode_codec.specs.declared.record.Record.TheVariants as of
use Rattle.ode_heap.specs.Answering.{IsReadableActivation, IsReadableEntry, IsReadableObject, IsReadableVersion, counters_of}
use Rattle.ode_keep.specs.Entries.{Entries}
use Rattle.ode_opening_laws.specs.Holding.{class_rows}
use Rattle.ode_opening_laws.proofs.Decoding.{Again, Decode, decodes_one}
use Rattle.ode_opening_laws.proofs.Each.{Any, all_any, all_append, all_flat, all_map, all_then}
use Rattle.ode_opening_laws.proofs.Fields.{field_found}
use Rattle.ode_opening_laws.proofs.Founds.{found_of, head_at, head_found, heads_found, pieces_at, pieces_found, pieces_of_class, rows_decode, table_heads_found, table_heads_of, tables_found, tables_of}
use Rattle.ode_opening_laws.proofs.Sections.{Passes, rows_pass}
use Rattle.ode_opening_laws.proofs.Storable.{IsStorable}
use Rattle.ode_passes.specs.Records.{Found}
use Rattle.ode_passes.specs.Tally.{counters_or}
use Rattle.ode_passes.specs.Walking.{is_from}
use Rattle.ode_value.specs.Fields.{born_values, fields_of}
use Rattle.ode_value.specs.Keys.{class_head_kind, counters_key, entry_kind, key, table_piece_kind}
use Rattle.ode_value.specs.Objects.{Activation}
use Rattle.ode_value.specs.Records.{Row, clock_bytes, stamp_bytes, version_row}
use Rattle.ode_value.specs.Tables.{Table}
use Rattle.ode_value.specs.Versions.{Version}
use Rattle.ode_value.specs.Worlds.{Bones, Declared, Entry, Object, Position, World}
use Rattle.ode_value.specs.declared.change.Added.{Added}
use Rattle.ode_value.specs.declared.class.Field.{Field}
use Rattle.ode_value.specs.declared.key.Key.{Key}
use Rattle.ode_opened_laws.proofs.ByKinds.{AreOf, IsOf}
use Rattle.ode_opened_laws.proofs.Plain.{IsUnstamped, plain_between, plain_where, version_plain}
use Rattle.ode_opened_laws.proofs.Tallying.{IsPart, IsTallied, IsUncounted}
use Rattle.ode_opened_laws.proofs.Telling.{activation_reads, activation_record, entry_reads, entry_record, object_reads, object_record, version_reads, version_record}

-- ---- their kinds

pub counters_of_kind : (b : Bones) → IsOf 1 1 (counters_row b)
counters_of_kind b = record { least = omega arith; most = omega arith; a = omega arith; b = omega arith }

of_passing : (e : Row) → Passes e → IsOf 2 5 e
of_passing e is = by e.0 is
  where
    by : (k : Key) → is_from (key class_head_kind 0 0) table_piece_kind k ≡ true → IsOf 2 5 (k, e.1)
    by k test = record { least = grind (arith, nat_tests); most = grind (arith, nat_tests); a = grind (arith, nat_tests); b = grind (arith, nat_tests) }

pub classes_of_kind : (tables : ℕ → ℕ → Table) (ds : List Declared) → AllByRecursion (IsStorable tables) ds → AreOf 2 5 (class_rows tables ds)
classes_of_kind tables ds all = all_then Passes (IsOf 2 5) of_passing (class_rows tables ds) (rows_pass tables ds all)

module _ (w : World (Unit {0}) ℕ) where
  object_of_kind : (o : Object) → IsReadableObject w o → IsOf 6 6 (object_row o)
  unfolding HasRanges
  object_of_kind o is = let low : o.id < 2 ^ 64 = is.spells.ranges.0 in record { least = omega arith; most = omega arith; a = omega arith; b = omega arith }

  pub objects_of_kind : (os : List Object) → AllByRecursion (IsReadableObject w) os → AreOf 6 6 (map object_row os)
  objects_of_kind os reads = all_map (IsOf 6 6) (IsReadableObject w) object_row object_of_kind os reads

  version_of_kind : (id : ℕ) (fields : List Field) (v : Version) → IsReadableVersion id fields v → IsOf 7 7 (version_row id fields v)
  unfolding HasRanges
  version_of_kind id fields v is =
      let low : id < 2 ^ 64 = is.spells.ranges.0 in
      let number : v.number < 2 ^ 32 = is.spells.ranges.1 in
      record { least = omega arith; most = omega arith; a = omega arith; b = omega arith }

  pub versions_of_kind : (os : List Object) → AllByRecursion (IsReadableObject w) os → AreOf 7 7 (flat_map (version_rows w.bones.classes) os)
  versions_of_kind os reads =
      let of_class : ℕ → List Field = fields_of w.bones.classes in
      all_flat (IsOf 7 7) (IsReadableObject w) (version_rows w.bones.classes)
      (λ (o : Object) is. all_map (IsOf 7 7) (IsReadableVersion o.id (of_class o.class)) (version_row o.id (of_class o.class)) (version_of_kind o.id (of_class o.class)) o.versions is.versions) os reads

  activation_of_kind : (id : ℕ) (a : Activation) → IsReadableActivation w id a → IsOf 8 8 (activation_row id (state_of w id a.number) a)
  unfolding HasRanges
  activation_of_kind id a is =
      let low : id < 2 ^ 64 = is.spells.ranges.key.0 in
      let number : a.number < 2 ^ 64 = is.spells.ranges.key.1 in
      record { least = omega arith; most = omega arith; a = omega arith; b = omega arith }

  pub activations_of_kind : (os : List Object) → AllByRecursion (IsReadableObject w) os → AreOf 8 8 (flat_map (activation_rows w) os)
  activations_of_kind os reads =
      all_flat (IsOf 8 8) (IsReadableObject w) (activation_rows w)
      (λ (o : Object) is. all_map (IsOf 8 8) (IsReadableActivation w o.id) (λ (a : Activation). activation_row o.id (state_of w o.id a.number) a) (activation_of_kind o.id) o.activations is.activations) os reads

entry_of_kind : (q : ℕ × Entry) → IsReadableEntry q → IsOf 9 9 (entry_row q)
unfolding HasRanges
entry_of_kind q is = let low : q.0 < 2 ^ 64 = is.ranges.0 in record { least = omega arith; most = omega arith; a = omega arith; b = omega arith }

pub entries_of_kind : (qs : List (ℕ × Entry)) → AllByRecursion IsReadableEntry qs → AreOf 9 9 (map entry_row qs)
entries_of_kind qs reads = all_map (IsOf 9 9) IsReadableEntry entry_row entry_of_kind qs reads

-- the limit on all records counts those of all kinds but the last
is_no_entry : (n : ℕ) → n ≤ 8 → (n == entry_kind) ≡ false
is_no_entry n low = grind (arith, nat_tests)

is_entry : (n : ℕ) → 9 ≤ n → n ≤ 9 → (n == entry_kind) ≡ true
is_entry n low high = grind (arith, nat_tests)

pub all_counted : (low high : ℕ) (es : Entries) → high ≤ 8 → AreOf low high es → AllByRecursion IsTallied es
all_counted low high es most all = all_then (IsOf low high) IsTallied (λ (e : Row) is. let upto = is.most in is_no_entry e.0.kind (omega (arith, most, upto))) es all

pub none_counted : (es : Entries) → AreOf 9 9 es → AllByRecursion IsUncounted es
none_counted es all = all_then (IsOf 9 9) IsUncounted (λ (e : Row) is. is_entry e.0.kind is.least is.most) es all

-- ---- they decode, and aren't the counters

-- a record that isn't the counters
abbrev IsOther : Record → Type 0
IsOther (of.Counters c) = ⊥
IsOther _ = Unit {0}

part_of : (first : Bool) (e : Row) (r : Record) → record_under e.0 e.1 ≡ Some r → (first ≡ true → is_of_first e.0 e.1 ≡ true) → IsOther r → IsPart first e
part_of first e r reads plain other = record { r = r; reads = reads; plain = plain_where first e.0 e.1 plain; other = left r other }
  where
    left : (r : Record) → IsOther r → (before : Option Counters) → counters_or before r ≡ before
    left (of.Counters c) other before = absurd other
    left (of.ClassHead class name parent text_length triggers) other before = refl
    left (of.ClassPiece class piece bytes) other before = refl
    left (of.TableHead class trigger states symbols) other before = refl
    left (of.TablePiece class trigger piece bytes) other before = refl
    left (of.Object object class last) other before = refl
    left (of.Version object number parent stamp fields) other before = refl
    left (of.Activation a) other before = refl
    left (of.Entry number q) other before = refl
    left (of.Added class birth name sort refers literal) other before = refl

abbrev IsOtherFound : Key × Record → Type 0
IsOtherFound f = IsOther f.1

-- those of classes have one form
are_parts : (first : Bool) (es : Entries) (fs : Found) → Decode es fs → AreOf 2 5 es → AllByRecursion IsOtherFound fs → AllByRecursion (IsPart first) es
are_parts first [] fs reads kinds others = tt
are_parts first (e ∷ es) [] reads kinds others = absurd reads
are_parts first (e ∷ es) (f ∷ fs) reads kinds others =
    let high = kinds.0.most in
    (part_of first e f.1 reads.1 (λ is. plain_between e kinds.0.least (omega (arith, high))) others.0, are_parts first es fs reads.2 kinds.1 others.1)

module _ (tables : ℕ → ℕ → Table) where
  found_others : (ds : List Declared) → AllByRecursion IsOtherFound (found_of tables ds)
  found_others ds =
      let O = IsOtherFound in
      let heads = all_map O Any head_found (λ d any. tt) ds (all_any ds) in
      let pieces = all_flat O Any pieces_of_class (λ d any. all_map O Any _ (λ i any. tt) _ (all_any _)) ds (all_any ds) in
      let table_heads = all_flat O Any (table_heads_of tables) (λ (d : Declared) any. all_map O Any (head_at tables d.class.number) (λ place any. tt) (places_of d) (all_any (places_of d))) ds (all_any ds) in
      let table_pieces = all_flat O Any (tables_of tables)
      (λ (d : Declared) any. all_flat O Any (pieces_at tables d.class.number) (λ place any. all_map O Any _ (λ i any. tt) _ (all_any _)) (places_of d) (all_any (places_of d))) ds (all_any ds) in
      all_append O (heads_found ds ++ pieces_found ds ++ table_heads_found tables ds) (tables_found tables ds)
      (all_append O (heads_found ds ++ pieces_found ds) (table_heads_found tables ds) (all_append O (heads_found ds) (pieces_found ds) heads pieces) table_heads) table_pieces

  pub classes_are_parts : (first : Bool) → Again → (ds : List Declared) → AllByRecursion (IsStorable tables) ds → AllByRecursion (IsPart first) (class_rows tables ds)
  classes_are_parts first again ds all = are_parts first (class_rows tables ds) (found_of tables ds) (rows_decode tables again ds all) (classes_of_kind tables ds all) (found_others ds)

module _ (first : Bool) (again : Again) (w : World (Unit {0}) ℕ) where
  object_is_part : (o : Object) → IsReadableObject w o → IsPart first (object_row o)
  object_is_part o is = part_of first (object_row o) (object_record o) (object_reads again o is.spells) (λ is_first. refl) tt

  -- a version without a stamp
  record IsPlain (id : ℕ) (fields : List Field) (v : Version) : Type 0 where
    reads_it : IsReadableVersion id fields v
    unstamped : first ≡ true → IsUnstamped v

  all_plain : (id : ℕ) (fields : List Field) (vs : List Version) → AllByRecursion (IsReadableVersion id fields) vs → (first ≡ true → AllByRecursion IsUnstamped vs) → AllByRecursion (IsPlain id fields) vs
  all_plain id fields [] reads unstamped = tt
  all_plain id fields (v ∷ vs) reads unstamped = (record { reads_it = reads.0; unstamped = λ is_first. (unstamped is_first).0 }, all_plain id fields vs reads.1 (λ is_first. (unstamped is_first).1))

  version_is_part : (id : ℕ) (fields : List Field) (v : Version) → IsPlain id fields v → IsPart first (version_row id fields v)
  unfolding IsKept
  version_is_part id fields v is =
      let few : length (born_values v.stamp fields v.fields) < 2 ^ 15 = is.reads_it.spells.kept.0 in
      part_of first (version_row id fields v) (version_record id fields v) (version_reads again id fields v is.reads_it.spells) (λ is_first. version_plain id fields v (is.unstamped is_first) few) tt

  activation_is_part : (id : ℕ) (a : Activation) → IsReadableActivation w id a → IsPart first (activation_row id (state_of w id a.number) a)
  activation_is_part id a is = part_of first (activation_row id (state_of w id a.number) a) (activation_record w id a) (activation_reads again w id a is.spells) (λ is_first. refl) tt

  record IsPlainObject (o : Object) : Type 0 where
    reads_it : IsReadableObject w o
    unstamped : first ≡ true → AllByRecursion IsUnstamped o.versions

  plain_objects : (os : List Object) → AllByRecursion (IsReadableObject w) os → (first ≡ true → AllByRecursion (λ (o : Object). AllByRecursion IsUnstamped o.versions) os) → AllByRecursion IsPlainObject os
  plain_objects [] reads unstamped = tt
  plain_objects (o ∷ os) reads unstamped = (record { reads_it = reads.0; unstamped = λ is_first. (unstamped is_first).0 }, plain_objects os reads.1 (λ is_first. (unstamped is_first).1))

  versions_are_parts : (o : Object) → IsPlainObject o → AllByRecursion (IsPart first) (version_rows w.bones.classes o)
  versions_are_parts o is =
      let fields : List Field = fields_of w.bones.classes o.class in
      all_map (IsPart first) (IsPlain o.id fields) (version_row o.id fields) (version_is_part o.id fields) o.versions (all_plain o.id fields o.versions is.reads_it.versions is.unstamped)

  pub objects_are_parts : (os : List Object) → AllByRecursion (IsReadableObject w) os → (first ≡ true → AllByRecursion (λ (o : Object). AllByRecursion IsUnstamped o.versions) os)
      → AllByRecursion (IsPart first) (map object_row os ++ flat_map (version_rows w.bones.classes) os ++ flat_map (activation_rows w) os)
  objects_are_parts os reads unstamped =
      let R = IsReadableObject w in
      let of_versions = flat_map (version_rows w.bones.classes) os in
      let versions = all_flat (IsPart first) IsPlainObject (version_rows w.bones.classes) versions_are_parts os (plain_objects os reads unstamped) in
      let activations = all_flat (IsPart first) R (activation_rows w)
      (λ (o : Object) is. all_map (IsPart first) (IsReadableActivation w o.id) (λ (a : Activation). activation_row o.id (state_of w o.id a.number) a) (activation_is_part o.id) o.activations is.activations) os reads in
      all_append (IsPart first) (map object_row os ++ of_versions) (flat_map (activation_rows w) os)
      (all_append (IsPart first) (map object_row os) of_versions (all_map (IsPart first) R object_row object_is_part os reads) versions) activations

pub entries_are_parts : (first : Bool) → Again → (qs : List (ℕ × Entry)) → AllByRecursion IsReadableEntry qs → AllByRecursion (IsPart first) (map entry_row qs)
entries_are_parts first again qs reads = all_map (IsPart first) IsReadableEntry entry_row (λ q is. part_of first (entry_row q) (entry_record q) (entry_reads again q is) (λ is_first. refl) tt) qs reads

-- ---- added fields

-- where there are some, records aren't of the first format
module _ (first : Bool) (later : first ≡ false) where
  fields_decode_as_parts : (es : Entries) (fs : Found) → Decode es fs → AllByRecursion IsOtherFound fs → AllByRecursion (IsPart first) es
  fields_decode_as_parts [] fs reads others = tt
  fields_decode_as_parts (e ∷ es) [] reads others = absurd reads
  fields_decode_as_parts (e ∷ es) (f ∷ fs) reads others =
      (part_of first e f.1 reads.1 (λ is_first. absurd (cc (later, is_first))) others.0, fields_decode_as_parts es fs reads.2 others.1)

  pub fields_are_parts : (classes : List Declared) (xs : List Added) → Decode (map (added_row classes) xs) (map (field_found classes) xs) → AllByRecursion (IsPart first) (map (added_row classes) xs)
  fields_are_parts classes xs reads =
      fields_decode_as_parts (map (added_row classes) xs) (map (field_found classes) xs) reads (all_map IsOtherFound Any (field_found classes) (λ a any. tt) xs (all_any xs))

-- ---- the counters

counters_keyed : (b : Bones) → counters_key ≡ key_of (of.Counters (counters_of b))
unfolding key_of
counters_keyed b = refl

-- their bytes by the clock, as they are stored and as they are spelled
abbrev stored_by : Bones → Option Position → List ℕ
stored_by b clock = u64 b.next ++ u64 b.transaction ++ u64 b.next_entry ++ clock_bytes clock

abbrev spelled_by : Bones → Option Position → List ℕ
spelled_by b clock =
    u64 b.next ++ (u64 b.transaction ++ (u64 b.next_entry
    ++ (truth (is_some clock) ++ (u64 (cast_unsigned w64 (option_map_or (λ (p : Position). p.instant) clock (pos 0)))
    ++ (u64 (option_map_or (λ (p : Position). p.object) clock 0) ++ u32 (option_map_or (λ (p : Position). p.place) clock 0))))))

spelled_as : (b : Bones) (clock : Option Position) → stored_by b clock ≡ spelled_by b clock
spelled_as b None = simp append_assoc
spelled_as b (Some p) = simp append_assoc

counters_spelled : (b : Bones) → (counters_row b).1 ≡ value_of (of.Counters (counters_of b))
unfolding value_of
counters_spelled b = ap (λ (bytes : List ℕ). bytes ++ stamp_bytes (length b.added)) (spelled_as b b.clock)

pub counters_read : Again → (b : Bones) → IsRecord (of.Counters (counters_of b)) → record_under (counters_row b).0 (counters_row b).1 ≡ Some (of.Counters (counters_of b))
counters_read again b is = decodes_one again (of.Counters (counters_of b)) counters_key (counters_row b).1 is (counters_keyed b) (counters_spelled b)
