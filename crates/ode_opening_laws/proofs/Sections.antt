-- The records of classes and tables among those of a world.
use Rattle.std.proofs.Common.{◌≡◌, ℕ, zero, suc, ◌+◌, ◌*◌, ◌<◌, ◌≤◌, ◌^◌, List, [], ◌∷◌, ◌++◌, map, length, true, false, cond, refl, sym, ap, subst, ◌∙◌, arith}
use Rattle.std.specs.List.{AllByRecursion, flat_map}
use Rattle.std.proofs.lemmas.Bool.Decides.{nat_tests}
use Rattle.std.proofs.lemmas.List.{append-nil}
use Rattle.std.proofs.lemmas.List.Elements.{filter-append}
use Rattle.ode_codec.specs.Standing.{HoldsWorld}
use Rattle.ode_codec.specs.StoredRows.{Stored, activation_row, activation_rows, added_row, added_rows, counters_row, entry_row, head_row, object_row, places_of, rows, state_of, table_bytes, table_head, table_heads, table_pieces, table_rows, text_rows, version_rows}
use Rattle.ode_codec.specs.declared.record.TheConstants.{TABLE_PLACES}
use Rattle.ode_keep.specs.Entries.{Entries}
use Rattle.ode_language.specs.Languages.{ode}
use Rattle.ode_passes.specs.Walking.{is_from, within}
use Rattle.ode_value.specs.Changing.{added_to}
use Rattle.ode_value.specs.Fields.{fields_of}
use Rattle.ode_value.specs.GoodWorlds.{AreAdded}
use Rattle.ode_value.specs.Keys.{added_kind, class_head_kind, class_piece_key, key, table_piece_kind}
use Rattle.ode_value.specs.Language.{ListWorld}
use Rattle.ode_value.specs.Lengths.{piece_count}
use Rattle.ode_value.specs.Objects.{Activation}
use Rattle.ode_value.specs.PrintedClasses.{decl_text}
use Rattle.ode_value.specs.Records.{Row, version_row}
use Rattle.ode_value.specs.Tables.{Table}
use Rattle.ode_value.specs.Worlds.{Bones, Declared, Entry, Object, World}
use Rattle.ode_value.specs.declared.key.Key.{Key}
use Rattle.ode_opening_laws.specs.Holding.{HoldClasses, class_rows, own_rows}
use Rattle.ode_opening_laws.proofs.Accepting.{are_storable}
use Rattle.ode_opening_laws.proofs.BornOnce.{blocks}
use Rattle.ode_opening_laws.proofs.Each.{Any, all_any, all_append, all_flat, all_map, all_then}
use Rattle.ode_opening_laws.proofs.FieldSections.{blocks_in_range, rows_of_fields}
use Rattle.ode_opening_laws.proofs.Fields.{rows_are}
use Rattle.ode_opening_laws.proofs.Pieces.{stored_pieces}
use Rattle.ode_opening_laws.proofs.Sized.{IsSizedAt}
use Rattle.ode_opening_laws.proofs.Storable.{IsSmall, IsStorable}
use Rattle.ode_opening_laws.proofs.TablePieces as table

-- the records of classes and tables
abbrev of_classes : Entries → Entries
of_classes es = within class_head_kind table_piece_kind es

abbrev pub Passes : Row → Type 0
Passes e = is_from (key class_head_kind 0 0) table_piece_kind e.0 ≡ true

abbrev IsLater : Row → Type 0
IsLater e = table_piece_kind < e.0.kind

later : (k : Key) → table_piece_kind < k.kind → is_from (key class_head_kind 0 0) table_piece_kind k ≡ false
later k kind = grind (arith, nat_tests)

passes : (k : Key) → class_head_kind ≤ k.kind → k.kind ≤ table_piece_kind → k.a < 2 ^ 64 → k.b < 2 ^ 64 → is_from (key class_head_kind 0 0) table_piece_kind k ≡ true
passes k low high a b = grind (arith, nat_tests)

none_of : (es : Entries) → AllByRecursion IsLater es → of_classes es ≡ []
none_of [] all = refl
none_of (e ∷ es) all = ap (λ b. cond b (e ∷ of_classes es) (of_classes es)) (later e.0 all.0) ∙ none_of es all.1

all_of : (es : Entries) → AllByRecursion Passes es → of_classes es ≡ es
all_of [] all = refl
all_of (e ∷ es) all = ap (λ b. cond b (e ∷ of_classes es) (of_classes es)) all.0 ∙ ap (λ (more : Entries). e ∷ more) (all_of es all.1)

both_of : (es ds fs gs : Entries) → of_classes es ≡ fs → of_classes ds ≡ gs → of_classes (es ++ ds) ≡ fs ++ gs
both_of es ds fs gs first second =
    filter-append (λ (e : Row). is_from (key class_head_kind 0 0) table_piece_kind e.0) es ds ∙ ap (λ (xs : Entries). xs ++ of_classes ds) first ∙ ap (λ (xs : Entries). fs ++ xs) second

-- what is no class's
without : (es ds fs : Entries) → of_classes es ≡ fs → of_classes ds ≡ [] → of_classes (es ++ ds) ≡ fs
without es ds fs first none = both_of es ds fs [] first none ∙ append-nil fs

-- ---- classes

head_passes : (d : Declared) → IsSmall d → Passes (head_row d)
head_passes d small = let number = small.number in passes (head_row d).0 (omega arith) (omega arith) (omega (arith, number)) (omega arith)

text_passes : (class : ℕ) (text : List ℕ) (i count : ℕ) → class < 2 ^ 32 → i + count ≤ 2 ^ 32 → AllByRecursion Passes (stored_pieces class text i count)
text_passes class text i zero low within_ = tt
text_passes class text i (suc n) low within_ =
    (passes (class_piece_key class i) (omega arith) (omega arith) (omega arith) (omega arith), text_passes class text (i + 1) n low (omega arith))

texts_pass : (d : Declared) → IsSmall d → AllByRecursion Passes (text_rows d)
texts_pass d small =
    let few : 0 + piece_count (length (decl_text d.tree)) ≤ 2 ^ 32 = let pieces = small.pieces in omega arith in
    text_passes d.class.number (decl_text d.tree) 0 (piece_count (length (decl_text d.tree))) small.number few

-- ---- tables

module _ (tables : ℕ → ℕ → Table) where
  table_head_passes : (class : ℕ) → class < 2 ^ 32 → (place : ℕ) → IsSizedAt tables class place → Passes (table_head class place (tables class place))
  table_head_passes class low place is =
      let small = is.place_is in passes (table_head class place (tables class place)).0 (omega arith) (omega arith) (omega (arith, low)) (omega (arith, small))

  table_passes : (class place i count : ℕ) → class < 2 ^ 32 → place < 2 ^ 16 → i + count ≤ 2 ^ 16 → AllByRecursion Passes (table.stored_pieces class place (tables class place) i count)
  table_passes class place i zero low small few = tt
  table_passes class place i (suc n) low small few = (
    passes (key table_piece_kind class (place * TABLE_PLACES + i)) (omega arith) (omega arith) (omega (arith, low)) (omega (arith, small, few)),
    table_passes class place (i + 1) n low small (omega (arith, few)),
  )

  tables_pass : (class : ℕ) → class < 2 ^ 32 → (place : ℕ) → IsSizedAt tables class place → AllByRecursion Passes (table_pieces class place (tables class place))
  tables_pass class low place is =
      let few = is.sized.few in table_passes class place 0 (piece_count (length (table_bytes (tables class place)))) low is.place_is (omega (arith, few))

  -- ---- all of them

  pub rows_pass : (ds : List Declared) → AllByRecursion (IsStorable tables) ds → AllByRecursion Passes (class_rows tables ds)
  rows_pass ds all =
      let S = IsStorable tables in
      let heads = all_map Passes S head_row (λ d is. head_passes d is.small) ds all in
      let texts = all_flat Passes S text_rows (λ d is. texts_pass d is.small) ds all in
      let table_heads_ = all_flat Passes S (table_heads tables) (λ (d : Declared) is.
      all_map Passes (IsSizedAt tables d.class.number) (λ place. table_head d.class.number place (tables d.class.number place)) (table_head_passes d.class.number is.small.number) (places_of d) is.sized) ds all in
      let tables_ = all_flat Passes S (table_rows tables) (λ (d : Declared) is.
      all_flat Passes (IsSizedAt tables d.class.number) (λ place. table_pieces d.class.number place (tables d.class.number place)) (tables_pass d.class.number is.small.number) (places_of d) is.sized) ds all in
      all_append Passes (map head_row ds ++ flat_map text_rows ds ++ flat_map (table_heads tables) ds) (flat_map (table_rows tables) ds)
      (all_append Passes (map head_row ds ++ flat_map text_rows ds) (flat_map (table_heads tables) ds) (all_append Passes (map head_row ds) (flat_map text_rows ds) heads texts) table_heads_) tables_

-- ---- what is stored of a world

objects_later : (os : List Object) → AllByRecursion IsLater (map object_row os)
objects_later os = all_map IsLater Any object_row (λ o _. omega arith) os (all_any os)

versions_later : (cs : List Declared) (os : List Object) → AllByRecursion IsLater (flat_map (version_rows cs) os)
versions_later cs os =
    all_flat IsLater Any (version_rows cs)
    (λ (o : Object) _. all_map IsLater Any (version_row o.id (fields_of cs o.class)) (λ v _. omega arith) o.versions (all_any o.versions)) os (all_any os)

activations_later : (w : World (Unit {0}) ℕ) (os : List Object) → AllByRecursion IsLater (flat_map (activation_rows w) os)
activations_later w os =
    all_flat IsLater Any (activation_rows w)
    (λ (o : Object) _. all_map IsLater Any (λ (a : Activation). activation_row o.id (state_of w o.id a.number) a) (λ a _. omega arith) o.activations (all_any o.activations)) os (all_any os)

queue_later : (qs : List (ℕ × Entry)) → AllByRecursion IsLater (map entry_row qs)
queue_later qs = all_map IsLater Any entry_row (λ q _. omega arith) qs (all_any qs)

added_later : (b : Bones) (ds : List Declared) → AllByRecursion IsLater (flat_map (added_rows b) ds)
added_later b ds =
    all_flat IsLater Any (added_rows b)
    (λ (d : Declared) _. all_map IsLater Any (added_row b.classes) (λ a _. omega arith) (added_to d.class.number b.added) (all_any (added_to d.class.number b.added))) ds (all_any ds)

rows_of_classes : (s : Stored) → AllByRecursion (IsStorable s.tables) s.world.bones.classes → of_classes (rows s) ≡ class_rows s.tables s.world.bones.classes
rows_of_classes s all =
    let b = s.world.bones in
    let classes_ : Entries = class_rows s.tables b.classes in
    let objects_ : Entries = map object_row b.objects in
    let versions_ : Entries = flat_map (version_rows b.classes) b.objects in
    let activations_ : Entries = flat_map (activation_rows s.world) b.objects in
    let queue_ : Entries = map entry_row b.queue in
    let added_ : Entries = flat_map (added_rows b) b.classes in
    let to_classes : of_classes (counters_row b ∷ classes_) ≡ classes_ = all_of classes_ (rows_pass s.tables b.classes all) in
    let to_objects = without (counters_row b ∷ classes_) objects_ classes_ to_classes (none_of objects_ (objects_later b.objects)) in
    let to_versions = without (counters_row b ∷ classes_ ++ objects_) versions_ classes_ to_objects (none_of versions_ (versions_later b.classes b.objects)) in
    let to_activations = without (counters_row b ∷ classes_ ++ objects_ ++ versions_) activations_ classes_ to_versions (none_of activations_ (activations_later s.world b.objects)) in
    let to_queue = without (counters_row b ∷ classes_ ++ objects_ ++ versions_ ++ activations_) queue_ classes_ to_activations (none_of queue_ (queue_later b.queue)) in
    without (counters_row b ∷ classes_ ++ objects_ ++ versions_ ++ activations_ ++ queue_) added_ classes_ to_queue (none_of added_ (added_later b b.classes))

-- ---- those of added fields

fields_stand : (s : Stored) → AllByRecursion (IsStorable s.tables) s.world.bones.classes → AreAdded s.world.bones.classes 1 s.world.bones.added → length s.world.bones.added < 2 ^ 32
    → within added_kind added_kind (rows s) ≡ flat_map (own_rows s.world.bones.classes s.world.bones.added) s.world.bones.classes
fields_stand s all are few =
    let b = s.world.bones in
    let low = all_then (IsStorable s.tables) (λ (d : Declared). d.class.number < 2 ^ 32) (λ d is. is.small.number) b.classes all in
    rows_of_fields s (blocks b.added b.classes) (rows_are b.classes b.added b.classes) (blocks_in_range b.added b.classes are few b.classes low)

pub classes_are_held : (records : Entries) (w : ListWorld) (is : HoldsWorld ode records w) → HoldClasses records is.stored.tables w.bones.added w.bones.classes
classes_are_held records w held =
    let tables = held.stored.tables in
    let good = held.good.bones in
    let bones : held.stored.world.bones ≡ w.bones = held.stands.bones in
    let all : AllByRecursion (IsStorable tables) w.bones.classes = are_storable tables w.bones.added w.bones.classes good.classes held.stands.mean in
    let its : AllByRecursion (IsStorable tables) held.stored.world.bones.classes = subst (λ (b : Bones). AllByRecursion (IsStorable tables) b.classes) (sym bones) all in
    record {
      rows = ap of_classes held.rows ∙ rows_of_classes held.stored its ∙ ap (λ (b : Bones). class_rows tables b.classes) bones;
      fields =
          ap (within added_kind added_kind) held.rows
          ∙ fields_stand held.stored its (subst (λ (b : Bones). AreAdded b.classes 1 b.added) (sym bones) good.added) (subst (λ (b : Bones). length b.added < 2 ^ 32) (sym bones) good.few_added)
          ∙ ap (λ (b : Bones). flat_map (own_rows b.classes b.added) b.classes) bones;
      classes = good.classes;
      born = good.added;
      few = good.few_added;
      mean = held.stands.mean;
    }
