-- The records of added fields among those of a world.
use Rattle.std.proofs.Common.{◌≡◌, ℕ, ◌<◌, ◌^◌, List, [], ◌∷◌, ◌++◌, map, length, true, false, cond, refl, sym, ap, ◌∙◌, arith}
use Rattle.std.specs.List.{AllByRecursion, flat_map}
use Rattle.std.specs.Prelude.{◌==◌}
use Rattle.std.proofs.lemmas.Bool.{eqb-true}
use Rattle.std.proofs.lemmas.Bool.Decides.{nat_tests}
use Rattle.std.proofs.lemmas.List.Elements.{filter-append}
use Rattle.ode_codec.specs.StoredRows.{Stored, activation_row, activation_rows, added_row, added_rows, counters_row, entry_row, head_row, object_row, pieces_of, places_of, rows, state_of, table_bytes, table_head, table_heads, table_pieces, table_row, table_rows, text_row, text_rows, version_rows}
use Rattle.ode_keep.specs.Entries.{Entries}
use Rattle.ode_passes.specs.Walking.{is_from, within}
use Rattle.ode_value.specs.Fields.{fields_of}
use Rattle.ode_value.specs.GoodWorlds.{AreAdded}
use Rattle.ode_value.specs.Keys.{added_kind, key}
use Rattle.ode_value.specs.Objects.{Activation}
use Rattle.ode_value.specs.PrintedClasses.{decl_text}
use Rattle.ode_value.specs.Records.{Row, version_row}
use Rattle.ode_value.specs.Tables.{Table}
use Rattle.ode_value.specs.Worlds.{Declared, Object, World}
use Rattle.ode_value.specs.declared.change.Added.{Added}
use Rattle.ode_value.specs.declared.key.Key.{Key}
use Rattle.ode_opening_laws.specs.Holding.{class_rows}
use Rattle.ode_opening_laws.proofs.BornOnce.{IsPlaced, block, blocks, own_block}
use Rattle.ode_opening_laws.proofs.Each.{Any, all_any, all_append, all_flat, all_map, all_then}

abbrev of_fields : Entries → Entries
of_fields es = within added_kind added_kind es

abbrev IsEarlier : Row → Type 0
IsEarlier e = e.0.kind < added_kind

earlier : (k : Key) → k.kind < added_kind → is_from (key added_kind 0 0) added_kind k ≡ false
earlier k kind = grind (arith, nat_tests)

passes : (class birth : ℕ) → class < 2 ^ 64 → birth < 2 ^ 64 → is_from (key added_kind 0 0) added_kind (key added_kind class birth) ≡ true
passes class birth a b = grind (arith, nat_tests)

none_of : (es : Entries) → AllByRecursion IsEarlier es → of_fields es ≡ []
none_of [] all = refl
none_of (e ∷ es) all = ap (λ b. cond b (e ∷ of_fields es) (of_fields es)) (earlier e.0 all.0) ∙ none_of es all.1

-- ---- records of other kinds

classes_earlier : (tables : ℕ → ℕ → Table) (ds : List Declared) → AllByRecursion IsEarlier (class_rows tables ds)
classes_earlier tables ds =
    let heads = all_map IsEarlier Any head_row (λ d _. omega arith) ds (all_any ds) in
    let texts =
    all_flat IsEarlier Any text_rows (λ (d : Declared) _. all_map IsEarlier Any (text_row d.class.number) (λ p _. omega arith) (pieces_of (decl_text d.tree)) (all_any (pieces_of (decl_text d.tree)))) ds (all_any ds) in
    let table_heads_ =
    all_flat IsEarlier Any (table_heads tables)
    (λ (d : Declared) _. all_map IsEarlier Any (λ place. table_head d.class.number place (tables d.class.number place)) (λ place _. omega arith) (places_of d) (all_any (places_of d))) ds (all_any ds) in
    let tables_ =
    all_flat IsEarlier Any (table_rows tables)
    (λ (d : Declared) _. all_flat IsEarlier Any (λ place. table_pieces d.class.number place (tables d.class.number place))
    (λ place _. all_map IsEarlier Any (table_row d.class.number place) (λ p _. omega arith) (pieces_of (table_bytes (tables d.class.number place))) (all_any (pieces_of (table_bytes (tables d.class.number place)))))
    (places_of d) (all_any (places_of d))) ds (all_any ds) in
    all_append IsEarlier (map head_row ds ++ flat_map text_rows ds ++ flat_map (table_heads tables) ds) (flat_map (table_rows tables) ds)
    (all_append IsEarlier (map head_row ds ++ flat_map text_rows ds) (flat_map (table_heads tables) ds) (all_append IsEarlier (map head_row ds) (flat_map text_rows ds) heads texts) table_heads_) tables_

objects_earlier : (os : List Object) → AllByRecursion IsEarlier (map object_row os)
objects_earlier os = all_map IsEarlier Any object_row (λ o _. omega arith) os (all_any os)

versions_earlier : (cs : List Declared) (os : List Object) → AllByRecursion IsEarlier (flat_map (version_rows cs) os)
versions_earlier cs os =
    all_flat IsEarlier Any (version_rows cs)
    (λ (o : Object) _. all_map IsEarlier Any (version_row o.id (fields_of cs o.class)) (λ v _. omega arith) o.versions (all_any o.versions)) os (all_any os)

activations_earlier : (w : World (Unit {0}) ℕ) (os : List Object) → AllByRecursion IsEarlier (flat_map (activation_rows w) os)
activations_earlier w os =
    all_flat IsEarlier Any (activation_rows w)
    (λ (o : Object) _. all_map IsEarlier Any (λ (a : Activation). activation_row o.id (state_of w o.id a.number) a) (λ a _. omega arith) o.activations (all_any o.activations)) os (all_any os)

-- ---- and their own

abbrev pub InRange : Added → Type 0
InRange a = (a.class < 2 ^ 64) × (a.birth < 2 ^ 64)

all_of : (classes : List Declared) (xs : List Added) → AllByRecursion InRange xs → of_fields (map (added_row classes) xs) ≡ map (added_row classes) xs
all_of classes [] all = refl
all_of classes (a ∷ xs) all =
    let rest = map (added_row classes) xs in
    ap (λ b. cond b (added_row classes a ∷ of_fields rest) (of_fields rest)) (passes a.class a.birth all.0.0 all.0.1) ∙ ap (λ (more : Entries). added_row classes a ∷ more) (all_of classes xs all.1)

class_low : (class n : ℕ) → (class == n) ≡ true → n < 2 ^ 32 → class < 2 ^ 64
class_low class n is low = let same : class ≡ n = eqb-true class n is in omega (arith, same, low)

-- the fields of classes that have low numbers, class by class
pub blocks_in_range : (added : List Added) (classes : List Declared) → AreAdded classes 1 added → length added < 2 ^ 32 → (ds : List Declared)
    → AllByRecursion (λ (d : Declared). d.class.number < 2 ^ 32) ds → AllByRecursion InRange (blocks added ds)
blocks_in_range added classes are few [] low = tt
blocks_in_range added classes are few (d ∷ ds) low =
    all_append InRange (block added d) (blocks added ds)
    (all_then (λ (a : Added). IsPlaced added a × ((a.class == d.class.number) ≡ true)) InRange (λ a is. (class_low a.class d.class.number is.1 low.0, omega (arith, is.0.1, few))) (block added d)
    (own_block added classes are d))
    (blocks_in_range added classes are few ds low.1)

-- of the rows of a world, whose added fields have rows that are these
pub rows_of_fields : (s : Stored) (xs : List Added) → flat_map (added_rows s.world.bones) s.world.bones.classes ≡ map (added_row s.world.bones.classes) xs → AllByRecursion InRange xs
    → of_fields (rows s) ≡ flat_map (added_rows s.world.bones) s.world.bones.classes
rows_of_fields s xs are all =
    let b = s.world.bones in
    let front : Entries =
    counters_row b ∷ class_rows s.tables b.classes ++ map object_row b.objects ++ flat_map (version_rows b.classes) b.objects ++ flat_map (activation_rows s.world) b.objects ++ map entry_row b.queue in
    let fields : Entries = flat_map (added_rows b) b.classes in
    let before : AllByRecursion IsEarlier front = (
      omega arith,
      all_append IsEarlier (class_rows s.tables b.classes ++ map object_row b.objects ++ flat_map (version_rows b.classes) b.objects ++ flat_map (activation_rows s.world) b.objects) (map entry_row b.queue)
          (all_append IsEarlier (class_rows s.tables b.classes ++ map object_row b.objects ++ flat_map (version_rows b.classes) b.objects) (flat_map (activation_rows s.world) b.objects)
          (all_append IsEarlier (class_rows s.tables b.classes ++ map object_row b.objects) (flat_map (version_rows b.classes) b.objects)
          (all_append IsEarlier (class_rows s.tables b.classes) (map object_row b.objects) (classes_earlier s.tables b.classes) (objects_earlier b.objects)) (versions_earlier b.classes b.objects))
          (activations_earlier s.world b.objects))
          (all_map IsEarlier Any entry_row (λ q _. omega arith) b.queue (all_any b.queue)),
    ) in
    let own : of_fields fields ≡ fields = ap of_fields are ∙ all_of b.classes xs all ∙ sym are in
    filter-append (λ (e : Row). is_from (key added_kind 0 0) added_kind e.0) front fields ∙ ap (λ (es : Entries). es ++ of_fields fields) (none_of front before) ∙ own
