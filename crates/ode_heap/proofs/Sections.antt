-- Of the records of a stored database: those of each kind.
use Rattle.std.proofs.Common.{◌≡◌, ℕ, List, [], ◌∷◌, ◌++◌, map, refl, ap, ◌∙◌, append_assoc}
use Rattle.std.specs.List.{flat_map}
use Rattle.ode_codec.specs.StoredRows.{Stored, activation_rows, added_rows, counters_row, entry_row, head_row, object_row, places_of, rows, table_heads, table_pieces, table_rows, text_rows, version_rows}
use Rattle.ode_value.specs.Records.{Row}
use Rattle.ode_value.specs.Worlds.{Bones, Declared, Entry, Object}
use Rattle.ode_heap.proofs.OneKind.{AreOfKind, eighth_kind, first_kind, flat_map_of_kind, map_of_kind, ninth_kind, rows_of, seventh_kind, sixth_kind}

all_right : (c : Row) (r2 r3 r4 r5 r6 r7 r8 r9 r10 : List Row)
    → (c ∷ r2 ++ r3 ++ r4 ++ r5 ++ r6 ++ r7 ++ r8 ++ r9 ++ r10) ≡ (c ∷ (r2 ++ (r3 ++ (r4 ++ (r5 ++ (r6 ++ (r7 ++ (r8 ++ (r9 ++ r10)))))))))
all_right c r2 r3 r4 r5 r6 r7 r8 r9 r10 = simp append_assoc

module _ (s : Stored) where
  abbrev bones : Bones
  bones = s.world.bones

  heads : AreOfKind 2 (map head_row bones.classes)
  heads = map_of_kind Declared head_row 2 (λ c. refl) bones.classes

  texts : AreOfKind 3 (flat_map text_rows bones.classes)
  texts = flat_map_of_kind Declared text_rows 3 (λ c. map_of_kind _ _ 3 (λ piece. refl) _) bones.classes

  table_heads_are : AreOfKind 4 (flat_map (table_heads s.tables) bones.classes)
  table_heads_are = flat_map_of_kind Declared (table_heads s.tables) 4 (λ c. map_of_kind _ _ 4 (λ place. refl) _) bones.classes

  tables_are : AreOfKind 5 (flat_map (table_rows s.tables) bones.classes)
  tables_are = flat_map_of_kind Declared (table_rows s.tables) 5
      (λ c. flat_map_of_kind ℕ (λ place. table_pieces c.class.number place (s.tables c.class.number place)) 5 (λ place. map_of_kind _ _ 5 (λ piece. refl) _) (places_of c)) bones.classes

  objects_are : AreOfKind 6 (map object_row bones.objects)
  objects_are = map_of_kind Object object_row 6 (λ o. refl) bones.objects

  versions_are : AreOfKind 7 (flat_map (version_rows bones.classes) bones.objects)
  versions_are = flat_map_of_kind Object (version_rows bones.classes) 7 (λ o. map_of_kind _ _ 7 (λ v. refl) _) bones.objects

  activations_are : AreOfKind 8 (flat_map (activation_rows s.world) bones.objects)
  activations_are = flat_map_of_kind Object (activation_rows s.world) 8 (λ o. map_of_kind _ _ 8 (λ a. refl) _) bones.objects

  entries_are : AreOfKind 9 (map entry_row bones.queue)
  entries_are = map_of_kind (ℕ × Entry) entry_row 9 (λ q. refl) bones.queue

  added_are : AreOfKind 10 (flat_map (added_rows bones) bones.classes)
  added_are = flat_map_of_kind Declared (added_rows bones) 10 (λ c. map_of_kind _ _ 10 (λ a. refl) _) bones.classes

  abbrev ten_kinds : List Row
  ten_kinds =
      counters_row bones ∷ (map head_row bones.classes ++ (flat_map text_rows bones.classes
      ++ (flat_map (table_heads s.tables) bones.classes ++ (flat_map (table_rows s.tables) bones.classes
      ++ (map object_row bones.objects ++ (flat_map (version_rows bones.classes) bones.objects ++ (flat_map (activation_rows s.world) bones.objects
      ++ (map entry_row bones.queue ++ flat_map (added_rows bones) bones.classes))))))))

  in_ten : rows s ≡ ten_kinds
  in_ten = all_right (counters_row bones) (map head_row bones.classes) (flat_map text_rows bones.classes) (flat_map (table_heads s.tables) bones.classes)
      (flat_map (table_rows s.tables) bones.classes) (map object_row bones.objects) (flat_map (version_rows bones.classes) bones.objects)
      (flat_map (activation_rows s.world) bones.objects) (map entry_row bones.queue) (flat_map (added_rows bones) bones.classes)

  pub counters_alone : rows_of 1 (rows s) ≡ counters_row bones ∷ []
  counters_alone = ap (rows_of 1) in_ten ∙ first_kind (counters_row bones) _ _ _ _ _ _ _ _ _ refl heads texts table_heads_are tables_are objects_are versions_are activations_are entries_are added_are

  pub objects_alone : rows_of 6 (rows s) ≡ map object_row bones.objects
  objects_alone = ap (rows_of 6) in_ten ∙ sixth_kind (counters_row bones) _ _ _ _ _ _ _ _ _ refl heads texts table_heads_are tables_are objects_are versions_are activations_are entries_are added_are

  pub versions_alone : rows_of 7 (rows s) ≡ flat_map (version_rows bones.classes) bones.objects
  versions_alone = ap (rows_of 7) in_ten ∙ seventh_kind (counters_row bones) _ _ _ _ _ _ _ _ _ refl heads texts table_heads_are tables_are objects_are versions_are activations_are entries_are added_are

  pub activations_alone : rows_of 8 (rows s) ≡ flat_map (activation_rows s.world) bones.objects
  activations_alone = ap (rows_of 8) in_ten ∙ eighth_kind (counters_row bones) _ _ _ _ _ _ _ _ _ refl heads texts table_heads_are tables_are objects_are versions_are activations_are entries_are added_are

  pub entries_alone : rows_of 9 (rows s) ≡ map entry_row bones.queue
  entries_alone = ap (rows_of 9) in_ten ∙ ninth_kind (counters_row bones) _ _ _ _ _ _ _ _ _ refl heads texts table_heads_are tables_are objects_are versions_are activations_are entries_are added_are
