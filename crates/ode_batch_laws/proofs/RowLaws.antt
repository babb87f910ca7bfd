-- The records of a stored database stand in rising order of their keys.
use Rattle.std.proofs.Common.{◌≡◌, ℕ, ◌<◌, ◌≤◌, List, ◌∷◌, ◌++◌, map, sym, subst, arith}
use Rattle.std.proofs.lemmas.Bool.Decides.{nat_tests}
use Rattle.std.specs.List.{AllByRecursion, flat_map}
use Rattle.std.specs.declared.cmp.Ordering.TheVariants.{Less}
use Rattle.ode_batch_laws.proofs.AddedLaws.{added_climb}
use Rattle.ode_batch_laws.proofs.ClimbLaws.{AllBefore, AreBelow, AreFrom, Climb, all_before, all_flat, all_map, climb_flat, climb_front, climb_join, climb_map, climb_rises, rising_climbs}
use Rattle.ode_codec.specs.StoredRows.{Stored, activation_row, activation_rows, added_row, counters_row, entry_row, head_row, object_row, pieces_of, places_of, rows, state_of, table_bytes, table_head, table_heads, table_pieces, table_row, table_rows, text_row, text_rows, version_rows}
use Rattle.ode_keep.specs.Entries.{HasRisingKeys}
use Rattle.ode_laws.proofs.Each.{all-append, all-then}
use Rattle.ode_laws.proofs.Rows.{id_of}
use Rattle.ode_settling_laws.proofs.KindLaws.{class_rows, six}
use Rattle.ode_value.specs.Changing.{added_to}
use Rattle.ode_value.specs.Fields.{fields_of}
use Rattle.ode_value.specs.GoodWorlds.{AreBones, IsObject, RiseFrom}
use Rattle.ode_value.specs.Keys.{activation_key, entry_key, key_cmp, object_key, version_key}
use Rattle.ode_value.specs.Language.{Language}
use Rattle.ode_value.specs.Objects.{Activation}
use Rattle.ode_value.specs.PrintedClasses.{decl_text}
use Rattle.ode_value.specs.Records.{Row, version_row}
use Rattle.ode_value.specs.Tables.{Table}
use Rattle.ode_value.specs.Versions.{Version}
use Rattle.ode_value.specs.Worlds.{Bones, Declared, Entry, Object}
use Rattle.ode_value.specs.declared.change.Added.{Added}

-- ---- the kinds of classes' records

low_classes : (tables : ℕ → ℕ → Table) (classes : List Declared) → AreBelow 6 (class_rows tables classes)
low_classes tables classes =
    all-append (λ (e : Row). e.0.kind < 6) (map head_row classes) (flat_map text_rows classes ++ (flat_map (table_heads tables) classes ++ flat_map (table_rows tables) classes))
    (all_map (λ (e : Row). e.0.kind < 6) head_row (λ c. omega arith) classes)
    (all-append (λ (e : Row). e.0.kind < 6) (flat_map text_rows classes) (flat_map (table_heads tables) classes ++ flat_map (table_rows tables) classes)
    (all_flat (λ (e : Row). e.0.kind < 6) text_rows (λ (c : Declared). all_map (λ (e : Row). e.0.kind < 6) (text_row c.class.number) (λ piece. omega arith) (pieces_of (decl_text c.tree))) classes)
    (all-append (λ (e : Row). e.0.kind < 6) (flat_map (table_heads tables) classes) (flat_map (table_rows tables) classes)
    (all_flat (λ (e : Row). e.0.kind < 6) (table_heads tables)
    (λ (c : Declared). all_map (λ (e : Row). e.0.kind < 6) (λ (place : ℕ). table_head c.class.number place (tables c.class.number place)) (λ place. omega arith) (places_of c)) classes)
    (all_flat (λ (e : Row). e.0.kind < 6) (table_rows tables)
    (λ (c : Declared). all_flat (λ (e : Row). e.0.kind < 6) (λ (place : ℕ). table_pieces c.class.number place (tables c.class.number place))
    (λ place. all_map (λ (e : Row). e.0.kind < 6) (table_row c.class.number place) (λ piece. omega arith) (pieces_of (table_bytes (tables c.class.number place)))) (places_of c)) classes)))

-- ---- keys by rising numbers

objects_less : (m n : ℕ) → m < n → key_cmp (object_key m) (object_key n) ≡ Less
objects_less m n less = grind (arith, nat_tests)

versions_less : (id m n : ℕ) → m < n → key_cmp (version_key id m) (version_key id n) ≡ Less
versions_less id m n less = grind (arith, nat_tests)

versions_across : (i j m n : ℕ) → i < j → key_cmp (version_key i m) (version_key j n) ≡ Less
versions_across i j m n less = grind (arith, nat_tests)

activations_less : (id m n : ℕ) → m < n → key_cmp (activation_key id m) (activation_key id n) ≡ Less
activations_less id m n less = grind (arith, nat_tests)

activations_across : (i j m n : ℕ) → i < j → key_cmp (activation_key i m) (activation_key j n) ≡ Less
activations_across i j m n less = grind (arith, nat_tests)

entries_less : (m n : ℕ) → m < n → key_cmp (entry_key m) (entry_key n) ≡ Less
entries_less m n less = grind (arith, nat_tests)

-- ---- a stored database

abbrev objects_of : Bones → List Row
objects_of b = map object_row b.objects

abbrev versions_of : Bones → List Row
versions_of b = flat_map (version_rows b.classes) b.objects

abbrev activations_of : Stored → List Row
activations_of s = flat_map (activation_rows s.world) s.world.bones.objects

abbrev entries_of : Bones → List Row
entries_of b = map entry_row b.queue

-- those of fields that were added to these classes
abbrev added_of : List Declared → List Added → List Row
added_of classes added = flat_map (λ (c : Declared). map (added_row classes) (added_to c.class.number added)) classes

abbrev last_of : Bones → List Row
last_of b = entries_of b ++ added_of b.classes b.added

grouped : (s : Stored) → rows s ≡ counters_row s.world.bones ∷ (class_rows s.tables s.world.bones.classes ++ (objects_of s.world.bones ++ (versions_of s.world.bones ++ (activations_of s ++ last_of s.world.bones))))
grouped s =
    let b = s.world.bones in
    six (counters_row b) (map head_row b.classes) (flat_map text_rows b.classes) (flat_map (table_heads s.tables) b.classes) (flat_map (table_rows s.tables) b.classes)
    (objects_of b) (versions_of b) (activations_of s) (entries_of b) (added_of b.classes b.added)

-- the counters and the classes of one whose records rise
pub front_climbs : (s : Stored) → HasRisingKeys (rows s) → Climb (counters_row s.world.bones ∷ class_rows s.tables s.world.bones.classes)
front_climbs s rising =
    climb_front (counters_row s.world.bones ∷ class_rows s.tables s.world.bones.classes)
    (objects_of s.world.bones ++ (versions_of s.world.bones ++ (activations_of s ++ last_of s.world.bones))) (subst Climb (grouped s) (rising_climbs (rows s) rising))

module _ (l : Language) (s : Stored) (good : AreBones l s.world.bones) (rising : RiseFrom 0 (map (λ (c : Declared). c.class.number) s.world.bones.classes)) where
  abbrev b : Bones
  b = s.world.bones

  objects_climb : Climb (objects_of b)
  objects_climb = climb_map id_of object_row (λ o p less. objects_less o.id p.id less) 0 b.objects good.rising

  -- a version of an object
  abbrev its_row : Object → Version → Row
  its_row o v = version_row o.id (fields_of b.classes o.class) v

  versions_before : (o p : Object) → o.id < p.id → AllBefore (version_rows b.classes o) (version_rows b.classes p)
  versions_before o p less =
      all_map (λ (e : Row). AllByRecursion (λ (f : Row). key_cmp e.0 f.0 ≡ Less) (version_rows b.classes p)) (its_row o)
      (λ v. all_map (λ (f : Row). key_cmp (version_key o.id v.number) f.0 ≡ Less) (its_row p) (λ u. versions_across o.id p.id v.number u.number less) p.versions) o.versions

  versions_climb : Climb (versions_of b)
  versions_climb =
      climb_flat id_of (version_rows b.classes) versions_before 0 b.objects
      (all-then (IsObject b) (λ (o : Object). Climb (version_rows b.classes o))
      (λ o is. climb_map (λ (v : Version). v.number) (its_row o) (λ v u less. versions_less o.id v.number u.number less) 0 o.versions is.rising) b.objects good.objects) good.rising

  abbrev active_row : Object → Activation → Row
  active_row o a = activation_row o.id (state_of s.world o.id a.number) a

  activations_before : (o p : Object) → o.id < p.id → AllBefore (activation_rows s.world o) (activation_rows s.world p)
  activations_before o p less =
      all_map (λ (e : Row). AllByRecursion (λ (f : Row). key_cmp e.0 f.0 ≡ Less) (activation_rows s.world p)) (active_row o)
      (λ a. all_map (λ (f : Row). key_cmp (activation_key o.id a.number) f.0 ≡ Less) (active_row p) (λ c. activations_across o.id p.id a.number c.number less) p.activations) o.activations

  activations_climb : Climb (activations_of s)
  activations_climb =
      climb_flat id_of (activation_rows s.world) activations_before 0 b.objects
      (all-then (IsObject b) (λ (o : Object). Climb (activation_rows s.world o))
      (λ o is. climb_map (λ (a : Activation). a.number) (active_row o) (λ a c less. activations_less o.id a.number c.number less) 0 o.activations is.rising_activations) b.objects good.objects) good.rising

  entries_climb : Climb (entries_of b)
  entries_climb = climb_map (λ (q : ℕ × Entry). q.0) entry_row (λ p q less. entries_less p.0 q.0 less) 0 b.queue good.rising_queue

  -- ---- kinds

  abbrev Of : (ℕ → ℕ → Type 0) → ℕ → List Row → Type 0
  Of R k es = AllByRecursion (λ (e : Row). R e.0.kind k) es

  objects_kind : AreBelow 7 (objects_of b) × AreFrom 6 (objects_of b)
  objects_kind = (all_map (λ (e : Row). e.0.kind < 7) object_row (λ o. omega arith) b.objects, all_map (λ (e : Row). 6 ≤ e.0.kind) object_row (λ o. omega arith) b.objects)

  versions_kind : AreBelow 8 (versions_of b) × AreFrom 7 (versions_of b) × AreFrom 6 (versions_of b)
  versions_kind = (
    all_flat (λ (e : Row). e.0.kind < 8) (version_rows b.classes) (λ (o : Object). all_map (λ (e : Row). e.0.kind < 8) (its_row o) (λ v. omega arith) o.versions) b.objects,
    all_flat (λ (e : Row). 7 ≤ e.0.kind) (version_rows b.classes) (λ (o : Object). all_map (λ (e : Row). 7 ≤ e.0.kind) (its_row o) (λ v. omega arith) o.versions) b.objects,
    all_flat (λ (e : Row). 6 ≤ e.0.kind) (version_rows b.classes) (λ (o : Object). all_map (λ (e : Row). 6 ≤ e.0.kind) (its_row o) (λ v. omega arith) o.versions) b.objects,
  )

  activations_from : (k : ℕ) → k ≤ 8 → AreFrom k (activations_of s)
  activations_from k most = all_flat (λ (e : Row). k ≤ e.0.kind) (activation_rows s.world) (λ (o : Object). all_map (λ (e : Row). k ≤ e.0.kind) (active_row o) (λ a. most) o.activations) b.objects

  activations_below : AreBelow 9 (activations_of s)
  activations_below = all_flat (λ (e : Row). e.0.kind < 9) (activation_rows s.world) (λ (o : Object). all_map (λ (e : Row). e.0.kind < 9) (active_row o) (λ a. omega arith) o.activations) b.objects

  entries_from : (k : ℕ) → k ≤ 9 → AreFrom k (entries_of b)
  entries_from k most = all_map (λ (e : Row). k ≤ e.0.kind) entry_row (λ q. most) b.queue

  entries_below : AreBelow 10 (entries_of b)
  entries_below = all_map (λ (e : Row). e.0.kind < 10) entry_row (λ q. omega arith) b.queue

  abbrev added : List Row
  added = added_of b.classes b.added

  added_from : (k : ℕ) → k ≤ 10 → AreFrom k added
  added_from k most =
      all_flat (λ (e : Row). k ≤ e.0.kind) (λ (c : Declared). map (added_row b.classes) (added_to c.class.number b.added))
      (λ c. all_map (λ (e : Row). k ≤ e.0.kind) (added_row b.classes) (λ a. most) (added_to c.class.number b.added)) b.classes

  -- ---- all of them

  ends_climb : Climb (last_of b)
  ends_climb = climb_join (entries_of b) added entries_climb (added_climb b.classes b.added rising good.added) (all_before 10 (entries_of b) added entries_below (added_from 10 (omega arith)))

  ends_from : (k : ℕ) → k ≤ 9 → AreFrom k (last_of b)
  ends_from k most = all-append (λ (e : Row). k ≤ e.0.kind) (entries_of b) added (entries_from k most) (added_from k (omega (arith, most)))

  last_climb : Climb (activations_of s ++ last_of b)
  last_climb = climb_join (activations_of s) (last_of b) activations_climb ends_climb (all_before 9 (activations_of s) (last_of b) activations_below (ends_from 9 (omega arith)))

  last_from : (k : ℕ) → k ≤ 8 → AreFrom k (activations_of s ++ last_of b)
  last_from k most = all-append (λ (e : Row). k ≤ e.0.kind) (activations_of s) (last_of b) (activations_from k most) (ends_from k (omega (arith, most)))

  parts_climb : Climb (versions_of b ++ (activations_of s ++ last_of b))
  parts_climb =
      climb_join (versions_of b) (activations_of s ++ last_of b) versions_climb last_climb
      (all_before 8 (versions_of b) (activations_of s ++ last_of b) versions_kind.0 (last_from 8 (omega arith)))

  parts_from : (k : ℕ) → k ≤ 8 → AreFrom k (versions_of b) → AreFrom k (versions_of b ++ (activations_of s ++ last_of b))
  parts_from k most versions = all-append (λ (e : Row). k ≤ e.0.kind) (versions_of b) (activations_of s ++ last_of b) versions (last_from k most)

  abbrev things : List Row
  things = objects_of b ++ (versions_of b ++ (activations_of s ++ last_of b))

  things_climb : Climb things
  things_climb =
      climb_join (objects_of b) (versions_of b ++ (activations_of s ++ last_of b)) objects_climb parts_climb
      (all_before 7 (objects_of b) (versions_of b ++ (activations_of s ++ last_of b)) objects_kind.0 (parts_from 7 (omega arith) versions_kind.1))

  things_from : AreFrom 6 things
  things_from =
      all-append (λ (e : Row). 6 ≤ e.0.kind) (objects_of b) (versions_of b ++ (activations_of s ++ last_of b)) objects_kind.1 (parts_from 6 (omega arith) versions_kind.2)

  -- behind counters and classes that rise
  pub rows_rise : Climb (counters_row b ∷ class_rows s.tables b.classes) → HasRisingKeys (rows s)
  rows_rise front =
      climb_rises (rows s)
      (subst Climb (sym (grouped s))
      (climb_join (counters_row b ∷ class_rows s.tables b.classes) things front things_climb
      (all_before 6 (counters_row b ∷ class_rows s.tables b.classes) things (omega arith, low_classes s.tables b.classes) things_from)))
