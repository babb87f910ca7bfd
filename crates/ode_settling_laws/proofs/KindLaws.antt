-- What stands under a key of each kind in a stored database.
use Rattle.std.proofs.Common.{◌≡◌, ◌==◌, ℕ, ◌+◌, ◌<◌, ◌≤◌, List, [], ◌∷◌, ◌++◌, map, Bool, true, false, cond, Option, Some, None, refl, sym, ap, ◌∙◌, append_assoc, arith}
use Rattle.std.proofs.lemmas.Bool.Decides.{nat_tests}
use Rattle.std.specs.BTreeMap.{is_at}
use Rattle.std.specs.List.{flat_map}
use Rattle.std.specs.Option.{option_and_then, option_map}
use Rattle.ode_codec.specs.StoredRows.{Stored, activation_row, activation_rows, added_row, added_rows, counters_row, entry_row, head_row, object_row, pieces_of, places_of, rows, state_of, table_bytes, table_head, table_heads, table_pieces, table_row, table_rows, text_row, text_rows, version_rows}
use Rattle.ode_keep.specs.Entries.{Entries, value_under}
use Rattle.ode_laws.proofs.Rows.{id_of}
use Rattle.ode_value.specs.Changing.{added_to}
use Rattle.ode_value.specs.Denoting.{object_numbered}
use Rattle.ode_value.specs.Fields.{fields_of}
use Rattle.ode_value.specs.GoodWorlds.{RiseFrom}
use Rattle.ode_value.specs.Keys.{activation_key, counters_key, key_cmp, object_key, version_key}
use Rattle.ode_value.specs.Objects.{Activation}
use Rattle.ode_value.specs.PrintedClasses.{decl_text}
use Rattle.ode_value.specs.Records.{Row, version_row}
use Rattle.ode_value.specs.Tables.{Table}
use Rattle.ode_value.specs.Worlds.{Bones, Declared, Object}
use Rattle.ode_value.specs.declared.change.Added.{Added}
use Rattle.ode_value.specs.declared.key.Key.{Key}

abbrev Value : Type 0
Value = Option (List ℕ)

-- ---- records behind one another

abbrev pub or_else : Value → Value → Value
or_else None o = o
or_else (Some v) o = Some v

or_cond : (b : Bool) (v : List ℕ) (m o : Value) → cond b (Some v) (or_else m o) ≡ or_else (cond b (Some v) m) o
or_cond true v m o = refl
or_cond false v m o = refl

pub or_none : (m : Value) → or_else m None ≡ m
or_none None = refl
or_none (Some v) = refl

pub value_append : (es rest : Entries) (q : Key) → value_under (es ++ rest) q ≡ or_else (value_under es q) (value_under rest q)
value_append [] rest q = refl
value_append (e ∷ es) rest q =
    ap (λ (o : Value). cond (is_at (key_cmp q) e.0) (Some e.1) o) (value_append es rest q) ∙ or_cond (is_at (key_cmp q) e.0) e.1 (value_under es q) (value_under rest q)

-- where the front has none, and where the rest has
passed : (es rest : Entries) (q : Key) → value_under es q ≡ None → value_under (es ++ rest) q ≡ value_under rest q
passed es rest q none = value_append es rest q ∙ ap (λ (m : Value). or_else m (value_under rest q)) none

alone : (es rest : Entries) (q : Key) → value_under rest q ≡ None → value_under (es ++ rest) q ≡ value_under es q
alone es rest q none = value_append es rest q ∙ ap (or_else (value_under es q)) none ∙ or_none (value_under es q)

-- ---- none of a kind

other_kind : (k q : Key) → (k.kind == q.kind) ≡ false → is_at (key_cmp q) k ≡ false
other_kind k q out = grind (arith, nat_tests)

none_map : {X : Type 0} (row : X → Row) (q : Key) → ((x : X) → is_at (key_cmp q) (row x).0 ≡ false) → (xs : List X) → value_under (map row xs) q ≡ None
none_map row q apart [] = refl
none_map row q apart (x ∷ xs) = ap (λ b. cond b (Some (row x).1) (value_under (map row xs) q)) (apart x) ∙ none_map row q apart xs

none_flat : {X : Type 0} (f : X → List Row) (q : Key) → ((x : X) → value_under (f x) q ≡ None) → (xs : List X) → value_under (flat_map f xs) q ≡ None
none_flat f q apart [] = refl
none_flat f q apart (x ∷ xs) = passed (f x) (flat_map f xs) q (apart x) ∙ none_flat f q apart xs

-- ---- the records of objects, one object after another

is_same : (a b : ℕ) → (a == b) ≡ true → a ≡ b
is_same a b is = grind (arith, nat_tests)

is_above : (a b low : ℕ) → a < low → low ≤ b → (b == a) ≡ false
is_above a b low less up = grind (arith, nat_tests)

module _ (f : Object → List Row) (q : Key) (others : (o : Object) → (o.id == q.a) ≡ false → value_under (f o) q ≡ None) where
  none_later : (os : List Object) (low : ℕ) → q.a < low → RiseFrom low (map id_of os) → value_under (flat_map f os) q ≡ None
  none_later [] low less rise = refl
  none_later (o ∷ os) low less rise =
      let up : low ≤ o.id = rise.0 in
      let next : q.a < o.id + 1 = omega arith in
      passed (f o) (flat_map f os) q (others o (is_above q.a o.id low less up)) ∙ none_later os (o.id + 1) next rise.1

  -- those of the one with the key's first number
  value_flat : (os : List Object) (low : ℕ) → RiseFrom low (map id_of os) → value_under (flat_map f os) q ≡ option_and_then (λ o. value_under (f o) q) (object_numbered q.a os)
  value_flat [] low rise = refl
  value_flat (o ∷ os) low rise = by_test (o.id == q.a) refl (value_flat os (o.id + 1) rise.1) where
    by_test : (b : Bool) → (o.id == q.a) ≡ b → value_under (flat_map f os) q ≡ option_and_then (λ p. value_under (f p) q) (object_numbered q.a os)
        → value_under (f o ++ flat_map f os) q ≡ option_and_then (λ p. value_under (f p) q) (cond b (Some o) (object_numbered q.a os))
    by_test true is more =
        let same : o.id ≡ q.a = is_same o.id q.a is in
        alone (f o) (flat_map f os) q (none_later os (o.id + 1) (omega arith) rise.1)
    by_test false is more = passed (f o) (flat_map f os) q (others o is) ∙ more

object_at_key : (id n : ℕ) (b : Bool) → (n == id) ≡ b → is_at (key_cmp (object_key id)) (object_key n) ≡ b
object_at_key id n true is = grind (arith, nat_tests)
object_at_key id n false is = grind (arith, nat_tests)

abbrev object_bytes : Object → List ℕ
object_bytes o = (object_row o).1

object_under : (os : List Object) (id : ℕ) → value_under (map object_row os) (object_key id) ≡ option_map object_bytes (object_numbered id os)
object_under [] id = refl
object_under (o ∷ os) id =
    ap (λ b. cond b (Some (object_bytes o)) (value_under (map object_row os) (object_key id))) (object_at_key id o.id (o.id == id) refl) ∙ by_test (o.id == id) (object_under os id) where
      by_test : (b : Bool) → value_under (map object_row os) (object_key id) ≡ option_map object_bytes (object_numbered id os)
          → cond b (Some (object_bytes o)) (value_under (map object_row os) (object_key id)) ≡ option_map object_bytes (cond b (Some o) (object_numbered id os))
      by_test true more = refl
      by_test false more = more

other_version : (id number other n : ℕ) → (other == id) ≡ false → is_at (key_cmp (version_key id number)) (version_key other n) ≡ false
other_version id number other n apart = grind (arith, nat_tests)

other_activation : (id number other n : ℕ) → (other == id) ≡ false → is_at (key_cmp (activation_key id number)) (activation_key other n) ≡ false
other_activation id number other n apart = grind (arith, nat_tests)

second_number : (q : Key) (id : ℕ) → (q.b == 0) ≡ false → is_at (key_cmp q) (object_key id) ≡ false
second_number q id out = grind (arith, nat_tests)

-- ---- the records of a stored database

pub six : (c : Row) (r2 r3 r4 r5 r6 r7 r8 r9 r10 : List Row)
    → (c ∷ r2 ++ r3 ++ r4 ++ r5 ++ r6 ++ r7 ++ r8 ++ r9 ++ r10) ≡ (c ∷ ((r2 ++ (r3 ++ (r4 ++ r5))) ++ (r6 ++ (r7 ++ (r8 ++ (r9 ++ r10))))))
six c r2 r3 r4 r5 r6 r7 r8 r9 r10 = simp append_assoc

-- those of classes
abbrev pub class_rows : (ℕ → ℕ → Table) → List Declared → List Row
class_rows tables classes = map head_row classes ++ (flat_map text_rows classes ++ (flat_map (table_heads tables) classes ++ flat_map (table_rows tables) classes))

-- and behind them those of fields that were added to these
abbrev pub declared_rows : (ℕ → ℕ → Table) → List Declared → List Added → List Row
declared_rows tables classes added = class_rows tables classes ++ flat_map (λ (c : Declared). map (added_row classes) (added_to c.class.number added)) classes

no_class : (tables : ℕ → ℕ → Table) (classes : List Declared) (q : Key) → (2 == q.kind) ≡ false → (3 == q.kind) ≡ false → (4 == q.kind) ≡ false → (5 == q.kind) ≡ false
    → value_under (class_rows tables classes) q ≡ None
no_class tables classes q a2 a3 a4 a5 =
    passed (map head_row classes) (flat_map text_rows classes ++ (flat_map (table_heads tables) classes ++ flat_map (table_rows tables) classes)) q
    (none_map head_row q (λ c. other_kind (head_row c).0 q a2) classes)
    ∙ passed (flat_map text_rows classes) (flat_map (table_heads tables) classes ++ flat_map (table_rows tables) classes) q
    (none_flat text_rows q (λ (c : Declared). none_map (text_row c.class.number) q (λ piece. other_kind (text_row c.class.number piece).0 q a3) (pieces_of (decl_text c.tree))) classes)
    ∙ passed (flat_map (table_heads tables) classes) (flat_map (table_rows tables) classes) q
    (none_flat (table_heads tables) q
    (λ (c : Declared). none_map (λ (place : ℕ). table_head c.class.number place (tables c.class.number place)) q (λ place. other_kind (table_head c.class.number place (tables c.class.number place)).0 q a4) (places_of c))
    classes)
    ∙ none_flat (table_rows tables) q
    (λ (c : Declared). none_flat (λ (place : ℕ). table_pieces c.class.number place (tables c.class.number place)) q
    (λ place. none_map (table_row c.class.number place) q (λ piece. other_kind (table_row c.class.number place piece).0 q a5) (pieces_of (table_bytes (tables c.class.number place)))) (places_of c)) classes

module _ (s : Stored) (q : Key) where
  abbrev b : Bones
  b = s.world.bones

  abbrev classes : List Row
  classes = class_rows s.tables b.classes

  abbrev objects : List Row
  objects = map object_row b.objects

  abbrev versions : List Row
  versions = flat_map (version_rows b.classes) b.objects

  abbrev activations : List Row
  activations = flat_map (activation_rows s.world) b.objects

  abbrev entries : List Row
  entries = map entry_row b.queue

  -- those of added fields
  abbrev added : List Row
  added = flat_map (added_rows b) b.classes

  abbrev last : List Row
  last = entries ++ added

  no_objects : (6 == q.kind) ≡ false → value_under objects q ≡ None
  no_objects a6 = none_map object_row q (λ o. other_kind (object_row o).0 q a6) b.objects

  no_versions : (7 == q.kind) ≡ false → value_under versions q ≡ None
  no_versions a7 =
      none_flat (version_rows b.classes) q
      (λ (o : Object). none_map (version_row o.id (fields_of b.classes o.class)) q (λ v. other_kind (version_row o.id (fields_of b.classes o.class) v).0 q a7) o.versions) b.objects

  no_activations : (8 == q.kind) ≡ false → value_under activations q ≡ None
  no_activations a8 =
      none_flat (activation_rows s.world) q
      (λ (o : Object). none_map (λ (a : Activation). activation_row o.id (state_of s.world o.id a.number) a) q (λ a. other_kind (activation_row o.id (state_of s.world o.id a.number) a).0 q a8) o.activations) b.objects

  no_entries : (9 == q.kind) ≡ false → value_under entries q ≡ None
  no_entries a9 = none_map entry_row q (λ e. other_kind (entry_row e).0 q a9) b.queue

  no_added : (10 == q.kind) ≡ false → value_under added q ≡ None
  no_added a10 = none_flat (added_rows b) q (λ (c : Declared). none_map (added_row b.classes) q (λ a. other_kind (added_row b.classes a).0 q a10) (added_to c.class.number b.added)) b.classes

  no_last : (9 == q.kind) ≡ false → (10 == q.kind) ≡ false → value_under last q ≡ None
  no_last a9 a10 = passed entries added q (no_entries a9) ∙ no_added a10

  -- behind the counters
  behind : value_under (rows s) q ≡ value_under (counters_row b ∷ (classes ++ (objects ++ (versions ++ (activations ++ last))))) q
  behind =
      ap (λ (es : Entries). value_under es q)
      (six (counters_row b) (map head_row b.classes) (flat_map text_rows b.classes) (flat_map (table_heads s.tables) b.classes) (flat_map (table_rows s.tables) b.classes) objects versions activations entries added)

  not_first : (1 == q.kind) ≡ false → (es : Entries) → value_under (counters_row b ∷ es) q ≡ value_under es q
  not_first a1 es = ap (λ t. cond t (Some (counters_row b).1) (value_under es q)) (other_kind counters_key q a1)

  -- of other kinds there are those of classes and of added fields
  pub class_stands : (1 == q.kind) ≡ false → (6 == q.kind) ≡ false → (7 == q.kind) ≡ false → (8 == q.kind) ≡ false → (9 == q.kind) ≡ false
      → value_under (rows s) q ≡ value_under (declared_rows s.tables b.classes b.added) q
  class_stands a1 a6 a7 a8 a9 =
      behind ∙ not_first a1 (classes ++ (objects ++ (versions ++ (activations ++ last))))
      ∙ value_append classes (objects ++ (versions ++ (activations ++ last))) q
      ∙ ap (or_else (value_under classes q))
      (passed objects (versions ++ (activations ++ last)) q (no_objects a6) ∙ passed versions (activations ++ last) q (no_versions a7) ∙ passed activations last q (no_activations a8)
      ∙ passed entries added q (no_entries a9))
      ∙ sym (value_append classes added q)

  module _ (k : ℕ) (is : q.kind ≡ k) where
    apart : (n : ℕ) → (n == k) ≡ false → (n == q.kind) ≡ false
    apart n out = ap (λ m. n == m) is ∙ out

    no_classes : (2 == k) ≡ false → (3 == k) ≡ false → (4 == k) ≡ false → (5 == k) ≡ false → value_under classes q ≡ None
    no_classes a2 a3 a4 a5 = no_class s.tables b.classes q (apart 2 a2) (apart 3 a3) (apart 4 a4) (apart 5 a5)

  pub counters_stand : q.kind ≡ 1 → value_under (rows s) q ≡ value_under (counters_row b ∷ []) q
  counters_stand is =
      behind ∙ ap (λ (m : Value). cond (is_at (key_cmp q) counters_key) (Some (counters_row b).1) m)
      (passed classes (objects ++ (versions ++ (activations ++ last))) q (no_classes 1 is refl refl refl refl)
      ∙ passed objects (versions ++ (activations ++ last)) q (no_objects (apart 1 is 6 refl)) ∙ passed versions (activations ++ last) q (no_versions (apart 1 is 7 refl))
      ∙ passed activations last q (no_activations (apart 1 is 8 refl)) ∙ no_last (apart 1 is 9 refl) (apart 1 is 10 refl))

  pub objects_stand : q.kind ≡ 6 → value_under (rows s) q ≡ value_under objects q
  objects_stand is =
      behind ∙ not_first (apart 6 is 1 refl) (classes ++ (objects ++ (versions ++ (activations ++ last))))
      ∙ passed classes (objects ++ (versions ++ (activations ++ last))) q (no_classes 6 is refl refl refl refl)
      ∙ alone objects (versions ++ (activations ++ last)) q
      (passed versions (activations ++ last) q (no_versions (apart 6 is 7 refl)) ∙ passed activations last q (no_activations (apart 6 is 8 refl)) ∙ no_last (apart 6 is 9 refl) (apart 6 is 10 refl))

  versions_stand : q.kind ≡ 7 → value_under (rows s) q ≡ value_under versions q
  versions_stand is =
      behind ∙ not_first (apart 7 is 1 refl) (classes ++ (objects ++ (versions ++ (activations ++ last))))
      ∙ passed classes (objects ++ (versions ++ (activations ++ last))) q (no_classes 7 is refl refl refl refl)
      ∙ passed objects (versions ++ (activations ++ last)) q (no_objects (apart 7 is 6 refl))
      ∙ alone versions (activations ++ last) q (passed activations last q (no_activations (apart 7 is 8 refl)) ∙ no_last (apart 7 is 9 refl) (apart 7 is 10 refl))

  activations_stand : q.kind ≡ 8 → value_under (rows s) q ≡ value_under activations q
  activations_stand is =
      behind ∙ not_first (apart 8 is 1 refl) (classes ++ (objects ++ (versions ++ (activations ++ last))))
      ∙ passed classes (objects ++ (versions ++ (activations ++ last))) q (no_classes 8 is refl refl refl refl)
      ∙ passed objects (versions ++ (activations ++ last)) q (no_objects (apart 8 is 6 refl)) ∙ passed versions (activations ++ last) q (no_versions (apart 8 is 7 refl))
      ∙ alone activations last q (no_last (apart 8 is 9 refl) (apart 8 is 10 refl))

  pub entry_stands : q.kind ≡ 9 → value_under (rows s) q ≡ value_under entries q
  entry_stands is =
      behind ∙ not_first (apart 9 is 1 refl) (classes ++ (objects ++ (versions ++ (activations ++ last))))
      ∙ passed classes (objects ++ (versions ++ (activations ++ last))) q (no_classes 9 is refl refl refl refl)
      ∙ passed objects (versions ++ (activations ++ last)) q (no_objects (apart 9 is 6 refl)) ∙ passed versions (activations ++ last) q (no_versions (apart 9 is 7 refl))
      ∙ passed activations last q (no_activations (apart 9 is 8 refl)) ∙ alone entries added q (no_added (apart 9 is 10 refl))

  -- no object's key has a second number
  pub no_object : q.kind ≡ 6 → (q.b == 0) ≡ false → value_under (rows s) q ≡ None
  no_object is second = objects_stand is ∙ none_map object_row q (λ o. second_number q o.id second) b.objects

module _ (s : Stored) where
  pub object_stands : (id : ℕ) → value_under (rows s) (object_key id) ≡ option_map object_bytes (object_numbered id s.world.bones.objects)
  object_stands id = objects_stand s (object_key id) refl ∙ object_under s.world.bones.objects id

  module _ (rising : RiseFrom 0 (map id_of s.world.bones.objects)) (id n : ℕ) where
    pub version_stands : value_under (rows s) (version_key id n) ≡ option_and_then (λ (o : Object). value_under (version_rows s.world.bones.classes o) (version_key id n)) (object_numbered id s.world.bones.objects)
    version_stands =
        versions_stand s (version_key id n) refl
        ∙ value_flat (version_rows s.world.bones.classes) (version_key id n)
        (λ o apart. none_map (version_row o.id (fields_of s.world.bones.classes o.class)) (version_key id n) (λ v. other_version id n o.id v.number apart) o.versions) s.world.bones.objects 0 rising

    pub activation_stands : value_under (rows s) (activation_key id n) ≡ option_and_then (λ (o : Object). value_under (activation_rows s.world o) (activation_key id n)) (object_numbered id s.world.bones.objects)
    activation_stands =
        activations_stand s (activation_key id n) refl
        ∙ value_flat (activation_rows s.world) (activation_key id n)
        (λ o apart. none_map (λ (a : Activation). activation_row o.id (state_of s.world o.id a.number) a) (activation_key id n) (λ a. other_activation id n o.id a.number apart) o.activations) s.world.bones.objects 0 rising
