-- The records of a world weigh what is counted of it, less what its stored tables are smaller than the counted ones.
use Rattle.std.proofs.Common.{◌≡◌, ℕ, zero, suc, ◌+◌, ◌-◌, ◌*◌, ◌<◌, ◌≤◌, min, List, [], ◌∷◌, ◌++◌, map, length, drop, Bool, true, false, cond, Option, Some, None, refl, sym, ap, ◌∙◌, arith, length-append, length-drop}
use Rattle.std.specs.Prelude.{◌==◌}
use Rattle.std.specs.List.{AllByRecursion, enumerate_from, flat_map, range_with_len, sum_by}
use Rattle.std.specs.Option.{IsSome, unwrap_or}
use Rattle.std.proofs.lemmas.Bool.{eqb-true}
use Rattle.std.proofs.lemmas.Bool.Decides.{nat_tests}
use Rattle.std.proofs.lemmas.List.{length-take, map-append}
use Rattle.std.proofs.lemmas.List.Sums.{sum_by-append, sum_by-cons}
use Rattle.std.proofs.lemmas.Nat.{mul-le}
use Rattle.ode_codec.specs.Standing.{HasTables, IsTableOf}
use Rattle.ode_codec.specs.StoredRows.{activation_row, activation_rows, added_row, counters_row, head_row, object_row, piece_of, pieces_of, referred, sort_number, state_of, table_bytes, table_head, table_heads, table_pieces, table_row, table_rows, text_row, text_rows, u16, u32, u64, version_rows}
use Rattle.ode_keep.specs.Entries.{Entries}
use Rattle.ode_opening.specs.Building.{triggers_of}
use Rattle.ode_opening_laws.specs.Holding.{class_of, class_rows, stored_tables}
use Rattle.ode_opening_laws.proofs.BornOnce.{blocks}
use Rattle.ode_opening_laws.proofs.Sized.{IsSized, IsSizedAt}
use Rattle.ode_opening_laws.proofs.Storable.{IsStorable}
use Rattle.ode_opening_tables.specs.Tables.{all_triggers, spare_in, spare_of}
use Rattle.ode_value.proofs.LengthLaws.{length-stamp}
use Rattle.ode_value.specs.Changing.{added_to}
use Rattle.ode_value.specs.Classes.{Trigger, own_triggers, trigger_of}
use Rattle.ode_value.specs.Fields.{born_values, fields_of}
use Rattle.ode_value.specs.GoodWorlds.{AreAdded, RiseFrom}
use Rattle.ode_value.specs.Lengths.{activation_length, counters_length, key_length, piece_count, pieces_length, table_length, trigger_length, value_length, version_length}
use Rattle.ode_value.specs.Limits.{value_limit}
use Rattle.ode_value.specs.Objects.{Activation}
use Rattle.ode_value.specs.PrintedClasses.{decl_text}
use Rattle.ode_value.specs.Records.{Row, byte, clock_bytes, row_weight, spelled_value, stamp_bytes, total_weight, version_row}
use Rattle.ode_value.specs.Symbols.{symbol_count}
use Rattle.ode_value.specs.Tables.{Table}
use Rattle.ode_value.specs.TreeCount.{tree_count}
use Rattle.ode_value.specs.Versions.{Version}
use Rattle.ode_value.specs.Weights.{activation_weight, added_weight, class_weight, object_weight, trigger_weight, version_weight}
use Rattle.ode_value.specs.Worlds.{Bones, Declared, Object, Position, World, class_numbered}
use Rattle.ode_value.specs.declared.change.Added.{Added}
use Rattle.ode_value.specs.declared.class.Field.{Field}
use Rattle.ode_value.specs.declared.member.TriggerDecl.{TriggerDecl}
use Rattle.ode_value.specs.declared.value.Value.{Value}

pub weight_append : (es ds : Entries) → total_weight (es ++ ds) ≡ total_weight es + total_weight ds
weight_append [] ds = omega arith
weight_append (e ∷ es) ds = let more = weight_append es ds in omega arith

-- ---- the counters

pub counters_weigh : (b : Bones) → row_weight (counters_row b) ≡ counters_length (length b.added)
counters_weigh b =
    let first = u64 b.next ++ u64 b.transaction ++ u64 b.next_entry ++ clock_bytes b.clock in
    let long : length first ≡ 45 = by b.clock in
    omega (arith, long, length-append first (stamp_bytes (length b.added)), length-stamp (length b.added))
  where
    by : (clock : Option Position) → length (u64 b.next ++ u64 b.transaction ++ u64 b.next_entry ++ clock_bytes clock) ≡ 45
    by None = refl
    by (Some p) = refl

-- ---- pieces

-- a piece and what is left behind it
piece_left : (n i : ℕ) → min value_limit (n - i * value_limit) + (n - (i + 1) * value_limit) ≡ n - i * value_limit
unfolding value_limit
piece_left n i = omega arith

none_left : (n i : ℕ) → 0 ≡ piece_count (n - i * value_limit) → n - i * value_limit ≡ 0
unfolding value_limit
none_left n i is = omega arith

count_next : (n i c : ℕ) → suc c ≡ piece_count (n - i * value_limit) → c ≡ piece_count (n - (i + 1) * value_limit)
unfolding value_limit
count_next n i c is = omega arith

all_left : (n : ℕ) → n - 0 * value_limit ≡ n
unfolding value_limit
all_left n = omega arith

-- the records of the pieces of some bytes, under keys of any kind
module _ (row : ℕ × List ℕ → Row) (same : (piece : ℕ × List ℕ) → (row piece).1 ≡ piece.1) (bytes : List ℕ) where
  pieces_from : (i count : ℕ) → count ≡ piece_count (length bytes - i * value_limit)
      → total_weight (map row (map (piece_of bytes) (range_with_len i count))) ≡ key_length * count + (length bytes - i * value_limit)
  pieces_from i zero is = let none = none_left (length bytes) i is in omega arith
  pieces_from i (suc n) is =
      let more = pieces_from (i + 1) n (count_next (length bytes) i n is) in
      let long : length (row (piece_of bytes i)).1 ≡ min value_limit (length bytes - i * value_limit) =
      ap length (same (piece_of bytes i)) ∙ length-take value_limit (drop (i * value_limit) bytes) ∙ ap (min value_limit) (length-drop (i * value_limit) bytes) in
      let split = piece_left (length bytes) i in
      omega (arith, more, long, split)

  pieces_weigh : total_weight (map row (pieces_of bytes)) ≡ pieces_length (length bytes)
  pieces_weigh =
      let all = all_left (length bytes) in
      let count : piece_count (length bytes) ≡ piece_count (length bytes - 0 * value_limit) = ap piece_count (sym all) in
      let weighs = pieces_from 0 (piece_count (length bytes)) count in
      omega (arith, all, weighs)

-- ---- a class without its tables

head_weighs : (d : Declared) → row_weight (head_row d) ≡ key_length + (11 + length d.class.name)
head_weighs d =
    omega (
      arith,
      length-append (byte (length d.class.name) ++ d.class.name ++ u32 (unwrap_or d.class.parent 0) ++ u32 (length (decl_text d.tree))) (u16 (length d.class.triggers)),
      length-append (byte (length d.class.name) ++ d.class.name ++ u32 (unwrap_or d.class.parent 0)) (u32 (length (decl_text d.tree))),
      length-append (byte (length d.class.name) ++ d.class.name) (u32 (unwrap_or d.class.parent 0)),
      length-append (byte (length d.class.name)) d.class.name,
    )

texts_weigh : (d : Declared) → total_weight (text_rows d) ≡ pieces_length (length (decl_text d.tree))
texts_weigh d = pieces_weigh (text_row d.class.number) (λ piece. refl) (decl_text d.tree)

-- ---- a table

-- one of fewer states weighs less
fewer_pieces : (m n : ℕ) → m ≤ n → piece_count m ≤ piece_count n
unfolding value_limit
fewer_pieces m n le = omega (arith, le)

fewer_states : (s t symbols : ℕ) → s ≤ t → trigger_length s symbols ≤ trigger_length t symbols
fewer_states s t symbols le =
    let product : s * symbols ≤ t * symbols = mul-le s symbols t symbols le (omega arith) in
    let bytes : table_length s symbols ≤ table_length t symbols = omega (arith, product, le) in
    let pieces = fewer_pieces (table_length s symbols) (table_length t symbols) bytes in
    omega (arith, bytes, pieces)

module _ (tables : ℕ → ℕ → Table) where
  -- a trigger's table with what it is smaller than the counted one
  with_spare : (t : Trigger) → IsTableOf tables t
      → trigger_length (tables t.class t.place).states (tables t.class t.place).symbols + spare_of t.decl (tables t.class t.place) ≡ trigger_weight t.decl
  with_spare t is =
      let table = tables t.class t.place in
      let symbols : table.symbols ≡ symbol_count t.decl.event = is.means.symbols in
      let less : trigger_length table.states (symbol_count t.decl.event) ≤ trigger_weight t.decl = fewer_states table.states (tree_count t.decl.event) (symbol_count t.decl.event) is.small in
      let own : trigger_length table.states table.symbols ≡ trigger_length table.states (symbol_count t.decl.event) = ap (trigger_length table.states) symbols in
      omega (arith, less, own)

  table_weighs : (class place : ℕ) → IsSized (tables class place)
      → row_weight (table_head class place (tables class place)) + total_weight (table_pieces class place (tables class place))
      ≡ trigger_length (tables class place).states (tables class place).symbols
  table_weighs class place is =
      let t = tables class place in
      let pieces : total_weight (table_pieces class place t) ≡ pieces_length (length (table_bytes t)) = pieces_weigh (table_row class place) (λ piece. refl) (table_bytes t) in
      let bytes : pieces_length (length (table_bytes t)) ≡ pieces_length (table_length t.states t.symbols) = ap pieces_length is.bytes in
      let head : length (u16 t.states ++ byte t.symbols) ≡ 3 = length-append (u16 t.states) (byte t.symbols) in
      omega (arith, pieces, bytes, head)

  -- the tables of a class, from a place on
  abbrev heads_from : ℕ → ℕ → ℕ → Entries
  heads_from class first count = map (λ place. table_head class place (tables class place)) (range_with_len first count)

  abbrev tables_from : ℕ → ℕ → ℕ → Entries
  tables_from class first count = flat_map (λ place. table_pieces class place (tables class place)) (range_with_len first count)

  abbrev table_of : Trigger → Table
  table_of t = tables t.class t.place

  abbrev own_from : ℕ → ℕ → List TriggerDecl → List Table
  own_from class first ts = map table_of (map (trigger_of class) (enumerate_from first ts))

  tables_weigh : (class first : ℕ) (ts : List TriggerDecl) → AllByRecursion (IsTableOf tables) (map (trigger_of class) (enumerate_from first ts)) → AllByRecursion (IsSizedAt tables class) (range_with_len first (length ts))
      → total_weight (heads_from class first (length ts)) + total_weight (tables_from class first (length ts)) + spare_in ts (own_from class first ts) ≡ sum_by trigger_weight ts
  tables_weigh class first [] mean sized = refl
  tables_weigh class first (t ∷ ts) mean sized =
      omega (
        arith,
        with_spare (trigger_of class (first, t)) mean.0,
        table_weighs class first sized.0.sized,
        tables_weigh class (first + 1) ts mean.1 sized.1,
        weight_append (table_pieces class first (tables class first)) (tables_from class (first + 1) (length ts)),
        sum_by-cons trigger_weight t ts,
      )

  -- ---- all classes

  own_many : (class first : ℕ) (ts : List TriggerDecl) → length (own_from class first ts) ≡ length ts
  own_many class first [] = refl
  own_many class first (t ∷ ts) = ap suc (own_many class (first + 1) ts)

  spare_append : (ts us : List TriggerDecl) (xs ys : List Table) → length xs ≡ length ts → spare_in (ts ++ us) (xs ++ ys) ≡ spare_in ts xs + spare_in us ys
  spare_append [] us [] ys long = omega arith
  spare_append [] us (x ∷ xs) ys long = absurd (omega (arith, long))
  spare_append (t ∷ ts) us [] ys long = absurd (omega (arith, long))
  spare_append (t ∷ ts) us (x ∷ xs) ys long = omega (arith, spare_append ts us xs ys (omega (arith, long)))

  spare_more : (d : Declared) (ds : List Declared)
      → spare_in (triggers_of (map class_of (d ∷ ds))) (stored_tables tables (d ∷ ds))
      ≡ spare_in d.class.triggers (own_from d.class.number 0 d.class.triggers) + spare_in (triggers_of (map class_of ds)) (stored_tables tables ds)
  spare_more d ds =
      ap (spare_in (d.class.triggers ++ triggers_of (map class_of ds))) (map-append table_of (own_triggers d.class) (all_triggers (map class_of ds)))
      ∙ spare_append d.class.triggers (triggers_of (map class_of ds)) (own_from d.class.number 0 d.class.triggers) (stored_tables tables ds) (own_many d.class.number 0 d.class.triggers)

  class_weighs : (d : Declared) → HasTables tables d → IsStorable tables d
      → row_weight (head_row d) + total_weight (text_rows d) + total_weight (table_heads tables d) + total_weight (table_rows tables d)
      + spare_in d.class.triggers (own_from d.class.number 0 d.class.triggers) ≡ class_weight d
  class_weighs d mean is = omega (arith, head_weighs d, texts_weigh d, tables_weigh d.class.number 0 d.class.triggers mean is.sized)

  -- kind by kind
  abbrev kinds_weight : List Declared → ℕ
  kinds_weight ds = total_weight (map head_row ds) + total_weight (flat_map text_rows ds) + total_weight (flat_map (table_heads tables) ds) + total_weight (flat_map (table_rows tables) ds)

  kinds_weigh : (ds : List Declared) → AllByRecursion (HasTables tables) ds → AllByRecursion (IsStorable tables) ds
      → kinds_weight ds + spare_in (triggers_of (map class_of ds)) (stored_tables tables ds) ≡ sum_by class_weight ds
  kinds_weigh [] mean all = refl
  kinds_weigh (d ∷ ds) mean all =
      omega (
        arith,
        class_weighs d mean.0 all.0,
        kinds_weigh ds mean.1 all.1,
        spare_more d ds,
        weight_append (text_rows d) (flat_map text_rows ds),
        weight_append (table_heads tables d) (flat_map (table_heads tables) ds),
        weight_append (table_rows tables d) (flat_map (table_rows tables) ds),
        sum_by-cons class_weight d ds,
      )

  pub classes_weigh : (ds : List Declared) → AllByRecursion (HasTables tables) ds → AllByRecursion (IsStorable tables) ds
      → total_weight (class_rows tables ds) + spare_in (triggers_of (map class_of ds)) (stored_tables tables ds) ≡ sum_by class_weight ds
  classes_weigh ds mean all =
      let heads = map head_row ds in
      let texts = flat_map text_rows ds in
      omega (
        arith,
        kinds_weigh ds mean all,
        weight_append (heads ++ texts ++ flat_map (table_heads tables) ds) (flat_map (table_rows tables) ds),
        weight_append (heads ++ texts) (flat_map (table_heads tables) ds),
        weight_append heads texts,
      )

-- ---- objects

module _ (acts_weigh : (id state : ℕ) (a : Activation) → row_weight (activation_row id state a) ≡ activation_length a.args)
    (weighs : (id : ℕ) (fields : List Field) (v : Version) → row_weight (version_row id fields v) ≡ version_length v.stamp (born_values v.stamp fields v.fields)) (w : World (Unit {0}) ℕ) where
  activations_weigh : (id : ℕ) (acts : List Activation) → total_weight (map (λ (a : Activation). activation_row id (state_of w id a.number) a) acts) ≡ sum_by activation_weight acts
  activations_weigh id [] = refl
  activations_weigh id (a ∷ acts) = omega (arith, acts_weigh id (state_of w id a.number) a, activations_weigh id acts, sum_by-cons activation_weight a acts)

  versions_weigh : (id : ℕ) (fields : List Field) (vs : List Version) → total_weight (map (version_row id fields) vs) ≡ sum_by (version_weight fields) vs
  versions_weigh id fields [] = refl
  versions_weigh id fields (v ∷ vs) = omega (arith, weighs id fields v, versions_weigh id fields vs, sum_by-cons (version_weight fields) v vs)

  pub objects_weigh : (cs : List Declared) (os : List Object)
      → total_weight (map object_row os) + total_weight (flat_map (version_rows cs) os) + total_weight (flat_map (activation_rows w) os) ≡ sum_by (object_weight cs) os
  objects_weigh cs [] = refl
  objects_weigh cs (o ∷ os) =
      omega (
        arith,
        versions_weigh o.id (fields_of cs o.class) o.versions,
        activations_weigh o.id o.activations,
        weight_append (version_rows cs o) (flat_map (version_rows cs) os),
        weight_append (activation_rows w o) (flat_map (activation_rows w) os),
        objects_weigh cs os,
        sum_by-cons (object_weight cs) o os,
      )

-- ---- added fields

module _ (weighs : (v : Value) → length (spelled_value v) ≡ value_length v) (classes : List Declared) where
  field_weighs : (a : Added) → row_weight (added_row classes a) ≡ added_weight a
  field_weighs a =
      let name = byte (length a.name) ++ a.name in
      omega (
        arith,
        weighs a.value,
        length-append (name ++ byte (sort_number a.sort) ++ u32 (referred classes a.sort)) (spelled_value a.value),
        length-append (name ++ byte (sort_number a.sort)) (u32 (referred classes a.sort)),
        length-append name (byte (sort_number a.sort)),
        length-append (byte (length a.name)) a.name,
      )

  rows_weigh : (xs : List Added) → total_weight (map (added_row classes) xs) ≡ sum_by added_weight xs
  rows_weigh [] = refl
  rows_weigh (a ∷ xs) = omega (arith, field_weighs a, rows_weigh xs, sum_by-cons added_weight a xs)

sum_append : (xs ys : List Added) → sum_by added_weight (xs ++ ys) ≡ sum_by added_weight xs + sum_by added_weight ys
sum_append xs ys = sum_by-append added_weight xs ys

turned : (m n : ℕ) → (m == n) ≡ (n == m)
turned m n = grind (arith, nat_tests)

above : (class n : ℕ) → class < n → (class == n) ≡ false
above class n less = grind (arith, nat_tests, less)

-- class by class a field counts once, where its class is there
module _ (a : Added) (xs : List Added) where
  -- those of a class
  abbrev own : Declared → List Added
  own d = added_to d.class.number xs

  abbrev summed : List Added → List Declared → ℕ
  summed ys ds = sum_by added_weight (blocks ys ds)

  none_more : (low : ℕ) (ds : List Declared) → a.class < low → RiseFrom low (map (λ (d : Declared). d.class.number) ds) → summed (a ∷ xs) ds ≡ summed xs ds
  none_more low [] less rising = refl
  none_more low (d ∷ ds) less rising =
      ap (λ (b : Bool). sum_by added_weight (cond b (a ∷ own d) (own d) ++ blocks (a ∷ xs) ds)) (above a.class d.class.number (omega (arith, less, rising.0)))
      ∙ sum_append (own d) (blocks (a ∷ xs) ds)
      ∙ ap (λ (n : ℕ). sum_by added_weight (own d) + n) (none_more (d.class.number + 1) ds (omega (arith, less, rising.0)) rising.1)
      ∙ sym (sum_append (own d) (blocks xs ds))

  one_more : (low : ℕ) (ds : List Declared) → RiseFrom low (map (λ (d : Declared). d.class.number) ds) → IsSome (class_numbered a.class ds) → summed (a ∷ xs) ds ≡ added_weight a + summed xs ds
  one_more low [] rising some = absurd (cc (some))
  one_more low (d ∷ ds) rising some =
      ap (λ (b : Bool). sum_by added_weight (cond b (a ∷ own d) (own d) ++ blocks (a ∷ xs) ds)) (turned a.class d.class.number)
      ∙ by (d.class.number == a.class) refl some (λ there. one_more (d.class.number + 1) ds rising.1 there)
    where
      by : (b : Bool) → (d.class.number == a.class) ≡ b → IsSome (cond b (Some d.class) (class_numbered a.class ds))
          → (IsSome (class_numbered a.class ds) → summed (a ∷ xs) ds ≡ added_weight a + summed xs ds)
          → sum_by added_weight (cond b (a ∷ own d) (own d) ++ blocks (a ∷ xs) ds) ≡ added_weight a + sum_by added_weight (own d ++ blocks xs ds)
      by true is some behind =
          let same : d.class.number ≡ a.class = eqb-true d.class.number a.class is in
          let rest = none_more (d.class.number + 1) ds (omega (arith, same)) rising.1 in
          omega (arith, rest, sum_by-cons added_weight a (own d ++ blocks (a ∷ xs) ds), sum_append (own d) (blocks (a ∷ xs) ds), sum_append (own d) (blocks xs ds))
      by false is some behind = omega (arith, behind some, sum_append (own d) (blocks (a ∷ xs) ds), sum_append (own d) (blocks xs ds))

none_weigh : (ds : List Declared) → sum_by added_weight (blocks [] ds) ≡ 0
none_weigh [] = refl
none_weigh (d ∷ ds) = none_weigh ds

blocks_weigh : (classes : List Declared) (birth : ℕ) (xs : List Added) → AreAdded classes birth xs → RiseFrom 0 (map (λ (d : Declared). d.class.number) classes)
    → sum_by added_weight (blocks xs classes) ≡ sum_by added_weight xs
blocks_weigh classes birth [] are rising = none_weigh classes
blocks_weigh classes birth (a ∷ xs) are rising =
    omega (arith, one_more a xs 0 classes rising are.1.class, blocks_weigh classes (birth + 1) xs are.2 rising, sum_by-cons added_weight a xs)

pub fields_weigh : (weighs : (v : Value) → length (spelled_value v) ≡ value_length v) (classes : List Declared) (added : List Added) → AreAdded classes 1 added
    → RiseFrom 0 (map (λ (d : Declared). d.class.number) classes) → total_weight (map (added_row classes) (blocks added classes)) ≡ sum_by added_weight added
fields_weigh weighs classes added are rising = rows_weigh weighs classes (blocks added classes) ∙ blocks_weigh classes 1 added are rising
