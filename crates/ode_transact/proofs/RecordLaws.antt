-- The records that hold a world aren't too many bytes for a keeper.
use Rattle.std.proofs.Common.{◌≡◌, ◌≤◌, ◌∙◌, ℕ, zero, suc, ◌+◌, ◌-◌, ◌*◌, List, [], ◌∷◌, ◌++◌, map, length, take, drop, Option, Some, None, refl, sym, ap, subst, arith, length-append}
use Rattle.std.specs.List.{AllByRecursion, enumerate_from, flat_map, range_with_len, sum_by}
use Rattle.std.specs.Option.{unwrap_or}
use Rattle.std.proofs.lemmas.List.{length-drop, length-map, length-take}
use Rattle.std.proofs.lemmas.List.Sums.{sum_by-cons}
use Rattle.std.proofs.lemmas.Nat.{mul-le}
use Rattle.ode_codec.specs.Standing.{HasTables, HoldsWorld, IsTableOf, IsWhole}
use Rattle.ode_codec.specs.StoredRows.{Stored, activation_row, activation_rows, added_rows, bit, counters_row, entry_row, head_row, object_row, piece_of, pieces_of, rows, state_of, table_bytes, table_head, table_heads, table_pieces, table_row, table_rows, text_row, text_rows, u16, u32, u64, version_rows}
use Rattle.ode_keep.specs.Entries.{Entries, record_bytes}
use Rattle.ode_keep.specs.declared.limits.TheConstants.{MAX_PAGED_BYTES}
use Rattle.ode_laws.proofs.GoodNumbers.{good_numbered}
use Rattle.ode_laws.specs.Numbered.{AreNumbered}
use Rattle.ode_transact.proofs.AddedWeights.{both_weigh, fields_weigh, value_weighs}
use Rattle.ode_value.proofs.LengthLaws.{length-stamp, length-version}
use Rattle.ode_value.specs.Classes.{Trigger, trigger_at, trigger_of}
use Rattle.ode_value.specs.Fields.{fields_of}
use Rattle.ode_value.specs.Fitting.{HaveTrigger}
use Rattle.ode_value.specs.GoodWorlds.{AreBones, IsEntry}
use Rattle.ode_value.specs.Language.{Language, ListWorld}
use Rattle.ode_value.specs.Lengths.{activation_length, counters_length, key_length, piece_count, pieces_length, record_length, table_length, value_length, values_length}
use Rattle.ode_value.specs.Limits.{args_limit, queue_limit, value_limit, weight_limit}
use Rattle.ode_value.specs.Objects.{Activation}
use Rattle.ode_value.specs.PrintedClasses.{decl_text}
use Rattle.ode_value.specs.Records.{Row, byte, clock_bytes, counted, row_weight, spelled_value, stamp_bytes, total_weight, version_row}
use Rattle.ode_value.specs.Symbols.{symbol_count}
use Rattle.ode_value.specs.Tables.{Table}
use Rattle.ode_value.specs.TreeCount.{tree_count}
use Rattle.ode_value.specs.Versions.{Version}
use Rattle.ode_value.specs.Weights.{activation_weight, added_weight, class_weight, object_weight, trigger_weight, version_weight, weight}
use Rattle.ode_value.specs.Worlds.{Bones, Declared, Entry, Object, Position, World}
use Rattle.ode_value.specs.declared.class.Field.{Field}
use Rattle.ode_value.specs.declared.member.TriggerDecl.{TriggerDecl}
use Rattle.ode_value.specs.declared.value.Value.{Value}

-- ---- values

values_weigh : (vs : List Value) → length (flat_map spelled_value vs) ≡ values_length vs
values_weigh [] = refl
values_weigh (v ∷ vs) = omega (arith, length-append (spelled_value v) (flat_map spelled_value vs), value_weighs v, values_weigh vs, sum_by-cons value_length v vs)

-- ---- pieces

piece_weighs : (bytes : List ℕ) (k : ℕ) → length (take value_limit (drop (k * value_limit) bytes)) + (length bytes - (k + 1) * value_limit) ≡ length bytes - k * value_limit
unfolding value_limit
piece_weighs bytes k =
    let taken = length-take value_limit (drop (k * value_limit) bytes) in
    let left = length-drop (k * value_limit) bytes in
    omega (arith, taken, left)

-- all bytes are in the pieces
whole_in : (n : ℕ) → n ≤ piece_count n * value_limit
unfolding value_limit
whole_in n = omega arith

module _ (row : ℕ × List ℕ → Row) (is : (p : ℕ × List ℕ) → (row p).1 ≡ p.1) (bytes : List ℕ) where
  pieces_from : (k count : ℕ) → length bytes ≤ (k + count) * value_limit → total_weight (map row (map (piece_of bytes) (range_with_len k count))) ≡ key_length * count + (length bytes - k * value_limit)
  unfolding value_limit
  pieces_from k zero whole = omega (arith, whole)
  pieces_from k (suc count) whole =
      let rest = pieces_from (k + 1) count (omega (arith, whole)) in
      let here : length (row (piece_of bytes k)).1 ≡ length (take value_limit (drop (k * value_limit) bytes)) = ap (λ (b : List ℕ). length b) (is (piece_of bytes k)) in
      let piece = piece_weighs bytes k in
      omega (arith, rest, here, piece)

  pieces_weigh : total_weight (map row (pieces_of bytes)) ≡ pieces_length (length bytes)
  unfolding value_limit
  pieces_weigh =
      let whole = whole_in (length bytes) in
      let all = pieces_from 0 (piece_count (length bytes)) (omega (arith, whole)) in
      omega (arith, all)

-- fewer bytes are in fewer pieces
fewer_weigh : (m n : ℕ) → m ≤ n → pieces_length m ≤ pieces_length n
unfolding value_limit
fewer_weigh m n less = omega (arith, less)

-- ---- tables

states_weigh : (ns : List ℕ) → length (flat_map u16 ns) ≡ 2 * length ns
states_weigh [] = refl
states_weigh (n ∷ ns) = let more = states_weigh ns in length-append (u16 n) (flat_map u16 ns) ∙ omega (arith, more)

table_is : (t : Table) → IsWhole t → length (table_bytes t) ≡ table_length t.states t.symbols
table_is t whole =
    let states = states_weigh t.next in
    let bits = length-map t.yes bit in
    let rows = whole.next in
    let answers = whole.yes in
    length-append (flat_map u16 t.next) (map bit t.yes) ∙ omega (arith, states, bits, rows, answers)

-- a table of fewer states is shorter
fewer_states : (n most symbols : ℕ) → n ≤ most → table_length n symbols ≤ table_length most symbols
fewer_states n most symbols less = let cells = mul-le n symbols most symbols less (omega arith) in omega (arith, less, cells)

together : (head pieces own most : ℕ) → head ≡ record_length 3 → pieces ≡ own → own ≤ most → head + 0 + pieces ≤ record_length 3 + most
together head pieces own most first is less = omega (arith, first, is, less)

module _ (tables : ℕ → ℕ → Table) where
  table_weighs : (class place : ℕ) (d : TriggerDecl) → IsTableOf tables (trigger_of class (place, d))
      → total_weight (table_head class place (tables class place) ∷ []) + total_weight (table_pieces class place (tables class place)) ≤ trigger_weight d
  table_weighs class place d is =
      let t = tables class place in
      let own = pieces_length (table_length t.states t.symbols) in
      let most = pieces_length (table_length (tree_count d.event) (symbol_count d.event)) in
      let pieces : total_weight (table_pieces class place t) ≡ own = pieces_weigh (table_row class place) (λ p. refl) (table_bytes t) ∙ ap pieces_length (table_is t is.whole) in
      let less : own ≤ most =
      fewer_weigh (table_length t.states t.symbols) (table_length (tree_count d.event) (symbol_count d.event))
      (subst (λ (n : ℕ). table_length t.states t.symbols ≤ table_length (tree_count d.event) n) is.means.symbols (fewer_states t.states (tree_count d.event) t.symbols is.small)) in
      let head : row_weight (table_head class place t) ≡ record_length 3 = ap record_length (length-append (u16 t.states) (byte t.symbols)) in
      together (row_weight (table_head class place t)) (total_weight (table_pieces class place t)) own most head pieces less

  module _ (class : ℕ) where
    abbrev heads : ℕ → ℕ → List Row
    heads k n = map (λ place. table_head class place (tables class place)) (range_with_len k n)

    abbrev pieces : ℕ → ℕ → List Row
    pieces k n = flat_map (λ place. table_pieces class place (tables class place)) (range_with_len k n)

    tables_weigh : (k : ℕ) (ts : List TriggerDecl) → AllByRecursion (IsTableOf tables) (map (trigger_of class) (enumerate_from k ts))
        → total_weight (heads k (length ts)) + total_weight (pieces k (length ts)) ≤ sum_by trigger_weight ts
    tables_weigh k [] all = omega arith
    tables_weigh k (t ∷ ts) all =
        let one = table_weighs class k t all.0 in
        let rest = tables_weigh (k + 1) ts all.1 in
        let both = both_weigh (table_pieces class k (tables class k)) (pieces (k + 1) (length ts)) in
        let sum = sum_by-cons trigger_weight t ts in
        omega (arith, one, rest, both, sum)

  -- ---- classes

  head_length : (c : Declared) → length (head_row c).1 ≡ 11 + length c.class.name
  head_length c =
      let a = byte (length c.class.name) in
      let p = u32 (unwrap_or c.class.parent 0) in
      let t = u32 (length (decl_text c.tree)) in
      let one = length-append (a ++ c.class.name ++ p ++ t) (u16 (length c.class.triggers)) in
      let two = length-append (a ++ c.class.name ++ p) t in
      let three = length-append (a ++ c.class.name) p in
      let four = length-append a c.class.name in
      omega (arith, one, two, three, four)

  class_weighs : (c : Declared) → HasTables tables c
      → row_weight (head_row c) + total_weight (text_rows c) + (total_weight (table_heads tables c) + total_weight (table_rows tables c)) ≤ class_weight c
  class_weighs c has =
      let text : total_weight (text_rows c) ≡ pieces_length (length (decl_text c.tree)) = pieces_weigh (text_row c.class.number) (λ p. refl) (decl_text c.tree) in
      let own : total_weight (table_heads tables c) + total_weight (table_rows tables c) ≤ sum_by trigger_weight c.class.triggers = tables_weigh c.class.number 0 c.class.triggers has in
      let head = head_length c in
      omega (arith, text, own, head)

  classes_weigh : (cs : List Declared) → AllByRecursion (HasTables tables) cs
      → total_weight (map head_row cs) + total_weight (flat_map text_rows cs) + (total_weight (flat_map (table_heads tables) cs) + total_weight (flat_map (table_rows tables) cs)) ≤ sum_by class_weight cs
  classes_weigh [] has = omega arith
  classes_weigh (c ∷ cs) has =
      let one = class_weighs c has.0 in
      let rest = classes_weigh cs has.1 in
      let texts = both_weigh (text_rows c) (flat_map text_rows cs) in
      let tops = both_weigh (table_heads tables c) (flat_map (table_heads tables) cs) in
      let cells = both_weigh (table_rows tables c) (flat_map (table_rows tables) cs) in
      let sum = sum_by-cons class_weight c cs in
      omega (arith, one, rest, texts, tops, cells, sum)

-- ---- objects

versions_weigh : (id : ℕ) (fields : List Field) (vs : List Version) → total_weight (map (version_row id fields) vs) ≡ sum_by (version_weight fields) vs
versions_weigh id fields [] = refl
versions_weigh id fields (v ∷ vs) = omega (arith, length-version id fields v, versions_weigh id fields vs, sum_by-cons (version_weight fields) v vs)

activation_weighs : (id state : ℕ) (a : Activation) → row_weight (activation_row id state a) ≡ activation_length a.args
activation_weighs id state a =
    omega (arith, length-append (u32 a.class ++ u16 a.trigger ++ u16 state) (counted a.args ++ flat_map spelled_value a.args), length-append (counted a.args) (flat_map spelled_value a.args), values_weigh a.args)

module _ (w : World (Unit {0}) ℕ) where
  activations_weigh : (id : ℕ) (acts : List Activation) → total_weight (map (λ (a : Activation). activation_row id (state_of w id a.number) a) acts) ≡ sum_by activation_weight acts
  activations_weigh id [] = refl
  activations_weigh id (a ∷ acts) = omega (arith, activation_weighs id (state_of w id a.number) a, activations_weigh id acts, sum_by-cons activation_weight a acts)

  objects_weigh : (cs : List Declared) (os : List Object)
      → total_weight (map object_row os) + total_weight (flat_map (version_rows cs) os) + total_weight (flat_map (activation_rows w) os) ≡ sum_by (object_weight cs) os
  objects_weigh cs [] = refl
  objects_weigh cs (o ∷ os) =
      omega (
        arith,
        versions_weigh o.id (fields_of cs o.class) o.versions,
        activations_weigh o.id o.activations,
        both_weigh (version_rows cs o) (flat_map (version_rows cs) os),
        both_weigh (activation_rows w o) (flat_map (activation_rows w) os),
        objects_weigh cs os,
        sum_by-cons (object_weight cs) o os,
      )

-- ---- the queue

args_short : (b : Bones) (args : List Value) (t : Option Trigger) → HaveTrigger b args t → values_length args ≤ args_limit
args_short b args (Some t) has = has.short
args_short b args None has = absurd has

-- an entry's record at most: what comes before its arguments, and these
abbrev longest_entry : ℕ
longest_entry = record_length (16 + args_limit)

entry_weighs : (b : Bones) (q : ℕ × Entry) → IsEntry b q → row_weight (entry_row q) ≤ longest_entry
unfolding args_limit
entry_weighs b (n, e) is =
    let short = args_short b e.args (trigger_at b.classes e.class e.trigger) is.trigger in
    omega (
      arith,
      short,
      length-append (u64 e.object ++ u32 e.class ++ u16 e.trigger ++ byte e.generation) (counted e.args ++ flat_map spelled_value e.args),
      length-append (counted e.args) (flat_map spelled_value e.args),
      values_weigh e.args,
    )

entries_weigh : (b : Bones) (qs : List (ℕ × Entry)) → AllByRecursion (IsEntry b) qs → total_weight (map entry_row qs) ≤ longest_entry * length qs
unfolding args_limit
entries_weigh b [] are = omega arith
entries_weigh b (q ∷ qs) are = omega (arith, entry_weighs b q are.0, entries_weigh b qs are.1)

-- ---- the whole

counters_weigh : (b : Bones) → row_weight (counters_row b) ≡ counters_length (length b.added)
counters_weigh b =
    let first = u64 b.next ++ u64 b.transaction ++ u64 b.next_entry ++ clock_bytes b.clock in
    let long : length first ≡ 45 = by b.clock in
    omega (arith, long, length-append first (stamp_bytes (length b.added)), length-stamp (length b.added))
  where
    by : (clock : Option Position) → length (u64 b.next ++ u64 b.transaction ++ u64 b.next_entry ++ clock_bytes clock) ≡ 45
    by None = refl
    by (Some p) = refl

-- room for all entries of a queue
abbrev pub queue_room : ℕ
queue_room = 4194304

within : (all first classes objects queue added weighed entries : ℕ) → all ≡ first + classes + objects + queue + added → first + classes + objects + added ≤ weighed
    → queue ≤ longest_entry * entries → entries ≤ queue_limit → all ≤ weighed + queue_room
unfolding args_limit queue_limit
within all first classes objects queue added weighed entries is light weighs few = omega (arith, is, light, weighs, few)

module _ (l : Language) (s : Stored) (are : AreBones l s.world.bones) (mean : AllByRecursion (HasTables s.tables) s.world.bones.classes) (numbered : AreNumbered s.world.bones) where
  abbrev b : Bones
  b = s.world.bones

  abbrev class_rows : ℕ
  class_rows = total_weight (map head_row b.classes) + total_weight (flat_map text_rows b.classes) + (total_weight (flat_map (table_heads s.tables) b.classes) + total_weight (flat_map (table_rows s.tables) b.classes))

  abbrev object_rows : ℕ
  object_rows = total_weight (map object_row b.objects) + total_weight (flat_map (version_rows b.classes) b.objects) + total_weight (flat_map (activation_rows s.world) b.objects)

  abbrev field_rows : ℕ
  field_rows = total_weight (flat_map (added_rows b) b.classes)

  rows_are : total_weight (rows s) ≡ row_weight (counters_row b) + class_rows + object_rows + total_weight (map entry_row b.queue) + field_rows
  rows_are =
      let C : List Row = counters_row b ∷ map head_row b.classes in
      let T : List Row = flat_map text_rows b.classes in
      let A : List Row = flat_map (table_heads s.tables) b.classes in
      let B : List Row = flat_map (table_rows s.tables) b.classes in
      let O : List Row = map object_row b.objects in
      let V : List Row = flat_map (version_rows b.classes) b.objects in
      let S : List Row = flat_map (activation_rows s.world) b.objects in
      let Q : List Row = map entry_row b.queue in
      let D : List Row = flat_map (added_rows b) b.classes in
      omega (
        arith,
        both_weigh C T,
        both_weigh (C ++ T) A,
        both_weigh (C ++ T ++ A) B,
        both_weigh (C ++ T ++ A ++ B) O,
        both_weigh (C ++ T ++ A ++ B ++ O) V,
        both_weigh (C ++ T ++ A ++ B ++ O ++ V) S,
        both_weigh (C ++ T ++ A ++ B ++ O ++ V ++ S) Q,
        both_weigh (C ++ T ++ A ++ B ++ O ++ V ++ S ++ Q) D,
      )

  world_weighs : row_weight (counters_row b) + class_rows + object_rows + field_rows ≤ weight b
  unfolding weight
  world_weighs =
      let first = counters_weigh b in
      let classes = classes_weigh s.tables b.classes mean in
      let objects = objects_weigh s.world b.classes b.objects in
      let fields : field_rows ≤ sum_by added_weight b.added = fields_weigh b.classes b.added numbered.classes in
      omega (arith, first, classes, objects, fields)

  rows_weigh : total_weight (rows s) ≤ weight b + queue_room
  rows_weigh =
      within (total_weight (rows s)) (row_weight (counters_row b)) class_rows object_rows (total_weight (map entry_row b.queue)) field_rows (weight b) (length b.queue)
      rows_are world_weighs (entries_weigh b b.queue are.queue) are.few

-- by what the world weighs
pub records_weigh : (l : Language) (entries : Entries) (w : ListWorld) → HoldsWorld l entries w → record_bytes entries ≤ weight w.bones + queue_room
records_weigh l entries w holds =
    let s = holds.stored in
    let back : w.bones ≡ s.world.bones = sym holds.stands.bones in
    let are : AreBones l s.world.bones = subst (AreBones l) back holds.good.bones in
    let mean : AllByRecursion (HasTables s.tables) s.world.bones.classes = subst (λ (c : Bones). AllByRecursion (HasTables s.tables) c.classes) back holds.stands.mean in
    let numbered : AreNumbered s.world.bones = subst AreNumbered back (good_numbered l w holds.good) in
    subst (λ (es : Entries). total_weight es ≤ weight w.bones + queue_room) (sym holds.rows)
    (subst (λ (c : Bones). total_weight (rows s) ≤ weight c + queue_room) holds.stands.bones (rows_weigh l s are mean numbered))

pub records_are_light : (l : Language) (entries : Entries) (w : ListWorld) → HoldsWorld l entries w → record_bytes entries ≤ MAX_PAGED_BYTES
records_are_light l entries w holds =
    let weighs = records_weigh l entries w holds in
    let light : weight w.bones ≤ weight_limit = holds.good.bones.light in
    omega (arith, weighs, light)
