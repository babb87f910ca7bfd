-- Records that hold a world are opened to its classes with their tables, and to its weight.
use Rattle.std.proofs.Common.{◌≡◌, ℕ, ◌+◌, ◌<◌, ◌≤◌, ◌^◌, List, [], ◌∷◌, ◌++◌, map, length, true, false, Option, Some, Ok, refl, sym, ap, subst, ◌∙◌, append_assoc, arith}
use Rattle.std.specs.Prelude.{◌==◌, Bool, nat_le}
use Rattle.std.specs.List.{AllByRecursion, flat_map, sum_by}
use Rattle.std.proofs.lemmas.Bool.Decides.{nat_tests}
use Rattle.ode_codec.specs.Standing.{ArePasts, HasTables}
use Rattle.ode_codec.specs.StoredRows.{Stored, activation_row, activation_rows, added_row, added_rows, counters_row, entry_row, object_row, rows, state_of, version_rows}
use Rattle.ode_codec.specs.declared.record.Counters.{Counters}
use Rattle.ode_codec.specs.declared.record.Record.TheVariants as of
use Rattle.ode_heap.specs.Answering.{IsReadable, counters_of}
use Rattle.ode_heap_laws.specs.Few.{HoldsCounted}
use Rattle.ode_keep.specs.Entries.{Entries}
use Rattle.ode_language.specs.Languages.{ode}
use Rattle.ode_opening.specs.Building.{triggers_of}
use Rattle.ode_opening.specs.Classes.{classes_in}
use Rattle.ode_opening_laws.specs.Holding.{class_of, class_rows, stored_tables}
use Rattle.ode_opening_laws.proofs.Accepting.{are_storable}
use Rattle.ode_opening_laws.proofs.BornOnce.{blocks}
use Rattle.ode_opening_laws.proofs.Decoding.{Again}
use Rattle.ode_opening_laws.proofs.Each.{all_append, all_map, all_then}
use Rattle.ode_opening_laws.proofs.Expecting.{count_is}
use Rattle.ode_opening_laws.proofs.FieldSections.{blocks_in_range}
use Rattle.ode_opening_laws.proofs.Fields.{all_heads, blocks_decode, few_classes, numbers_rise, rows_are}
use Rattle.ode_opening_laws.proofs.Founds.{found_of}
use Rattle.ode_opening_laws.proofs.Storable.{IsStorable}
use Rattle.ode_opening_objects.specs.Heads.{has_version, head_in}
use Rattle.ode_opening_objects.specs.Objects.{object_keeps, objects_keep, references_keep, version_keeps}
use Rattle.ode_opening_objects.specs.Triggers.{activation_keeps, at_most, entry_keeps, is_reached_in, is_shared}
use Rattle.ode_opening_objects.specs.declared.head.Head.{Head}
use Rattle.ode_opening_tables.specs.Tables.{TablesIn, all_triggers, places_from, spare_in}
use Rattle.ode_passes.specs.Complete.{class_count}
use Rattle.ode_passes.specs.Records.{Found}
use Rattle.ode_passes.specs.Rules.{Ruled, ◌>>=◌, each, found, needs, through}
use Rattle.ode_passes.proofs.Through.{through-append}
use Rattle.ode_passes.specs.Tally.{counted, is_light, limit_of, no_tally, tallied, tally_in}
use Rattle.ode_passes.specs.Walking.{within}
use Rattle.ode_passes.specs.declared.cause.Cause.TheVariants as cause
use Rattle.ode_passes.specs.declared.tally.Tally.{Tally}
use Rattle.ode_sound_laws.specs.Typed.{AreFromOne}
use Rattle.ode_value.specs.Fields.{born_values}
use Rattle.ode_value.specs.GoodWorlds.{AreBones, IsObject, RiseFrom}
use Rattle.ode_value.specs.Keys.{activation_kind, counters_key, entry_kind, version_kind}
use Rattle.ode_value.specs.Language.{ListWorld}
use Rattle.ode_value.specs.Lengths.{activation_length, value_length, version_length}
use Rattle.ode_value.specs.Limits.{queue_limit, weight_limit}
use Rattle.ode_value.specs.Objects.{Activation, Histories, Starts}
use Rattle.ode_value.specs.Pasts.{Kept}
use Rattle.ode_value.specs.Records.{Row, row_weight, spelled_value, total_weight, version_row}
use Rattle.ode_value.specs.Tables.{Table}
use Rattle.ode_value.specs.Versions.{Version}
use Rattle.ode_value.specs.Weights.{added_weight, weight}
use Rattle.ode_value.specs.Worlds.{Bones, Declared, Object}
use Rattle.ode_value.specs.declared.change.Added.{Added}
use Rattle.ode_value.specs.declared.class.Class.{Class}
use Rattle.ode_value.specs.declared.class.Field.{Field}
use Rattle.ode_value.specs.declared.value.Value.{Value}
use Rattle.ode_opening_records.specs.Reading.{AreOpened, base_of, opened_by}
use Rattle.ode_opening_records.specs.declared.base.Base.{Base}
use Rattle.ode_opened_laws.specs.WorldBases.{FitsFirst, world_base}
use Rattle.ode_opened_laws.proofs.Activated.{activation_references_kept, activations_kept}
use Rattle.ode_opened_laws.proofs.ByKinds.{AreOf, AreSorted, IsOf, are_sorted}
use Rattle.ode_opened_laws.proofs.Keeping.{all_references_kept, each_append, objects_kept, versions_kept}
use Rattle.ode_opened_laws.proofs.Parts.{activations_of_kind, all_counted, classes_are_parts, classes_of_kind, counters_of_kind, counters_read, entries_are_parts, entries_of_kind, fields_are_parts, none_counted, objects_are_parts, objects_of_kind, versions_of_kind}
use Rattle.ode_opened_laws.proofs.Placed.{all_placed}
use Rattle.ode_opened_laws.proofs.Plain.{IsUnstamped, counters_plain, none_added, object_unstamped, plain_where}
use Rattle.ode_opened_laws.proofs.Queued.{entry_references_kept, queue_kept}
use Rattle.ode_opened_laws.proofs.Reached.{AreTold, are_reached}
use Rattle.ode_opened_laws.proofs.Tallying.{IsPart, IsTallied, counted_is, entries_tallied, one_more, parts_tallied}
use Rattle.ode_opened_laws.proofs.Weighing.{classes_weigh, counters_weigh, fields_weigh, objects_weigh, weight_append}

ok_same : {X : Type 0} (x y : X) → (let m : Ruled X = Ok x in m) ≡ Ok y → x ≡ y
ok_same x y is = cc

light : (first : Bool) (n : ℕ) → n ≤ limit_of first → is_light first n ≡ Ok tt
light first n few = let test : nat_le n (limit_of first) ≡ true = grind (arith, nat_tests) in ap (needs (cause.Size n)) test

format_light : (first : Bool) (b : Bones) → FitsFirst first b → weight b ≤ weight_limit → weight b ≤ limit_of first
format_light true b format light = format.1
format_light false b format light = light

format_none : (first : Bool) (b : Bones) → FitsFirst first b → first ≡ true → b.added ≡ []
format_none true b format is = format.0
format_none false b format is = absurd (cc (is))

no_entry : (n : ℕ) → 10 ≤ n → (n == entry_kind) ≡ false
no_entry n low = grind (arith, nat_tests)

module _ (first : Bool) (again : Again) (told : AreTold) (acts_weigh : (id state : ℕ) (a : Activation) → row_weight (activation_row id state a) ≡ activation_length a.args)
    (weighs : (id : ℕ) (fields : List Field) (v : Version) → row_weight (version_row id fields v) ≡ version_length v.stamp (born_values v.stamp fields v.fields))
    (value_weighs : (v : Value) → length (spelled_value v) ≡ value_length v)
    (s : Stored) (past : List (ℕ × Kept Histories Starts)) (are : AreBones ode s.world.bones) (reads : IsReadable s) (mean : AllByRecursion (HasTables s.tables) s.world.bones.classes)
    (pasts : ArePasts s.tables s.world.bones.classes s.world.bones.objects s.world.pasts past) (ones : AreFromOne s.world.bones) (format : FitsFirst first s.world.bones) where
  abbrev b : Bones
  b = s.world.bones

  storable : AllByRecursion (IsStorable s.tables) b.classes
  storable = are_storable s.tables b.added b.classes are.classes mean

  -- ---- the records, by kinds

  abbrev of_classes : Entries
  of_classes = class_rows s.tables b.classes

  abbrev of_objects : Entries
  of_objects = map object_row b.objects

  abbrev of_versions : Entries
  of_versions = flat_map (version_rows b.classes) b.objects

  abbrev of_activations : Entries
  of_activations = flat_map (activation_rows s.world) b.objects

  abbrev of_queue : Entries
  of_queue = map entry_row b.queue

  -- the added fields, class by class
  abbrev fields : List Added
  fields = blocks b.added b.classes

  abbrev of_fields : Entries
  of_fields = flat_map (added_rows b) b.classes

  fields_are : of_fields ≡ map (added_row b.classes) fields
  fields_are = rows_are b.classes b.added b.classes

  abbrev all : Entries
  all = counters_row b ∷ of_classes ++ of_objects ++ of_versions ++ of_activations ++ of_queue ++ of_fields

  -- those of objects, with what these have
  abbrev things : Entries
  things = of_objects ++ of_versions ++ of_activations

  -- ---- what they weigh

  rising : RiseFrom 0 (map (λ (d : Declared). d.class.number) b.classes)
  rising = numbers_rise b.added [] b.classes 0 (omega arith) are.classes

  abbrev counted_rows : Entries
  counted_rows = of_classes ++ of_objects ++ of_versions ++ of_activations

  abbrev sum : ℕ
  sum = row_weight (counters_row b) + total_weight counted_rows + total_weight of_fields

  abbrev spare : ℕ
  spare = spare_in (triggers_of (map class_of b.classes)) (stored_tables s.tables b.classes)

  sum_is : sum + spare ≡ weight b
  unfolding weight
  sum_is =
      let of_added : total_weight of_fields ≡ sum_by added_weight b.added = ap total_weight fields_are ∙ fields_weigh value_weighs b.classes b.added are.added rising in
      omega (
        arith,
        of_added,
        counters_weigh b,
        classes_weigh s.tables b.classes mean storable,
        objects_weigh acts_weigh weighs s.world b.classes b.objects,
        weight_append (of_classes ++ of_objects ++ of_versions) of_activations,
        weight_append (of_classes ++ of_objects) of_versions,
        weight_append of_classes of_objects,
      )

  few : sum ≤ weight_limit
  few = omega (arith, sum_is, are.light)

  few_by_format : sum ≤ limit_of first
  few_by_format = omega (arith, sum_is, format_light first b format are.light)

  -- ---- the tally

  none : first ≡ true → b.added ≡ []
  none = format_none first b format

  unstamped : first ≡ true → AllByRecursion (λ (o : Object). AllByRecursion IsUnstamped o.versions) b.objects
  unstamped = λ is. all_then (IsObject b) (λ (o : Object). AllByRecursion IsUnstamped o.versions) (object_unstamped b (none is)) b.objects are.objects

  parts : AllByRecursion (IsPart first) counted_rows
  parts =
      let P = IsPart first in
      let objects = objects_are_parts first again s.world b.objects reads.objects unstamped in
      subst_all (all_append P of_classes things (classes_are_parts s.tables first again b.classes storable) objects)
    where
      grouped : of_classes ++ things ≡ counted_rows
      grouped = simp append_assoc

      subst_all : AllByRecursion (IsPart first) (of_classes ++ things) → AllByRecursion (IsPart first) counted_rows
      subst_all it = subst (AllByRecursion (IsPart first)) grouped it

  -- the heads of the classes
  abbrev known : Found
  known = found_of s.tables b.classes

  few_known : class_count known < 2 ^ 32
  few_known = let many = few_classes b.added [] b.classes (omega arith) are.classes in omega (arith, count_is s.tables b.classes, many)

  field_parts : AllByRecursion (IsPart first) of_fields
  field_parts = by first refl
    where
      by : (t : Bool) → first ≡ t → AllByRecursion (IsPart first) of_fields
      by true is = subst (AllByRecursion (IsPart first)) (sym (none_added b (none is) b.classes)) tt
      by false is =
          subst (AllByRecursion (IsPart first)) (sym fields_are)
          (fields_are_parts first is b.classes fields
          (blocks_decode again known b.classes b.added few_known are.few_added (all_heads s.tables b.added b.classes are.classes) are.added rising))

  -- and their kind
  abbrev IsField : Added → Type 0
  IsField a = (a.class < 2 ^ 64) × (a.birth < 2 ^ 64)

  fields_of_kind : AreOf 10 10 of_fields
  fields_of_kind =
      let low = all_then (IsStorable s.tables) (λ (d : Declared). d.class.number < 2 ^ 32) (λ d is. is.small.number) b.classes storable in
      subst (AreOf 10 10) (sym fields_are)
      (all_map (IsOf 10 10) IsField (added_row b.classes) (λ (a : Added) is. record { least = omega arith; most = omega arith; a = is.0; b = is.1 }) fields
      (blocks_in_range b.added b.classes are.added are.few_added b.classes low))

  fields_counted : AllByRecursion IsTallied of_fields
  fields_counted = all_then (IsOf 10 10) IsTallied (λ (e : Row) is. let low = is.least in no_entry e.0.kind low) of_fields fields_of_kind

  counts : AllByRecursion IsTallied counted_rows
  counts =
      all_append IsTallied (of_classes ++ of_objects ++ of_versions) of_activations
      (all_append IsTallied (of_classes ++ of_objects) of_versions
      (all_append IsTallied of_classes of_objects (all_counted 2 5 of_classes (omega arith) (classes_of_kind s.tables b.classes storable))
      (all_counted 6 6 of_objects (omega arith) (objects_of_kind s.world b.objects reads.objects)))
      (all_counted 7 7 of_versions (omega arith) (versions_of_kind s.world b.objects reads.objects)))
      (all_counted 8 8 of_activations (omega arith) (activations_of_kind s.world b.objects reads.objects))

  abbrev counters : Counters
  counters = counters_of b

  abbrev first_tally : Tally
  first_tally = record { first = first; total = row_weight (counters_row b); counters = Some counters }

  first_is : tallied (no_tally first) (counters_row b) ≡ Ok first_tally
  first_is =
      let few_ = few in
      let total : counted 0 (counters_row b) ≡ 0 + row_weight (counters_row b) = counted_is 0 (counters_row b) refl (omega (arith, few_)) in
      let same : 0 + row_weight (counters_row b) ≡ row_weight (counters_row b) = omega arith in
      one_more (no_tally first) (counters_row b) (of.Counters counters) (plain_where first (counters_row b).0 (counters_row b).1 (λ is. counters_plain b (none is))) (counters_read again b reads.counters)
      ∙ ap (λ (n : ℕ). Ok (record { first = first; total = n; counters = Some counters })) (total ∙ same)

  -- before the added fields
  abbrev queued : Tally
  queued = record { first = first; total = row_weight (counters_row b) + total_weight counted_rows; counters = Some counters }

  tallied_all : through tallied (no_tally first) all ≡ Ok (record { first = first; total = sum; counters = Some counters })
  tallied_all =
      let few_ = few in
      ap (λ m. m >>= λ t. through tallied t (counted_rows ++ of_queue ++ of_fields)) first_is
      ∙ through-append tallied first_tally (counted_rows ++ of_queue) of_fields
      ∙ ap (λ m. m >>= λ t. through tallied t of_fields)
      (through-append tallied first_tally counted_rows of_queue
      ∙ ap (λ m. m >>= λ t. through tallied t of_queue) (parts_tallied counted_rows first_tally parts counts (omega (arith, few_)))
      ∙ entries_tallied of_queue queued (entries_are_parts first again b.queue reads.queue) (none_counted of_queue (entries_of_kind b.queue reads.queue)))
      ∙ parts_tallied of_fields queued field_parts fields_counted (omega (arith, few_))

  sorted : AreSorted (counters_row b) of_classes of_objects of_versions of_activations of_queue of_fields
  sorted =
      are_sorted (counters_row b) of_classes of_objects of_versions of_activations of_queue of_fields (counters_of_kind b, tt) (classes_of_kind s.tables b.classes storable)
      (objects_of_kind s.world b.objects reads.objects) (versions_of_kind s.world b.objects reads.objects) (activations_of_kind s.world b.objects reads.objects) (entries_of_kind b.queue reads.queue) fields_of_kind

  tally_is : tally_in first all ≡ Ok (counters, sum)
  unfolding tally_in
  tally_is =
      ap (λ (es : Entries). through tallied (no_tally first) es >>= λ t. found (cause.Missing counters_key) t.counters >>= λ c. Ok (c, t.total)) sorted.whole
      ∙ ap (λ m. m >>= λ t. found (cause.Missing counters_key) t.counters >>= λ c. Ok (c, t.total)) tallied_all

  -- ---- the objects

  abbrev classes : List Class
  classes = map class_of b.classes

  abbrev tables : List Table
  tables = stored_tables s.tables b.classes

  abbrev done : Ruled (Unit {0})
  done = Ok tt

  abbrev heads : ℕ → Option Head
  heads = head_in of_objects

  abbrev reached : ℕ → ℕ → ℕ → Bool
  reached = is_reached_in tables (places_from 0 classes)

  abbrev objects_by : Entries → Entries → Ruled (Unit {0})
  objects_by os vs = each (object_keeps b.next classes (has_version vs)) os

  abbrev versions_by : Entries → Entries → Ruled (Unit {0})
  versions_by os vs = each (version_keeps counters.added classes (head_in os)) vs

  abbrev activations_by : Entries → Entries → Ruled (Unit {0})
  activations_by os acts = each (activation_keeps b.next classes (head_in os) (is_shared acts) reached) acts

  abbrev queue_by : Entries → Entries → Ruled (Unit {0})
  queue_by os qs = at_most queue_limit (entry_keeps counters classes (head_in os)) qs

  abbrev references_by : Entries → Entries → Ruled (Unit {0})
  references_by os rs = each (references_keep b.next classes (head_in os)) rs

  -- what the rules come to
  abbrev by_rules : Entries → Entries → Entries → Entries → Entries → Ruled (Unit {0})
  by_rules os vs acts qs rs = objects_by os vs >>= λ _. versions_by os vs >>= λ _. activations_by os acts >>= λ _. queue_by os qs >>= λ _. references_by os rs

  -- rules that all hold
  all_done : (one two three four five : Ruled (Unit {0})) → one ≡ done → two ≡ done → three ≡ done → four ≡ done → five ≡ done → (one >>= λ _. two >>= λ _. three >>= λ _. four >>= λ _. five) ≡ done
  all_done one two three four five a b_ c d e =
      ap (λ (m : Ruled (Unit {0})). m >>= λ _. two >>= λ _. three >>= λ _. four >>= λ _. five) a
      ∙ ap (λ (m : Ruled (Unit {0})). m >>= λ _. three >>= λ _. four >>= λ _. five) b_
      ∙ ap (λ (m : Ruled (Unit {0})). m >>= λ _. four >>= λ _. five) c
      ∙ ap (λ (m : Ruled (Unit {0})). m >>= λ _. five) d ∙ e

  states_reached : AllByRecursion (λ (o : Object). AllByRecursion (λ (a : Activation). reached a.class a.trigger (state_of s.world o.id a.number) ≡ true) o.activations) b.objects
  states_reached =
      are_reached s.tables tables (places_from 0 classes) b.classes mean (all_placed s.tables ode b.added b.classes are.classes) told s.world b.objects past are.rising
      (all_then (IsObject b) (λ (o : Object). RiseFrom 0 (map (λ (a : Activation). a.number) o.activations)) (λ o is. is.rising_activations) b.objects are.objects) pasts

  references_kept : references_by of_objects (of_versions ++ of_activations ++ of_queue) ≡ done
  references_kept =
      let rule = references_keep b.next classes heads in
      each_append rule (of_versions ++ of_activations) of_queue
      (each_append rule of_versions of_activations (all_references_kept ode s.world are again reads.objects ones) (activation_references_kept ode s.world are again reads.objects ones))
      (entry_references_kept ode s.world are again reads.objects ones reads.queue)

  objects_do : objects_keep counters reached classes all ≡ done
  unfolding objects_keep
  objects_do =
      ap (λ (es : Entries). by_rules es (within version_kind version_kind all) (within activation_kind activation_kind all) (within entry_kind entry_kind all) (within version_kind entry_kind all)) sorted.objects
      ∙ ap (λ (es : Entries). by_rules of_objects es (within activation_kind activation_kind all) (within entry_kind entry_kind all) (within version_kind entry_kind all)) sorted.versions
      ∙ ap (λ (es : Entries). by_rules of_objects of_versions es (within entry_kind entry_kind all) (within version_kind entry_kind all)) sorted.activations
      ∙ ap (λ (es : Entries). by_rules of_objects of_versions of_activations es (within version_kind entry_kind all)) sorted.queue
      ∙ ap (by_rules of_objects of_versions of_activations of_queue) sorted.references
      ∙ all_done (objects_by of_objects of_versions) (versions_by of_objects of_versions) (activations_by of_objects of_activations) (queue_by of_objects of_queue)
      (references_by of_objects (of_versions ++ of_activations ++ of_queue))
      (objects_kept ode s.world are again reads.objects ones) (versions_kept ode s.world are again reads.objects ones)
      (activations_kept ode s.world are again reads.objects ones reached states_reached)
      (queue_kept ode s.world are again reads.objects ones reads.queue) references_kept

  -- ---- all rules

  base_is : base_of classes tables sum ≡ world_base s.tables b
  base_is = ap (λ (n : ℕ). record (base_of classes tables 0) { bytes = n }) sum_is

  pub rows_opened : classes_in ode (length b.added) (rows s) ≡ Ok classes → opened_by first ode (Ok tables) (rows s) ≡ Ok (world_base s.tables b)
  unfolding opened_by
  rows_opened read =
      ap (λ m. m >>= λ t. classes_in ode t.0.added all >>= λ cs. Ok tables >>= λ own. objects_keep t.0 (is_reached_in own (places_from 0 cs)) cs all >>= λ _. is_light first t.1 >>= λ _. Ok (base_of cs own t.1)) tally_is
      ∙ ap (λ m. m >>= λ cs. Ok tables >>= λ own. objects_keep counters (is_reached_in own (places_from 0 cs)) cs all >>= λ _. is_light first sum >>= λ _. Ok (base_of cs own sum)) read
      ∙ ap (λ m. m >>= λ _. is_light first sum >>= λ _. Ok (base_of classes tables sum)) objects_do
      ∙ ap (λ m. m >>= λ _. Ok (base_of classes tables sum)) (light first sum few_by_format)
      ∙ ap (λ (base : Base). Ok base) base_is

  pub rows_tallied : tally_in first (rows s) ≡ Ok (counters, sum)
  rows_tallied = tally_is

-- ---- a world that is held

module _ (first : Bool) (again : Again) (told : AreTold) (acts_weigh : (id state : ℕ) (a : Activation) → row_weight (activation_row id state a) ≡ activation_length a.args)
    (weighs : (id : ℕ) (fields : List Field) (v : Version) → row_weight (version_row id fields v) ≡ version_length v.stamp (born_values v.stamp fields v.fields))
    (value_weighs : (v : Value) → length (spelled_value v) ≡ value_length v)
    (records : Entries) (w : ListWorld) (held : HoldsCounted ode records w) (ones : AreFromOne w.bones) (format : FitsFirst first w.bones) (reads : IsReadable held.world.stored) where
  abbrev s : Stored
  s = held.world.stored

  back : w.bones ≡ s.world.bones
  back = sym held.world.stands.bones

  its_bones : AreBones ode s.world.bones
  its_bones = subst (AreBones ode) back held.world.good.bones

  its_mean : AllByRecursion (HasTables s.tables) s.world.bones.classes
  its_mean = subst (λ (b : Bones). AllByRecursion (HasTables s.tables) b.classes) back held.world.stands.mean

  its_pasts : ArePasts s.tables s.world.bones.classes s.world.bones.objects s.world.pasts w.pasts
  its_pasts = subst (λ (b : Bones). ArePasts s.tables b.classes b.objects s.world.pasts w.pasts) back held.world.stands.pasts

  its_ones : AreFromOne s.world.bones
  its_ones = subst AreFromOne back ones

  its_format : FitsFirst first s.world.bones
  its_format = subst (FitsFirst first) back format

  -- what is tallied is the world's
  counted_as : (tally : Counters × ℕ) → tally_in first records ≡ Ok tally → tally.0.added ≡ length w.bones.added
  counted_as tally is =
      let its = ap (tally_in first) held.world.rows ∙ rows_tallied first again told acts_weigh weighs value_weighs s w.pasts its_bones reads its_mean its_pasts its_ones its_format in
      let same = ok_same _ _ (sym is ∙ its) in
      ap (λ (t : Counters × ℕ). t.0.added) same ∙ ap (λ (b : Bones). length b.added) (sym back)

  pub opened_rows : classes_in ode (length w.bones.added) records ≡ Ok (map class_of w.bones.classes) → TablesIn records (all_triggers (map class_of w.bones.classes)) (Ok (stored_tables s.tables w.bones.classes))
      → AreOpened first ode records (Ok (world_base s.tables w.bones))
  opened_rows read tables =
      let own : Ruled (List Table) = Ok (stored_tables s.tables w.bones.classes) in
      let opened : opened_by first ode (Ok (stored_tables s.tables s.world.bones.classes)) (rows s) ≡ Ok (world_base s.tables s.world.bones) =
      rows_opened first again told acts_weigh weighs value_weighs s w.pasts its_bones reads its_mean its_pasts its_ones its_format
      (ap (λ (b : Bones). classes_in ode (length b.added) (rows s)) (sym back) ∙ sym (ap (classes_in ode (length w.bones.added)) held.world.rows) ∙ read ∙ ap (λ (b : Bones). Ok (map class_of b.classes)) back) in
      record {
        tables = own;
        come_to = λ tally classes tallied_ read_.
            let again_ : classes_in ode (length w.bones.added) records ≡ Ok classes = ap (λ (n : ℕ). classes_in ode n records) (sym (counted_as tally tallied_)) ∙ read_ in
            let same : map class_of w.bones.classes ≡ classes = ok_same (map class_of w.bones.classes) classes (sym read ∙ again_) in
            subst (λ (cs : List Class). TablesIn records (all_triggers cs) own) same tables;
        is =
            ap (λ (b : Bones). Ok (world_base s.tables b)) back
            ∙ sym opened
            ∙ ap (λ (b : Bones). opened_by first ode (Ok (stored_tables s.tables b.classes)) (rows s)) (sym back)
            ∙ ap (λ (es : Entries). opened_by first ode own es) (sym held.world.rows);
      }
