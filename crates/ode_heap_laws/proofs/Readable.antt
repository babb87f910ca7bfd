-- What is stored of a world that is held can be read.
use Rattle.std.proofs.Common.{◌≡◌, ℕ, ◌<◌, ◌≤◌, ◌^◌, true, List, [], map, length, Option, Some, None, refl, sym, ap, subst, arith, rules}
use Rattle.std.specs.Prelude.{IsSome, FitsSigned, pos}
use Rattle.std.specs.Int.{w64}
use Rattle.std.specs.List.{AllByRecursion, AllZip}
use Rattle.std.specs.Option.{IfSome, is_some, option_map_or, unwrap_or}
use Rattle.std.proofs.lemmas.Slice.Zip.{AllZip-long}
use Rattle.ode_codec.specs.Rules.{HasRanges, InRange, IsClock, IsKept, IsKeptValue, IsRecord}
use Rattle.ode_codec.specs.Standing.{ArePasts, HasTables}
use Rattle.ode_codec.specs.StoredRows.{Stored}
use Rattle.ode_codec.specs.declared.record.Record.TheVariants as of
use Rattle.ode_heap.specs.Activations.{fit_params}
use Rattle.ode_heap.specs.Answering.{IsReadable, IsReadableActivation, IsReadableEntry, IsReadableObject, IsReadableVersion, counters_of}
use Rattle.ode_heap_laws.specs.Few.{HasFewParts, HoldsCounted}
use Rattle.ode_heap_laws.proofs.Classes.{IsSmall, IsSmallTrigger, IsTriggerOf, all_small, at_is, each_small, fits_class, numbered_class, trigger_found}
use Rattle.ode_heap_laws.proofs.States.{state_low}
use Rattle.ode_heap_laws.proofs.Values.{are_in_range, are_kept, born_all, born_few}
use Rattle.ode_laws.proofs.Each.{all-find, all-then}
use Rattle.ode_laws.proofs.GoodNumbers.{good_numbered}
use Rattle.ode_laws.proofs.Numbers.{all-at, all-triggers}
use Rattle.ode_value.specs.Classes.{Trigger, own_triggers, trigger_at, triggers_of}
use Rattle.ode_value.specs.Fields.{born_values, fields_of}
use Rattle.ode_value.specs.Firings.{is_of}
use Rattle.ode_value.specs.Fitting.{FitTrigger, FitsSort, HaveTrigger, trigger_in}
use Rattle.ode_value.specs.GoodWorlds.{AreBones, IsActivation, IsEntry, IsObject, IsPosition, IsVersion, RiseFrom}
use Rattle.ode_value.specs.Language.{Language, ListWorld}
use Rattle.ode_value.specs.Limits.{number_limit, queue_limit, generation_limit}
use Rattle.ode_value.specs.Objects.{Activation, Histories, Starts}
use Rattle.ode_value.specs.Pasts.{Kept}
use Rattle.ode_value.specs.Records.{Row}
use Rattle.ode_value.specs.Versions.{Version}
use Rattle.ode_value.specs.Worlds.{Bones, Declared, Entry, Object, Position, class_numbered}
use Rattle.ode_value.specs.declared.binding.Param.{Param}
use Rattle.ode_value.specs.declared.class.Class.{Class}
use Rattle.ode_value.specs.declared.class.Field.{Field}
use Rattle.ode_value.specs.declared.value.Value.{Value}

-- ---- the counters

clock_kept : (clock : Option Position) → IsClock (is_some clock) (option_map_or (λ (p : Position). p.instant) clock (pos 0)) (option_map_or (λ (p : Position). p.object) clock 0) (option_map_or (λ (p : Position). p.place) clock 0)
clock_kept None = (refl, refl, refl)
clock_kept (Some p) = tt

clock_fits : (clock : Option Position) → IfSome clock IsPosition → FitsSigned w64 (option_map_or (λ (p : Position). p.instant) clock (pos 0))
clock_fits None is = search rules
clock_fits (Some p) is = is.instant

clock_object : (clock : Option Position) → IfSome clock IsPosition → option_map_or (λ (p : Position). p.object) clock 0 < 2 ^ 64
clock_object None is = omega arith
clock_object (Some p) is = is.object

clock_place : (clock : Option Position) → IfSome clock IsPosition → option_map_or (λ (p : Position). p.place) clock 0 < 2 ^ 32
clock_place None is = omega arith
clock_place (Some p) is = is.place

counters_read : (l : Language) (b : Bones) → AreBones l b → IsRecord (of.Counters (counters_of b))
unfolding IsKept HasRanges
counters_read l b are =
    let n = are.next.bounded in
    let t = are.transaction.bounded in
    let e = are.next_entry.bounded in
    record {
      kept = record {
        next_number = (are.next.some, are.next.bounded);
        next_transaction = (are.transaction.some, are.transaction.bounded);
        next_entry = (are.next_entry.some, are.next_entry.bounded);
        clock = clock_kept b.clock;
      };
      ranges = record {
        numbers = (omega arith, omega arith, omega arith);
        clock = (clock_fits b.clock are.clock, clock_object b.clock are.clock, clock_place b.clock are.clock);
        added = are.few_added;
      };
    }

-- ---- versions

parent_low : (parent : Option ℕ) (n : ℕ) → n < 2 ^ 32 → IfSome parent (λ p. (0 < p) × (p < n)) → unwrap_or parent 0 < 2 ^ 32
parent_low None n low is = omega arith
parent_low (Some p) n low is = let less : p < n = is.1 in omega arith

parent_some : (parent : Option ℕ) (n : ℕ) → IfSome parent (λ p. (0 < p) × (p < n)) → IfSome parent (λ p. 0 < p)
parent_some None n is = tt
parent_some (Some p) n is = is.0

version_read : (b : Bones) (c : Class) (id last : ℕ) (v : Version) → id < 2 ^ 64 → last < 2 ^ 32 → length b.added < 2 ^ 32 → length c.fields < 2 ^ 15 → IsVersion b c last v
    → IsReadableVersion id c.fields v
unfolding IsKept HasRanges
version_read b c id last v low fits changes few is =
    let long : length v.fields ≡ length c.fields = AllZip-long (λ (f : Field). FitsSort b f.sort) c.fields v.fields is.fields in
    let upto : v.number ≤ last = is.number in
    let number : v.number < 2 ^ 32 = omega arith in
    let stamp : v.stamp ≤ length b.added = is.stamp in
    let born : length (born_values v.stamp c.fields v.fields) ≤ length v.fields = born_few v.stamp c.fields v.fields in
    record {
      spells = record {
        kept = (omega arith, born_all IsKeptValue v.stamp c.fields v.fields (are_kept b Field (λ f. f.sort) c.fields v.fields is.fields));
        ranges = (
          low,
          number,
          parent_low v.parent v.number number is.parent,
          omega arith,
          born_all InRange v.stamp c.fields v.fields (are_in_range b Field (λ f. f.sort) c.fields v.fields is.fields),
        );
      };
      parent = parent_some v.parent v.number is.parent;
    }

-- ---- triggers

-- what the heap's tests ask of values that fit
abbrev FitParams : Type 0
FitParams = (b : Bones) (params : List Param) (args : List Value) → AllZip (λ (p : Param). FitsSort b p.sort) params args → fit_params params args ≡ true

args_few : (b : Bones) (args : List Value) (t : Trigger) → IsSmallTrigger t → FitTrigger b args t → length args < 2 ^ 8
args_few b args t small fits =
    let long : length args ≡ length t.decl.params = AllZip-long (λ (p : Param). FitsSort b p.sort) t.decl.params args fits.sorts in
    let few = small.params in
    omega arith

module _ (l : Language) (s : Stored) (past : List (ℕ × Kept Histories Starts)) (are : AreBones l s.world.bones)
    (mean : AllByRecursion (HasTables s.tables) s.world.bones.classes) (pasts : ArePasts s.tables s.world.bones.classes s.world.bones.objects s.world.pasts past)
    (rising : RiseFrom 0 (map (λ (d : Declared). d.class.number) s.world.bones.classes)) (few : AllByRecursion HasFewParts s.world.bones.classes) (params : FitParams) where
  abbrev b : Bones
  b = s.world.bones

  smalls : AllByRecursion IsSmall b.classes
  smalls = each_small l b.added [] b.classes are.classes

  small_triggers : AllByRecursion (λ (d : Declared). AllByRecursion IsSmallTrigger (own_triggers d.class)) b.classes
  small_triggers = all_small b.classes smalls few

  -- ---- activations

  activation_by : (id class : ℕ) (a : Activation) → id < 2 ^ 64 → a.number < b.next → (o : Option Trigger) → trigger_in b.classes class a ≡ o → HaveTrigger b a.args o
      → IsReadableActivation s.world id a
  unfolding IsKept HasRanges
  activation_by id class a low number None found have = absurd have
  activation_by id class a low number (Some t) found have =
      let small : IsSmallTrigger t = all-find IsSmallTrigger (λ u. is_of u a) (triggers_of b.classes class) (all-triggers IsSmallTrigger b.classes class small_triggers) t found in
      let its : IsTriggerOf b.classes a t = trigger_found b.classes rising class a t found in
      let drawn : b.next ≤ number_limit = are.next.bounded in
      let class_is = its.class in
      let place_is = its.place in
      let class_low = small.class in
      let place_low = small.place in
      record {
        spells = record {
          kept = (args_few b a.args t small have, are_kept b Param (λ p. p.sort) t.decl.params a.args have.sorts);
          ranges = record {
            key = (low, omega arith);
            trigger = (omega arith, omega arith, state_low s.tables b.classes mean small_triggers s.world b.objects past pasts id a.number);
            args = are_in_range b Param (λ p. p.sort) t.decl.params a.args have.sorts;
          };
        };
        fits = fits_class b.classes a.class a.trigger a.args t its.at (params b t.decl.params a.args have.sorts);
      }

  -- ---- objects

  object_by : (o : Object) → IsObject b o → (found : Option Class) → class_numbered o.class b.classes ≡ found → IsSome found
      → IfSome found (λ c. AllByRecursion (IsVersion b c o.last) o.versions) → IsReadableObject s.world o
  unfolding IsKept HasRanges
  object_by o is None at some versions = absurd (cc)
  object_by o is (Some c) at some versions =
      let few_fields = (numbered_class (λ c. length c.fields < 2 ^ 15) b.classes (all-then HasFewParts (λ d. length d.class.fields < 2 ^ 15) (λ d parts. parts.fields) b.classes few) o.class c at).0 in
      let fields : fields_of b.classes o.class ≡ c.fields = ap (λ (f : Option Class). option_map_or (λ (d : Class). d.fields) f []) at in
      let class = numbered_class (λ c. c.number < 2 ^ 32) b.classes (all-then IsSmall (λ d. d.class.number < 2 ^ 32) (λ d small. small.number) b.classes smalls) o.class c at in
      let number_low : c.number < 2 ^ 32 = class.0 in
      let number_is : c.number ≡ o.class = class.1 in
      let drawn : o.id < b.next = is.number in
      let next : b.next ≤ number_limit = are.next.bounded in
      let id : o.id < 2 ^ 64 = omega arith in
      record {
        spells = record { kept = tt; ranges = (id, omega arith, is.last) };
        versions = subst (λ (fs : List Field). AllByRecursion (IsReadableVersion o.id fs) o.versions) (sym fields)
            (all-then (IsVersion b c o.last) (IsReadableVersion o.id c.fields) (λ v here. version_read b c o.id o.last v id is.last are.few_added few_fields here) o.versions versions);
        rising = is.rising;
        activations = all-then (IsActivation b o.class) (IsReadableActivation s.world o.id)
            (λ a here. activation_by o.id o.class a id here.number (trigger_in b.classes o.class a) refl here.trigger) o.activations is.activations;
      }

  object_read : (o : Object) → IsObject b o → IsReadableObject s.world o
  object_read o is = object_by o is (class_numbered o.class b.classes) refl is.class is.versions

  -- ---- entries

  entry_by : (q : ℕ × Entry) → IsEntry b q → (o : Option Trigger) → trigger_at b.classes q.1.class q.1.trigger ≡ o → HaveTrigger b q.1.args o → IsReadableEntry q
  unfolding IsKept HasRanges generation_limit
  entry_by q is None at have = absurd have
  entry_by q is (Some t) at have =
      let small : IsSmallTrigger t = all-at IsSmallTrigger b.classes small_triggers q.1.class q.1.trigger t at in
      let entries : b.next_entry ≤ number_limit = are.next_entry.bounded in
      let next : b.next ≤ number_limit = are.next.bounded in
      let number : q.0 < b.next_entry = is.number in
      let object : q.1.object < b.next = is.object in
      let generation = is.generation.1 in
      let places = at_is b.classes q.1.class q.1.trigger t at in
      let class_low = small.class in
      let place_low = small.place in
      let class_is = places.0 in
      let place_is = places.1 in
      record {
        kept = (args_few b q.1.args t small have, are_kept b Param (λ p. p.sort) t.decl.params q.1.args have.sorts);
        ranges = (
          omega arith,
          record {
            object = omega arith;
            trigger = (omega arith, omega arith, omega arith);
            args = are_in_range b Param (λ p. p.sort) t.decl.params q.1.args have.sorts;
          },
        );
      }

  entry_read : (q : ℕ × Entry) → IsEntry b q → IsReadableEntry q
  entry_read q is = entry_by q is (trigger_at b.classes q.1.class q.1.trigger) refl is.trigger

  pub all_read : IsReadable s
  unfolding queue_limit
  all_read =
      let short : length b.queue ≤ queue_limit = are.few in
      record {
        counters = counters_read l b are;
        objects = all-then (IsObject b) (IsReadableObject s.world) object_read b.objects are.objects;
        rising = are.rising;
        queue = all-then (IsEntry b) IsReadableEntry entry_read b.queue are.queue;
        rising_queue = are.rising_queue;
        few = omega arith;
      }

pub held_read : FitParams → (l : Language) (records : List Row) (w : ListWorld) (held : HoldsCounted l records w) → IsReadable held.world.stored
held_read params l records w held =
    let world = held.world in
    let same : w.bones ≡ world.stored.world.bones = sym world.stands.bones in
    all_read l world.stored w.pasts
    (subst (λ (b : Bones). AreBones l b) same world.good.bones)
    (subst (λ (b : Bones). AllByRecursion (HasTables world.stored.tables) b.classes) same world.stands.mean)
    (subst (λ (b : Bones). ArePasts world.stored.tables b.classes b.objects world.stored.world.pasts w.pasts) same world.stands.pasts)
    (subst (λ (b : Bones). RiseFrom 0 (map (λ (d : Declared). d.class.number) b.classes)) same (good_numbered l w world.good).classes)
    (subst (λ (b : Bones). AllByRecursion HasFewParts b.classes) same held.few)
    params
