-- A whole transaction from a good world leaves a good one.
use Rattle.std.proofs.Common.{◌≡◌, ◌+◌, ◌^◌, ℕ, zero, suc, ◌<◌, ◌≤◌, Bool, true, false, cond, List, [], ◌∷◌, length, Option, Some, None, refl, sym, ap, subst, arith}
use Rattle.std.specs.Prelude.{nat_lt}
use Rattle.std.specs.List.{AllByRecursion, AllZip}
use Rattle.std.specs.Option.{IfSome, IsSome, IsSomeAnd}
use Rattle.std.proofs.lemmas.Bool.{ltb-true}
use Rattle.ode_value.specs.declared.change.Added.{Added}
use Rattle.ode_value.specs.declared.class.Class.{Class}
use Rattle.ode_value.specs.declared.statement.Stmt.{Stmt}
use Rattle.ode_value.specs.declared.value.Ref.{Ref}
use Rattle.ode_value.specs.Acts.{Outcome, Done, Aborted, Deed, go_on, nothing}
use Rattle.ode_value.specs.Classes.{Trigger, trigger_at}
use Rattle.ode_value.specs.Completing.{completes}
use Rattle.ode_value.specs.Denoting.{object_at}
use Rattle.ode_value.specs.Draining.{runs_entry, entry_settled, front, drain}
use Rattle.ode_value.specs.Executing.{commands}
use Rattle.ode_value.specs.Fitting.{FitFields, HaveTrigger, trigger_in}
use Rattle.ode_value.specs.GoodWorlds.{IsPast, AreAdded, AreBones, AreClasses, IsVersion, IsActivation, IsObject, activation_of, IsEntry, IsPosition}
use Rattle.ode_value.specs.Keeping.{kept_bones}
use Rattle.ode_value.specs.Language.{Language, ListWorld, ListTx}
use Rattle.ode_value.specs.Limits.{number_limit, transaction_limit, weight_limit}
use Rattle.ode_value.specs.Objects.{Activation, Histories, Starts}
use Rattle.ode_value.specs.Pasts.{Past, lists}
use Rattle.ode_value.specs.Settling.{Settled, clock_after, settle, transaction}
use Rattle.ode_value.specs.Transactions.{Origin, Script, Queue, Clock, begun}
use Rattle.ode_value.specs.Versions.{Version}
use Rattle.ode_value.specs.Weights.{weight}
use Rattle.ode_value.specs.Worlds.{Declared, Entry, Position, Object, Bones, class_numbered}
use Rattle.ode_machine.specs.Works.{ticks, tick}
use Rattle.ode_laws.specs.Counted.{IsQueued, AreCounted, CountsOn}
use Rattle.ode_laws.specs.Numbered.{HasNumbers}
use Rattle.ode_laws.proofs.Alone.{Keeps, Alone, alone}
use Rattle.ode_laws.proofs.CountLaws.{Counting, counting_keeps, begun_counted, commit_counted, abort_counted}
use Rattle.ode_laws.proofs.Each.{all-then}
use Rattle.ode_laws.proofs.GoodNumbers.{good_numbered, good_counted}
use Rattle.ode_laws.proofs.Rows.{at_numbered}
use Rattle.ode_laws.proofs.SideActs.{Alike, next_alike, done_alike}
use Rattle.ode_laws.proofs.SideCompleting.{completes_alike, entry_alike}
use Rattle.ode_laws.proofs.SideStatements.{commands_alike}
use Rattle.ode_laws.proofs.Sides.{EndsBy, Sides}
use Rattle.ode_laws.proofs.WeightLaws.{commit_light, abort_light, completion_light}
use Rattle.ode_run_laws.specs.Orders.{HasVersions, IsOrdered}
use Rattle.ode_run_laws.proofs.FollowSettling.{followed, transaction_follows}
use Rattle.ode_run_laws.proofs.GoodOrders.{good_ordered}
use Rattle.ode_run_laws.proofs.Ticks.{ticks_alike}
use Rattle.ode_sound_laws.specs.Fits.{all_alive, FitsVersion, FitsWorld, FitsEntry, FitsLiteral}
use Rattle.ode_types.specs.Kept.{IsTypedStatement}
use Rattle.ode_sound_laws.specs.Sound.{checked_classes}
use Rattle.ode_sound_laws.specs.Typed.{IsWhole, IsTypedWorld, AreFromOne}
use Rattle.ode_sound_laws.proofs.SettleLaws.{both}
use Rattle.ode_sound_laws.proofs.WorldLaws.{alive_same, good_typed, begun_typed, statement_typed, whole_typed, entry_typed}
use Rattle.ode_sound_runs.proofs.TypedRuns.{tick_typed, move_typed}
use Rattle.ode_good_laws.specs.Well.{IsWell}
use Rattle.ode_good_laws.proofs.PastLaws.{KeepsPasts, Pastings, pasts_keep, begun_pasts, commit_pasts, abort_pasts}
use Rattle.ode_good_laws.proofs.DistinctLaws.{begun_distinct, Within, Withins, within_keeps, Leaves, commit_leaves, abort_leaves, good_distinct}

-- ---- from all that is kept, good again

some_is : (m : Option Class) (c : Class) → m ≡ Some c → IsSome m
some_is (Some d) c e = refl
some_is None c e = absurd (cc)

if_some : {X : Type 0} (P : X → Type 0) (m : Option X) (x : X) → m ≡ Some x → P x → IfSome m P
if_some P (Some y) x e h = let same : x ≡ y = cc in subst P same h
if_some P None x e h = tt

module _ (b : Bones) (typed : IsTypedWorld b) (ordered : IsOrdered b) (counted : AreCounted b) where
  live : AllByRecursion (λ (o : Object). o.live ≡ true) b.objects
  live = all-then IsWhole (λ (o : Object). o.live ≡ true) (λ o h. h.live) b.objects typed.whole

  same : all_alive b ≡ b
  same = ap (λ os. record b { objects = os }) (alive_same b.objects live)

  version_good : (c : Class) (last : ℕ) (v : Version) → FitsVersion b c last v → IsVersion b c last v
  version_good c last v h = record { number = h.number; parent = h.parent; stamp = h.stamp; fields = subst (λ d. FitFields d c.fields v.fields) same h.fields; later = h.later }

  object_good : (o : Object) → FitsWorld b o → IsWhole o → HasNumbers b.next o → HasVersions o → IsObject b o
  object_good o h whole has versions = record {
    number = h.number;
    class = some_is (class_numbered o.class b.classes) h.class h.known;
    live = whole.live;
    last = h.last;
    some = versions.some;
    rising = versions.rising;
    versions = if_some (λ c. AllByRecursion (IsVersion b c o.last) o.versions) (class_numbered o.class b.classes) h.class h.known (all-then (FitsVersion b h.class o.last) (IsVersion b h.class o.last) (version_good h.class o.last) o.versions h.versions);
    rising_activations = has.rising;
    activations = all-then (λ (a : Activation). (HaveTrigger (all_alive b) a.args (trigger_in b.classes o.class a) × (a.on ≡ true)) × (a.number < b.next)) (IsActivation b o.class)
        (λ a g. record { trigger = subst (λ d. HaveTrigger d a.args (trigger_in b.classes o.class a)) same g.0.0; number = g.1; on = g.0.1 }) o.activations
        (both (λ (a : Activation). HaveTrigger (all_alive b) a.args (trigger_in b.classes o.class a) × (a.on ≡ true)) (λ (a : Activation). a.number < b.next) o.activations
        (both (λ (a : Activation). HaveTrigger (all_alive b) a.args (trigger_in b.classes o.class a)) (λ (a : Activation). a.on ≡ true) o.activations h.activations whole.on) has.activations);
  }

  objects_good : AllByRecursion (IsObject b) b.objects
  objects_good =
      all-then (λ (o : Object). (FitsWorld b o × IsWhole o) × (HasNumbers b.next o × HasVersions o)) (IsObject b) (λ o h. object_good o h.0.0 h.0.1 h.1.0 h.1.1) b.objects
      (both (λ (o : Object). FitsWorld b o × IsWhole o) (λ (o : Object). HasNumbers b.next o × HasVersions o) b.objects
      (both (FitsWorld b) IsWhole b.objects typed.fit.objects typed.whole) (both (HasNumbers b.next) HasVersions b.objects ordered.numbered.objects ordered.versions))

  some_of : (m : Option Trigger) → IsSomeAnd m (λ t. Unit {0}) → IsSome m
  some_of (Some t) h = refl
  some_of None h = absurd h

  entry_good : (q : ℕ × Entry) → FitsEntry b q.1 → IsQueued b.next_entry q → IsEntry b q
  entry_good q h queued = record {
    number = queued.0;
    generation = queued.1;
    trigger = subst (λ d. HaveTrigger d q.1.args (trigger_at b.classes q.1.class q.1.trigger)) same h.trigger;
    object = h.drawn;
    fits = by_object (object_at b q.1.object) refl;
  }
    where
      by_object : (m : Option Object) → object_at b q.1.object ≡ m → IfSome m (λ o. IsSome (trigger_in b.classes o.class (activation_of q.1)))
      by_object (Some o) e = some_of (trigger_in b.classes o.class (activation_of q.1)) (h.object o (at_numbered b q.1.object o e))
      by_object None e = tt

  queue_good : AllByRecursion (IsEntry b) b.queue
  queue_good =
      all-then (λ (q : ℕ × Entry). FitsEntry b q.1 × IsQueued b.next_entry q) (IsEntry b) (λ q h. entry_good q h.0 h.1) b.queue
      (both (λ (q : ℕ × Entry). FitsEntry b q.1) (IsQueued b.next_entry) b.queue typed.queue counted.queue)

ones_again : (b : Bones) → AllByRecursion (FitsWorld b) b.objects → AreFromOne b
ones_again b all = all-then (FitsWorld b) (λ (o : Object). AllByRecursion (λ (v : Version). 0 < v.number) o.versions) (λ o h. all-then (FitsVersion b h.class o.last) (λ (v : Version). 0 < v.number) (λ v is. is.some) o.versions h.versions) b.objects all

-- ---- a whole transaction

light_of : (p : Outcome Histories Starts (Unit {0})) (x : ListTx) → go_on p (λ u. completes lists) ≡ Done tt x → weight (kept_bones x.now.bones) ≤ weight_limit
light_of (Done r y) x e = completion_light lists y x e
light_of (Aborted r y) x e = absurd (cc)

-- ---- what a transaction leaves, by what it has kept

-- classes, and the fields that were added to them
pub record HaveClasses (l : Language) (cs : List Declared) (added : List Added) : Type 0 where
  pub classes : AreClasses l added [] cs
  pub births : AreAdded cs 1 added
  pub few : length added < 2 ^ 32

pub good_classes : (l : Language) (b : Bones) → AreBones l b → HaveClasses l b.classes b.added
good_classes l b good = record { classes = good.classes; births = good.added; few = good.few_added }

module _ (w : ListWorld) (origin : Origin) where
  -- a transaction from a world has kept its classes, its numbers, its bounds and its pasts
  pub record HasKept (x : ListTx) : Type 0 where
    pub classes : x.now.bones.classes ≡ w.bones.classes
    pub within : Within lists w origin x
    pub counts : CountsOn x
    pub pasts : KeepsPasts x

  -- and its weight: of what it did, or of the world that it goes back to
  abbrev pub KeepsAll : Outcome Histories Starts (Unit {0}) → Type 0
  KeepsAll (Done r x) = HasKept x × (weight (kept_bones x.now.bones) ≤ weight_limit)
  KeepsAll (Aborted r x) = HasKept x × (weight w.bones ≤ weight_limit)

  -- what a settled transaction leaves
  record Left (s : Settled Histories Starts) : Type 0 where
    leaves : Leaves lists w origin s.0.bones
    counted : AreCounted s.0.bones
    light : weight s.0.bones ≤ weight_limit
    pasts : AllZip IsPast s.0.bones.objects s.0.pasts

  left_over : (p : Outcome Histories Starts (Unit {0})) → KeepsAll p → Left (settle lists p)
  left_over (Done r x) kept = record {
    leaves = commit_leaves lists w origin x kept.0.classes kept.0.within;
    counted = commit_counted lists x kept.0.counts;
    light = commit_light lists x kept.1;
    pasts = commit_pasts x kept.0.pasts;
  }
  left_over (Aborted r x) kept = record {
    leaves = abort_leaves lists w origin r x kept.0.within;
    counted = abort_counted lists r x kept.0.counts;
    light = abort_light lists r x (subst (λ (u : ListWorld). weight u.bones ≤ weight_limit) (sym kept.0.within.first) kept.1);
    pasts = abort_pasts r x kept.0.pasts kept.0.within.distinct.next;
  }

  module _ (l : Language) (classes : HaveClasses l w.bones.classes w.bones.added) (left : w.bones.transaction < transaction_limit) (clock : IfSome (clock_after origin w.bones.clock) IsPosition) where
    pub settled_again : (p : Outcome Histories Starts (Unit {0})) → KeepsAll p → IsOrdered (settle lists p).0.bones → IsTypedWorld (settle lists p).0.bones → IsWell l (settle lists p).0
    settled_again p kept ordered typed =
        let b = (settle lists p).0.bones in
        let rest = left_over p kept in
        let leaves = rest.leaves in
        let again : HaveClasses l b.classes b.added =
        subst (λ cs. HaveClasses l cs b.added) (sym leaves.classes) (subst (HaveClasses l w.bones.classes) (sym leaves.added) classes) in
        record {
          good = record {
            bones = record {
              classes = again.classes;
              added = again.births;
              few_added = again.few;
              rising = typed.fit.rising;
              objects = objects_good b typed ordered rest.counted;
              numbers = leaves.distinct.distinct;
              next = typed.fit.next;
              transaction = record { some = omega (arith, leaves.transaction); bounded = omega (arith, leaves.transaction, left) };
              next_entry = rest.counted.next_entry;
              few = rest.counted.few;
              rising_queue = rest.counted.rising;
              queue = queue_good b typed ordered rest.counted;
              clock = subst (λ c. IfSome c IsPosition) (sym leaves.clock) clock;
              light = rest.light;
            };
            pasts = rest.pasts;
          };
          sound = typed.sound;
          ones = ones_again b typed.fit.objects;
        }

module _ (l : Language) (w : ListWorld) (h : IsWell l w) (left : w.bones.transaction < transaction_limit) where
  typed_first : IsTypedWorld w.bones
  typed_first = good_typed l w h.good h.sound h.ones

  module _ (origin : Origin) (n : ℕ) (work : Past Histories Starts → Deed Histories Starts) (each : (s : Sides Histories Starts Histories Starts) → Alike s n 0 (work s.past) (work s.other)) (clock : IfSome (clock_after origin w.bones.clock) IsPosition) where
    abbrev outcome : Outcome Histories Starts (Unit {0})
    outcome = go_on (work lists (begun origin w)) (λ u. completes lists)

    abbrev Kept : (Holds : ℕ → ListTx → Type 0) → Keeps lists Holds → Outcome Histories Starts (Unit {0}) → Type 0
    Kept Holds k p = EndsBy (Alone lists Holds k w.bones.classes 0) (Alone lists Holds k w.bones.classes 0) p p

    over : (Holds : ℕ → ListTx → Type 0) (k : Keeps lists Holds) → Holds n (begun origin w) → Kept Holds k outcome
    over Holds k holds =
        let s = alone lists Holds k w.bones.classes in
        next_alike s n 0 0 (work lists) (work lists) (each s) (completes lists) (completes lists) (completes_alike s 0) (begun origin w) (begun origin w) (refl, refl, holds)

    kept_all : KeepsAll w origin outcome
    kept_all =
        by_outcome outcome (over (Counting lists) (counting_keeps lists) (begun_counted origin w (good_counted l w h.good)))
        (over (Withins lists w origin) (within_keeps lists w origin) (record { first = refl; origin = refl; added = refl; distinct = begun_distinct origin w (good_distinct l w h.good) }))
        (over Pastings pasts_keep (begun_pasts origin w (good_numbered l w h.good) h.good.pasts)) (light_of (work lists (begun origin w)))
      where
        by_outcome : (p : Outcome Histories Starts (Unit {0})) → Kept (Counting lists) (counting_keeps lists) p → Kept (Withins lists w origin) (within_keeps lists w origin) p → Kept Pastings pasts_keep p
            → ((x : ListTx) → p ≡ Done tt x → weight (kept_bones x.now.bones) ≤ weight_limit) → KeepsAll w origin p
        by_outcome (Done r x) counts within pasts light = (record { classes = within.1.1; within = within.1.2; counts = counts.1.2; pasts = pasts.1.2 }, light x refl)
        by_outcome (Aborted r x) counts within pasts light = (record { classes = within.1.1; within = within.1.2; counts = counts.1.2; pasts = pasts.1.2 }, h.good.bones.light)

    pub well_again : IsTypedWorld (transaction lists origin (work lists) w).0.bones → IsWell l (transaction lists origin (work lists) w).0
    unfolding transaction
    well_again typed =
        settled_again w origin l (good_classes l w.bones h.good.bones) left clock outcome kept_all
        (transaction_follows lists w.bones (good_ordered l w h.good) origin n (work lists) w refl (λ cs. each (followed lists w.bones (good_ordered l w h.good) cs))).ordered typed

    -- its number is the next one
    pub moves_on : (transaction lists origin (work lists) w).0.bones.transaction ≡ w.bones.transaction + 1
    unfolding transaction
    moves_on = (left_over w origin outcome kept_all).leaves.transaction

  pub statement_well : (literals : List (Ref × ℕ)) → AllByRecursion (FitsLiteral w.bones) literals → (s : Stmt) → IsTypedStatement (checked_classes w.bones.classes) literals s
      → IsWell l (transaction lists Script (commands lists s) w).0
  statement_well literals known s typed =
      well_again Script 0 (λ past. commands past s) (λ t. commands_alike t 0 s) h.good.bones.clock
      (whole_typed lists Script (commands lists s) w typed_first (statement_typed lists (begun Script w) (begun_typed Script w typed_first) literals known s typed))

  pub entry_well : (q : ℕ × Entry) → FitsEntry w.bones q.1 → IsWell l (entry_settled lists w q).0
  entry_well q fits = well_again (Queue q.0 q.1.generation) 1 (λ past. runs_entry past q.1) (λ t. entry_alike t 0 q.1) h.good.bones.clock (entry_typed lists w typed_first q fits)

  pub entry_moves : (q : ℕ × Entry) → (entry_settled lists w q).0.bones.transaction ≡ w.bones.transaction + 1
  entry_moves q = moves_on (Queue q.0 q.1.generation) 1 (λ past. runs_entry past q.1) (λ t. entry_alike t 0 q.1) h.good.bones.clock

  -- a tick of the clock, and the move that ends a clock command
  pub tick_well : (p : Position) → IsPosition p → IsWell l (tick lists p w).0
  tick_well p is = well_again (Clock p) 1 (λ past. ticks past p) (λ t. ticks_alike t p) is (tick_typed p w typed_first)

  pub tick_moves : (p : Position) → IsPosition p → (tick lists p w).0.bones.transaction ≡ w.bones.transaction + 1
  tick_moves p is = moves_on (Clock p) 1 (λ past. ticks past p) (λ t. ticks_alike t p) is

  pub move_well : (p : Position) → IsPosition p → IsWell l (transaction lists (Clock p) nothing w).0
  move_well p is = well_again (Clock p) 0 (λ past. nothing) (λ t. done_alike t 0 tt) is (move_typed p w typed_first)

-- ---- drains

pub drain_number : (w : ListWorld) → nat_lt w.bones.transaction number_limit ≡ true → w.bones.transaction < transaction_limit
drain_number w e = let less : w.bones.transaction < number_limit = ltb-true w.bones.transaction number_limit e in omega arith

pub drain_well : (l : Language) (most : ℕ) (w : ListWorld) → IsWell l w → AllByRecursion (λ (s : Settled Histories Starts). IsWell l s.0) (drain lists most w)
unfolding drain
drain_well l zero w h = tt
drain_well l (suc most) w h = by_queue w.bones.queue (good_typed l w h.good h.sound h.ones).queue (λ s well. (well, drain_well l most s.0 well)) where
  by_room : (q : ℕ × Entry) → FitsEntry w.bones q.1 → (t : Bool) → nat_lt w.bones.transaction number_limit ≡ t → ((s : Settled Histories Starts) → IsWell l s.0 → AllByRecursion (λ (s : Settled Histories Starts). IsWell l s.0) (s ∷ drain lists most s.0))
      → AllByRecursion (λ (s : Settled Histories Starts). IsWell l s.0) (cond t (entry_settled lists w q ∷ drain lists most (entry_settled lists w q).0) [])
  by_room q fits true left rest = rest (entry_settled lists w q) (entry_well l w h (drain_number w left) q fits)
  by_room q fits false left rest = tt

  by_queue : (qs : List (ℕ × Entry)) → AllByRecursion (λ (q : ℕ × Entry). FitsEntry w.bones q.1) qs → ((s : Settled Histories Starts) → IsWell l s.0 → AllByRecursion (λ (s : Settled Histories Starts). IsWell l s.0) (s ∷ drain lists most s.0))
      → AllByRecursion (λ (s : Settled Histories Starts). IsWell l s.0) (front lists qs w (λ s. s ∷ drain lists most s.0))
  by_queue [] all rest = tt
  by_queue (q ∷ qs) all rest = by_room q all.0 (nat_lt w.bones.transaction number_limit) refl rest
