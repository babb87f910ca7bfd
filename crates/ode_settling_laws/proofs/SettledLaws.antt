-- What stands behind a settling is the world that it leaves.
use Rattle.std.proofs.Common.{◌≡◌, ◌==◌, inl, inr, ℕ, ◌<◌, List, [], ◌∷◌, ◌++◌, length, map, Bool, true, false, cond, Option, Some, None, refl, sym, ap, subst, ◌∙◌}
use Rattle.std.proofs.lemmas.Bool.{eq-eqb, eqb-true}
use Rattle.std.specs.Prelude.{◌||◌}
use Rattle.std.specs.List.{AllByRecursion, enumerate_from, find, list_any}
use Rattle.std.specs.Option.{option_and_then, option_map, option_map_or, unwrap_or}
use Rattle.ode_codec.specs.Standing.{HoldsWorld}
use Rattle.ode_codec.specs.StoredRows.{Stored, activation_row, activation_rows, counters_row, entry_row, object_row, rows, state_in, state_of, version_rows}
use Rattle.ode_codec.specs.declared.record.Counters.{Counters}
use Rattle.ode_keep.specs.Entries.{Entries, value_under}
use Rattle.ode_laws.proofs.AlikePairs.{all_found}
use Rattle.ode_laws.proofs.BornLaws.{newest_born}
use Rattle.ode_laws.proofs.Each.{all-then}
use Rattle.ode_laws.proofs.KeptRows as kept
use Rattle.ode_laws.proofs.Rows.{id_of, numbered_id}
use Rattle.ode_laws.specs.Alike.{NumberTx, NumberWorld}
use Rattle.ode_laws.specs.Numbered.{AreNumbered, HasNumbers}
use Rattle.ode_objects.specs.Objects.{has_number, is_numbered}
use Rattle.ode_objects.specs.declared.object.Object as tracked
use Rattle.ode_objects.specs.declared.tracked.Tracked.{Tracked}
use Rattle.ode_overlay.specs.After.{counted_after, held_after, is_among, queued_after, ran_after, stands_after, value_after}
use Rattle.ode_overlay.specs.Layers.{Layer, tracked_at}
use Rattle.ode_overlay.specs.Records.{becomes, becomes_of}
use Rattle.ode_overlay_laws.specs.Standing.{Stands, active_as, collected_as, kept_as, object_as, origin_as, version_as}
use Rattle.ode_settling_laws.proofs.ApartLaws.{IsOutside, no_entry, not_counted, not_held, not_ran, outside_kinds, outside_objects}
use Rattle.ode_settling_laws.proofs.CounterLaws.{counters_left}
use Rattle.ode_settling_laws.proofs.KeptLaws.{NumberKept, good_kept, kept_by, kept_live, kept_numbered, kept_rows, same_state}
use Rattle.ode_settling_laws.proofs.KindLaws.{activation_stands, class_stands, counters_stand, declared_rows, entry_stands, no_object, object_stands, version_stands}
use Rattle.ode_settling_laws.proofs.PartLaws.{HasAllIfNewest, HasStored, actives_stand, all_stored, number_of, of_number, versions_stand}
use Rattle.ode_settling_laws.proofs.QueueLaws.{queue_stands}
use Rattle.ode_settling_laws.specs.Formed.{AreNewest, IsFormed, IsOwn, active_value, object_value, value_in, version_value}
use Rattle.ode_value.specs.Denoting.{if_live, object_numbered}
use Rattle.ode_value.specs.Fields.{fields_of}
use Rattle.ode_value.specs.GoodWorlds.{AreBones, IsEntry, IsObject, RiseFrom}
use Rattle.ode_value.specs.Keeping.{has_activation, kept_bones, kept_object, kept_past}
use Rattle.ode_value.specs.Keys.{activation_key, object_key, version_key}
use Rattle.ode_value.specs.Language.{Language, ListWorld}
use Rattle.ode_value.specs.Objects.{Activation}
use Rattle.ode_value.specs.Posting.{waiting}
use Rattle.ode_value.specs.Settling.{entry_in, settled_world}
use Rattle.ode_value.specs.Transactions.{Collected, Origin}
use Rattle.ode_value.specs.Worlds.{Declared, Entry, Object, kept_at}
use Rattle.ode_value.specs.declared.change.Added.{Added}
use Rattle.ode_value.specs.declared.class.Field.{Field}
use Rattle.ode_value.specs.declared.key.Key.{Key}

abbrev Value : Type 0
Value = Option (List ℕ)

or_right : (b c : Bool) → c ≡ true → (b || c) ≡ true
or_right true c is = refl
or_right false c is = is

map_alike : {X Y : Type 0} (f g : X → Y) (xs : List X) → AllByRecursion (λ x. f x ≡ g x) xs → map f xs ≡ map g xs
map_alike f g [] alike = refl
map_alike {X} {Y} f g (x ∷ xs) alike = ap (λ (y : Y). y ∷ map f xs) alike.0 ∙ ap (λ (ys : List Y). g x ∷ ys) (map_alike f g xs alike.1)

-- an object has its activations
each_has : (acts : List Activation) → AllByRecursion (λ (a : Activation). list_any (of_number a.number) acts ≡ true) acts
each_has [] = tt
each_has (a ∷ acts) = (
  ap (λ t. t || list_any (of_number a.number) acts) (eq-eqb a.number a.number refl),
  all-then (λ (c : Activation). list_any (of_number c.number) acts ≡ true) (λ (c : Activation). list_any (of_number c.number) (a ∷ acts) ≡ true)
      (λ c has. or_right (a.number == c.number) (list_any (of_number c.number) acts) has) acts (each_has acts),
)

module _ (l : Language) (s : Stored) (x : Layer) (y : NumberTx) (good : AreBones l s.world.bones) (first : y.first ≡ s.world) (stands : Stands x y) (numbered : AreNumbered y.now.bones)
    (classes : y.now.bones.classes ≡ y.first.bones.classes) (left_good : AreBones l (settled_world y).bones) (formed : IsFormed s.world.bones.classes (rows s) x) where
  abbrev base : Entries
  base = rows s

  abbrev left : NumberWorld
  left = settled_world y

  abbrev after : Stored
  after = record { world = left; tables = s.tables }

  abbrev there : Key → Value
  there q = value_under (rows after) q

  abbrev objects : List Object
  objects = left.bones.objects

  -- the classes are those of the first world
  classes_stay : left.bones.classes ≡ s.world.bones.classes
  classes_stay = classes ∙ ap (λ (w : NumberWorld). w.bones.classes) first

  -- and so are the fields that were added
  added_stay : left.bones.added ≡ s.world.bones.added
  added_stay = stands.added ∙ ap (λ (w : NumberWorld). w.bones.added) first

  -- the newest stamp
  abbrev newest : ℕ
  newest = length left.bones.added

  first_newest : x.first.added ≡ newest
  first_newest = ap (λ (c : Counters). c.added) stands.counters ∙ ap length (sym stands.added)

  -- ---- objects by number

  rising : RiseFrom 0 (map id_of objects)
  rising = (kept.kept_numbered y.now.bones numbered).rising

  object_left : (id : ℕ) → object_numbered id objects ≡ option_and_then kept_live (object_numbered id y.now.bones.objects)
  object_left id = kept_numbered id 0 y.now.bones.objects numbered.rising

  -- one that is tracked
  object_there : (id : ℕ) (t : Tracked) → tracked_at id x ≡ Some t → object_numbered id objects ≡ cond t.current.live (Some (kept_object (object_as id t.current))) None
  object_there id t is = object_left id ∙ ap (option_and_then kept_live) (stands.tracked id t is).object

  -- one that isn't
  first_object : (id : ℕ) → tracked_at id x ≡ None → object_numbered id y.now.bones.objects ≡ object_numbered id s.world.bones.objects
  first_object id none = (stands.others id none).object ∙ ap (λ (w : NumberWorld). object_numbered id w.bones.objects) first

  stays : (id : ℕ) (f : Option Object) → object_numbered id s.world.bones.objects ≡ f → option_and_then kept_live f ≡ f
  stays id None is = refl
  stays id (Some o) is = good_kept s.world.bones o (all_found (IsObject s.world.bones) id s.world.bones.objects good.objects o is)

  object_stays : (id : ℕ) → tracked_at id x ≡ None → object_numbered id objects ≡ object_numbered id s.world.bones.objects
  object_stays id none = object_left id ∙ ap (option_and_then kept_live) (first_object id none) ∙ stays id (object_numbered id s.world.bones.objects) refl

  -- ---- state numbers

  kept_left : (id : ℕ) → kept_at id left.pasts ≡ option_and_then (kept_by (kept_bones y.now.bones) id) (kept_at id y.now.pasts)
  kept_left id = kept_rows (kept_bones y.now.bones) id y.now.pasts

  abbrev live_left : ℕ → Option Object → Option NumberKept → Option NumberKept
  live_left id f m = option_and_then (λ (k : NumberKept). option_map (λ (o : Object). kept_past k o) (option_and_then if_live f)) m

  -- the state number of an activation that a live object has
  state_left : (id n : ℕ) (o : Object) (m : Option NumberKept) → object_numbered id objects ≡ Some o → o.live ≡ true → kept_at id y.now.pasts ≡ m → has_activation o n ≡ true
      → state_of left id n ≡ option_map_or (state_in n) m 0
  state_left id n o m at live kept has =
      ap (λ (f : Option NumberKept). option_map_or (state_in n) f 0)
      (kept_left id ∙ ap (option_and_then (kept_by (kept_bones y.now.bones) id)) kept
      ∙ ap (λ (f : Option Object). live_left id f m) at
      ∙ ap (λ t. option_and_then (λ (k : NumberKept). option_map (λ (p : Object). kept_past k p) (cond t (Some o) None)) m) live)
      ∙ by_kept m where
        by_kept : (f : Option NumberKept) → option_map_or (state_in n) (option_and_then (λ (k : NumberKept). Some (kept_past k o)) f) 0 ≡ option_map_or (state_in n) f 0
        by_kept None = refl
        by_kept (Some k) = same_state k o n has

  -- ---- an object that isn't tracked

  module _ (id : ℕ) (none : tracked_at id x ≡ None) where
    object_same : there (object_key id) ≡ value_under base (object_key id)
    object_same = object_stands after id ∙ ap (option_map (λ (o : Object). (object_row o).1)) (object_stays id none) ∙ sym (object_stands s id)

    version_same : (n : ℕ) → there (version_key id n) ≡ value_under base (version_key id n)
    version_same n =
        version_stands after rising id n
        ∙ ap (λ (cs : List Declared). option_and_then (λ (o : Object). value_under (version_rows cs o) (version_key id n)) (object_numbered id objects)) classes_stay
        ∙ ap (option_and_then (λ (o : Object). value_under (version_rows s.world.bones.classes o) (version_key id n))) (object_stays id none)
        ∙ sym (version_stands s good.rising id n)

    states_same : (o : Object) → object_numbered id s.world.bones.objects ≡ Some o → o.id ≡ id → AllByRecursion (λ (a : Activation). state_of left o.id a.number ≡ state_of s.world o.id a.number) o.activations
    states_same o at same =
        let its = all_found (IsObject s.world.bones) id s.world.bones.objects good.objects o at in
        all-then (λ (a : Activation). has_activation o a.number ≡ true) (λ (a : Activation). state_of left o.id a.number ≡ state_of s.world o.id a.number)
        (λ a has. subst (λ i. state_of left i a.number ≡ state_of s.world i a.number) (sym same)
        (state_left id a.number o (kept_at id y.now.pasts) (object_stays id none ∙ at) its.live refl has
        ∙ ap (λ (m : Option NumberKept). option_map_or (state_in a.number) m 0) ((stands.others id none).kept ∙ ap (λ (w : NumberWorld). kept_at id w.pasts) first)))
        o.activations (each_has o.activations)

    activation_same : (n : ℕ) → there (activation_key id n) ≡ value_under base (activation_key id n)
    activation_same n =
        activation_stands after rising id n
        ∙ ap (option_and_then (λ (o : Object). value_under (activation_rows left o) (activation_key id n))) (object_stays id none)
        ∙ by_object (object_numbered id s.world.bones.objects) refl
        ∙ sym (activation_stands s good.rising id n) where
          by_object : (f : Option Object) → object_numbered id s.world.bones.objects ≡ f
              → option_and_then (λ (o : Object). value_under (activation_rows left o) (activation_key id n)) f ≡ option_and_then (λ (o : Object). value_under (activation_rows s.world o) (activation_key id n)) f
          by_object None is = refl
          by_object (Some o) is =
              ap (λ (es : Entries). value_under es (activation_key id n))
              (map_alike (λ (a : Activation). activation_row o.id (state_of left o.id a.number) a) (λ (a : Activation). activation_row o.id (state_of s.world o.id a.number) a) o.activations
              (all-then (λ (a : Activation). state_of left o.id a.number ≡ state_of s.world o.id a.number)
              (λ (a : Activation). activation_row o.id (state_of left o.id a.number) a ≡ activation_row o.id (state_of s.world o.id a.number) a)
              (λ a same. ap (λ m. activation_row o.id m a) same) o.activations (states_same o is (numbered_id id s.world.bones.objects o is))))

  -- ---- one that is

  module _ (id : ℕ) (t : Tracked) (is : tracked_at id x ≡ Some t) where
    abbrev o : tracked.Object
    o = t.current

    abbrev its : Object
    its = kept_object (object_as id o)

    object_own : there (object_key id) ≡ value_in s.world.bones.classes (object_key id) o
    object_own = object_stands after id ∙ ap (option_map (λ (p : Object). (object_row p).1)) (object_there id t is) ∙ by_live o.live where
      by_live : (b : Bool) → option_map (λ (p : Object). (object_row p).1) (cond b (Some (kept_object (object_as id t.current))) None) ≡ cond b (Some (object_value id t.current)) None
      by_live true = refl
      by_live false = refl

    -- the fields of its class
    abbrev fields : List Field
    fields = fields_of s.world.bones.classes o.class

    object_live : o.live ≡ true → object_numbered id objects ≡ Some its
    object_live live = object_there id t is ∙ ap (λ b. cond b (Some its) None) live

    versions_stored : o.live ≡ true → AllByRecursion (HasStored fields) o.versions
    versions_stored live =
        let each : AllByRecursion (HasAllIfNewest newest (fields_of left.bones.classes o.class)) (map version_as o.versions) =
        newest_born l left.bones left_good.classes its (all_found (IsObject left.bones) id objects left_good.objects its (object_live live)) in
        all_stored newest fields o.versions (subst (λ (cs : List Declared). AllByRecursion (HasAllIfNewest newest (fields_of cs o.class)) (map version_as o.versions)) classes_stay each)
        (subst (λ n. AreNewest n o) first_newest (formed.newest id t is).0)

    version_own : (n : ℕ) → there (version_key id n) ≡ value_in s.world.bones.classes (version_key id n) o
    version_own n =
        version_stands after rising id n
        ∙ ap (λ (cs : List Declared). option_and_then (λ (p : Object). value_under (version_rows cs p) (version_key id n)) (object_numbered id objects)) classes_stay
        ∙ ap (option_and_then (λ (p : Object). value_under (version_rows s.world.bones.classes p) (version_key id n))) (object_there id t is)
        ∙ by_live o.live refl where
          by_live : (b : Bool) → t.current.live ≡ b → option_and_then (λ (p : Object). value_under (version_rows s.world.bones.classes p) (version_key id n)) (cond b (Some (kept_object (object_as id t.current))) None)
              ≡ cond b (option_map (version_value fields) (find (is_numbered n) t.current.versions)) None
          by_live true live = versions_stand id n fields t.current.versions (versions_stored live)
          by_live false live = refl

    rise : RiseFrom 0 (map number_of (map active_as o.activations))
    rise = (all_found (HasNumbers y.now.bones.next) id y.now.bones.objects numbered.objects (object_as id o) (stands.tracked id t is).object).rising

    states : o.live ≡ true → (m : ℕ) → has_activation its m ≡ true → state_of left id m ≡ unwrap_or (kept_at m (kept_as o).activations) 0
    states live m has = state_left id m its (Some (kept_as o)) (object_live live) live (stands.tracked id t is).kept has

    activation_own : (n : ℕ) → there (activation_key id n) ≡ value_in s.world.bones.classes (activation_key id n) o
    activation_own n =
        activation_stands after rising id n ∙ ap (option_and_then (λ (p : Object). value_under (activation_rows left p) (activation_key id n))) (object_there id t is) ∙ by_live o.live refl where
          by_live : (b : Bool) → t.current.live ≡ b → option_and_then (λ (p : Object). value_under (activation_rows left p) (activation_key id n)) (cond b (Some (kept_object (object_as id t.current))) None)
              ≡ cond b (option_and_then (active_value id) (find (has_number n) t.current.activations)) None
          by_live true live = actives_stand id n (state_of left id) t.current.activations rise (states live)
          by_live false live = refl

    own_value : (q : Key) → IsOwn q → q.a ≡ id → there q ≡ value_in s.world.bones.classes q o
    own_value q (inl e) same = subst (λ k. there k ≡ value_in s.world.bones.classes k o) (sym e) (subst (λ n. there (object_key n) ≡ value_in s.world.bones.classes (object_key n) o) (sym same) object_own)
    own_value q (inr (inl e)) same = subst (λ k. there k ≡ value_in s.world.bones.classes k o) (sym e) (subst (λ n. there (version_key n q.b) ≡ value_in s.world.bones.classes (version_key n q.b) o) (sym same) (version_own q.b))
    own_value q (inr (inr e)) same = subst (λ k. there k ≡ value_in s.world.bones.classes k o) (sym e) (subst (λ n. there (activation_key n q.b) ≡ value_in s.world.bones.classes (activation_key n q.b) o) (sym same) (activation_own q.b))

  -- ---- keys of objects, versions and activations

  own_same : (q : Key) → IsOwn q → tracked_at q.a x ≡ None → there q ≡ value_under base q
  own_same q (inl e) none = subst (λ k. there k ≡ value_under base k) (sym e) (object_same q.a none)
  own_same q (inr (inl e)) none = subst (λ k. there k ≡ value_under base k) (sym e) (version_same q.a none q.b)
  own_same q (inr (inr e)) none = subst (λ k. there k ≡ value_under base k) (sym e) (activation_same q.a none q.b)

  itself : (b : Bool) (v : Value) → cond b v v ≡ v
  itself true v = refl
  itself false v = refl

  untouched : (q : Key) (v : Value) → tracked_at q.a x ≡ None → held_after x q v ≡ v
  unfolding becomes
  untouched q v none = ap (λ (f : Option Tracked). cond (is_among q x.keys) (value_after (becomes_of q f) v) v) none ∙ itself (is_among q x.keys) v

  own_stands : (q : Key) → IsOwn q → (f : Option Tracked) → tracked_at q.a x ≡ f → held_after x q (value_under base q) ≡ there q
  own_stands q own None is = untouched q (value_under base q) is ∙ sym (own_same q own is)
  own_stands q own (Some t) is = formed.each q.a t q is own refl ∙ sym (own_value q.a t is q own refl)

  -- ---- any key

  abbrev Goal : Key → Type 0
  Goal q = stands_after x base q ≡ there q

  own_goal : (q : Key) → IsOwn q → (1 == q.kind) ≡ false → (9 == q.kind) ≡ false → Goal q
  unfolding stands_after
  own_goal q own a1 a9 =
      no_entry x.first.next_entry x.collected q (held_after x q (ran_after x.origin q (counted_after x q (value_under base q)))) a9
      ∙ ap (held_after x q) (not_ran x.origin q (counted_after x q (value_under base q)) a9 ∙ not_counted x q (value_under base q) a1)
      ∙ own_stands q own (tracked_at q.a x) refl

  -- one that isn't held
  outside_goal : (q : Key) → IsOutside q → (9 == q.kind) ≡ false → counted_after x q (value_under base q) ≡ there q → Goal q
  unfolding stands_after
  outside_goal q out a9 same =
      no_entry x.first.next_entry x.collected q (held_after x q (ran_after x.origin q (counted_after x q (value_under base q)))) a9
      ∙ not_held x q (ran_after x.origin q (counted_after x q (value_under base q))) formed.keys out
      ∙ not_ran x.origin q (counted_after x q (value_under base q)) a9 ∙ same

  class_goal : (q : Key) → (1 == q.kind) ≡ false → (6 == q.kind) ≡ false → (7 == q.kind) ≡ false → (8 == q.kind) ≡ false → (9 == q.kind) ≡ false → Goal q
  class_goal q a1 a6 a7 a8 a9 =
      outside_goal q (outside_kinds q a6 a7 a8) a9
      (not_counted x q (value_under base q) a1 ∙ class_stands s q a1 a6 a7 a8 a9
      ∙ ap (λ (cs : List Declared). value_under (declared_rows s.tables cs s.world.bones.added) q) (sym classes_stay)
      ∙ ap (λ (added : List Added). value_under (declared_rows s.tables left.bones.classes added) q) (sym added_stay)
      ∙ sym (class_stands after q a1 a6 a7 a8 a9))

  counters_goal : (q : Key) → q.kind ≡ 1 → Goal q
  counters_goal q is =
      outside_goal q (outside_kinds q (ap (λ k. 6 == k) is) (ap (λ k. 7 == k) is) (ap (λ k. 8 == k) is)) (ap (λ k. 9 == k) is)
      (ap (counted_after x q) (counters_stand s q is ∙ ap (λ (w : NumberWorld). value_under (counters_row w.bones ∷ []) q) (sym first))
      ∙ counters_left x y stands q ∙ sym (counters_stand after q is))

  second_goal : (q : Key) → q.kind ≡ 6 → (q.b == 0) ≡ false → Goal q
  second_goal q is other =
      outside_goal q (outside_objects q is other) (ap (λ k. 9 == k) is)
      (not_counted x q (value_under base q) (ap (λ k. 1 == k) is) ∙ no_object s q is other ∙ sym (no_object after q is other))

  next_is : x.first.next_entry ≡ s.world.bones.next_entry
  next_is = ap (λ (c : Counters). c.next_entry) stands.counters ∙ ap (λ (w : NumberWorld). w.bones.next_entry) first

  queue_is : left.bones.queue ≡ waiting (origin_as x.origin) s.world.bones.queue ++ enumerate_from x.first.next_entry (map entry_in (map collected_as x.collected))
  queue_is =
      ap (λ (o : Origin). waiting o y.first.bones.queue ++ enumerate_from y.first.bones.next_entry (map entry_in y.collected)) stands.origin
      ∙ ap (λ (cs : List Collected). waiting (origin_as x.origin) y.first.bones.queue ++ enumerate_from y.first.bones.next_entry (map entry_in cs)) stands.collected
      ∙ ap (λ (w : NumberWorld). waiting (origin_as x.origin) w.bones.queue ++ enumerate_from w.bones.next_entry (map entry_in (map collected_as x.collected))) first
      ∙ ap (λ n. waiting (origin_as x.origin) s.world.bones.queue ++ enumerate_from n (map entry_in (map collected_as x.collected))) (sym next_is)

  drawn : AllByRecursion (λ (e : ℕ × Entry). e.0 < x.first.next_entry) s.world.bones.queue
  drawn = all-then (IsEntry s.world.bones) (λ (e : ℕ × Entry). e.0 < x.first.next_entry) (λ e its. subst (λ n. e.0 < n) (sym next_is) its.number) s.world.bones.queue good.queue

  entry_goal : (q : Key) → q.kind ≡ 9 → Goal q
  unfolding stands_after
  entry_goal q is =
      ap (queued_after x.first.next_entry x.collected q)
      (not_held x q (ran_after x.origin q (counted_after x q (value_under base q))) formed.keys (outside_kinds q (ap (λ k. 6 == k) is) (ap (λ k. 7 == k) is) (ap (λ k. 8 == k) is))
      ∙ ap (ran_after x.origin q) (not_counted x q (value_under base q) (ap (λ k. 1 == k) is) ∙ entry_stands s q is))
      ∙ queue_stands x.origin s.world.bones.queue x.first.next_entry x.collected q drawn
      ∙ ap (λ (es : List (ℕ × Entry)). value_under (map entry_row es) q) (sym queue_is)
      ∙ sym (entry_stands after q is)

  -- ---- by the kinds

  kind_is : (n : ℕ) (q : Key) → (n == q.kind) ≡ true → q.kind ≡ n
  kind_is n q e = sym (eqb-true n q.kind e)

  by_second : (q : Key) → q.kind ≡ 6 → (b : Bool) → (q.b == 0) ≡ b → Goal q
  by_second q is true e =
      let second : q.b ≡ 0 = eqb-true q.b 0 e in
      own_goal q (inl (λ i. record { kind = is i; a = q.a; b = second i })) (ap (λ k. 1 == k) is) (ap (λ k. 9 == k) is)
  by_second q is false e = second_goal q is e

  by_rest : (q : Key) → (6 == q.kind) ≡ false → (7 == q.kind) ≡ false → (8 == q.kind) ≡ false → (b c : Bool) → (9 == q.kind) ≡ b → (1 == q.kind) ≡ c → Goal q
  by_rest q a6 a7 a8 true c e f = entry_goal q (kind_is 9 q e)
  by_rest q a6 a7 a8 false true e f = counters_goal q (kind_is 1 q f)
  by_rest q a6 a7 a8 false false e f = class_goal q f a6 a7 a8 e

  by_kinds : (q : Key) (a b c : Bool) → (6 == q.kind) ≡ a → (7 == q.kind) ≡ b → (8 == q.kind) ≡ c → Goal q
  by_kinds q true b c e f g = by_second q (kind_is 6 q e) (q.b == 0) refl
  by_kinds q false true c e f g =
      let is = kind_is 7 q f in own_goal q (inr (inl (λ i. record { kind = is i; a = q.a; b = q.b }))) (ap (λ k. 1 == k) is) (ap (λ k. 9 == k) is)
  by_kinds q false false true e f g =
      let is = kind_is 8 q g in own_goal q (inr (inr (λ i. record { kind = is i; a = q.a; b = q.b }))) (ap (λ k. 1 == k) is) (ap (λ k. 9 == k) is)
  by_kinds q false false false e f g = by_rest q e f g (9 == q.kind) (1 == q.kind) refl refl

  pub settled_stands : (q : Key) → Goal q
  settled_stands q = by_kinds q (6 == q.kind) (7 == q.kind) (8 == q.kind) refl refl refl

-- from records that hold a world
pub settled_held : (l : Language) (records : Entries) (w : ListWorld) (x : Layer) (y : NumberTx) (held : HoldsWorld l records w) → y.first ≡ held.stored.world → Stands x y → AreNumbered y.now.bones
    → y.now.bones.classes ≡ y.first.bones.classes → AreBones l (settled_world y).bones → IsFormed held.stored.world.bones.classes records x
    → (q : Key) → stands_after x records q ≡ value_under (rows (record { world = settled_world y; tables = held.stored.tables })) q
settled_held l records w x y held first stands numbered classes left formed q =
    ap (λ (es : Entries). stands_after x es q) held.rows
    ∙ settled_stands l held.stored x y (subst (AreBones l) (sym held.stands.bones) held.good.bones) first stands numbered classes left (subst (λ (es : Entries). IsFormed held.stored.world.bones.classes es x) held.rows formed) q
