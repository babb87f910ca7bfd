-- What an abort leaves of objects, and the keys that are held.
use Rattle.std.proofs.Common.{◌≡◌, inl, inr, ℕ, List, [], ◌++◌, Bool, true, false, cond, Option, Some, None, refl, sym, ap, subst, ◌∙◌}
use Rattle.std.specs.BTreeMap.{is_at}
use Rattle.std.specs.List.{find}
use Rattle.std.specs.Map.{lookup}
use Rattle.std.specs.Option.{option_and_then, option_map, option_map_or}
use Rattle.std.specs.Ordering.{nat_cmp}
use Rattle.std.specs.Int.{w16, w32, to_be_bytes}
use Rattle.ode_codec.specs.Standing.{HoldsWorld}
use Rattle.ode_codec.specs.StoredRows.{Stored, activation_row, args_bytes, rows}
use Rattle.ode_formed_laws.proofs.FormedLaws.{after_by}
use Rattle.ode_formed_laws.proofs.ObjectLaws.{by_form}
use Rattle.ode_formed_laws.proofs.SpelledLaws.{same_version, spells_active, spells_again, spells_object}
use Rattle.ode_formed_rewinds.proofs.BytesLaws.{second_same, third_same}
use Rattle.ode_formed_rewinds.proofs.FirstLaws.{first_stands, is_on, live}
use Rattle.ode_keep.specs.Entries.{Entries, value_under}
use Rattle.ode_laws.proofs.Rows.{find-map}
use Rattle.ode_objects.specs.Objects.{has_number}
use Rattle.ode_objects.specs.Records.{object_becomes}
use Rattle.ode_objects.specs.Rewinding.{is_whole, rewound, rewound_active, rewound_by, rewound_object, state_in}
use Rattle.ode_objects.specs.declared.object.Active.{Active}
use Rattle.ode_objects.specs.declared.object.Object.{Object}
use Rattle.ode_objects.specs.declared.tracked.First.{First}
use Rattle.ode_objects.specs.declared.tracked.First.TheVariants.{Same, Other, Absent}
use Rattle.ode_objects.specs.declared.tracked.Tracked.{Tracked}
use Rattle.ode_overlay.specs.After.{held_after, is_among, value_after}
use Rattle.ode_overlay.specs.Layers.{Layer, tracked_at}
use Rattle.ode_overlay.specs.Records.{becomes, becomes_of}
use Rattle.ode_overlay.specs.Rewinding.{rewind, rewound_from}
use Rattle.ode_overlay_laws.specs.Standing.{IsIn, active_as}
use Rattle.ode_settling_laws.proofs.PartLaws.{number_found}
use Rattle.ode_settling_laws.specs.Formed.{AreNewest, HasNewest, IsFormed, IsOwn, WereNewest, active_value, value_in}
use Rattle.ode_value.specs.GoodWorlds.{AreBones}
use Rattle.ode_value.specs.Keys.{activation_key, object_key, version_key}
use Rattle.ode_value.specs.Language.{Language, ListWorld}
use Rattle.ode_value.specs.Making.{stamp_now}
use Rattle.ode_value.specs.declared.class.Class.{Class}
use Rattle.ode_value.specs.declared.key.Key.{Key}
use Rattle.ode_version_laws.proofs.TrackedMaps.{rewound_at}
use Rattle.ode_version_laws.specs.Remembering.{Remembers, WasFirst}

abbrev Bytes : Type 0
Bytes = Option (List ℕ)

-- ---- one object

module _ (l : Language) (s : Stored) (good : AreBones l s.world.bones) (classes : List Class) (id : ℕ) (first now : Object) (at : IsIn s.world id first)
    (newest : AreNewest (stamp_now s.world.bones) first) where
  abbrev left : Object
  left = rewound_object classes first now

  abbrev below : Key → Bytes
  below q = value_under (rows s) q

  -- what stands there now, where it wasn't held
  abbrev Stood : Key → Type 0
  Stood q = below q ≡ value_in s.world.bones.classes q now

  is_first : (q : Key) → IsOwn q → q.a ≡ id → below q ≡ value_in s.world.bones.classes q first
  is_first q own is = first_stands l s good id first at newest q own is

  -- ---- its own record

  object_by : (a b : Bool) → a ≡ true → cond a (Some (to_be_bytes w32 first.class ++ to_be_bytes w32 first.last)) None ≡ cond b (Some (to_be_bytes w32 now.class ++ to_be_bytes w32 now.last)) None
      → cond a (Some (to_be_bytes w32 first.class ++ to_be_bytes w32 first.last)) None ≡ cond a (Some (to_be_bytes w32 first.class ++ to_be_bytes w32 now.last)) None
  object_by true true is same =
      let bytes : to_be_bytes w32 first.class ++ to_be_bytes w32 first.last ≡ to_be_bytes w32 now.class ++ to_be_bytes w32 now.last = cc in
      ap (λ (tail : List ℕ). Some (to_be_bytes w32 first.class ++ tail)) (second_same first.class first.last now.class now.last bytes)
  object_by true false is same = absurd (cc)
  object_by false b is same = refl

  object_left : Stood (object_key id) → below (object_key id) ≡ value_in s.world.bones.classes (object_key id) left
  object_left stood =
      let own = is_first (object_key id) (inl refl) refl in
      own ∙ object_by first.live now.live (live l s good id first at) (sym own ∙ stood)

  -- ---- versions

  version_left : (n : ℕ) → below (version_key id n) ≡ value_in s.world.bones.classes (version_key id n) left
  version_left n = is_first (version_key id n) (inr (inl refl)) refl ∙ sym (same_version s.world.bones.classes id n left first refl refl refl).1

  -- ---- activations

  abbrev bytes_of : Active → List ℕ → List ℕ
  bytes_of a state = to_be_bytes w32 a.class ++ to_be_bytes w16 a.trigger ++ state ++ args_bytes a.args

  -- by what it is now
  now_by : (a b : Active) (live on : Bool) → Some (bytes_of a (to_be_bytes w16 a.state)) ≡ cond live (cond on (Some (bytes_of b (to_be_bytes w16 b.state))) None) None → to_be_bytes w16 a.state ≡ to_be_bytes w16 b.state
  now_by a b true true same =
      let bytes : bytes_of a (to_be_bytes w16 a.state) ≡ bytes_of b (to_be_bytes w16 b.state) = cc in
      third_same a.class a.trigger a.state b.class b.trigger b.state (args_bytes a.args) (args_bytes b.args) bytes
  now_by a b true false same = absurd (cc)
  now_by a b false on same = absurd (cc)

  state_by : (a : Active) (n : ℕ) → a.number ≡ n → (f : Option Active) → find (has_number n) now.activations ≡ f
      → Some (bytes_of a (to_be_bytes w16 a.state)) ≡ cond now.live (option_and_then (active_value id) f) None
      → to_be_bytes w16 a.state ≡ to_be_bytes w16 (option_map_or (λ (b : Active). b.state) f a.state)
  state_by a n is None found same = refl
  state_by a n is (Some b) found same = now_by a b now.live b.on same

  whole_by : (a : Active) (state : ℕ) (b : Bool) → to_be_bytes w16 a.state ≡ to_be_bytes w16 state → bytes_of a (to_be_bytes w16 a.state) ≡ bytes_of a (to_be_bytes w16 (cond b state a.state))
  whole_by a state true same = ap (bytes_of a) same
  whole_by a state false same = refl

  active_by : (n : ℕ) (f : Option Active) → find (has_number n) first.activations ≡ f → Stood (activation_key id n) → below (activation_key id n) ≡ cond first.live (option_and_then (active_value id) f) None
      → below (activation_key id n) ≡ cond first.live (option_and_then (active_value id) (option_map (rewound_active classes now.activations) f)) None
  active_by n None found stood own = own
  active_by n (Some a) found stood own =
      let on = is_on l s good id first at n a found in
      let spelled : below (activation_key id n) ≡ Some (bytes_of a (to_be_bytes w16 a.state)) =
      own ∙ ap (λ b. cond b (active_value id a) None) (live l s good id first at) ∙ ap (λ b. cond b (Some (bytes_of a (to_be_bytes w16 a.state))) None) on in
      let number = number_found n first.activations a found in
      let state : to_be_bytes w16 a.state ≡ to_be_bytes w16 (state_in now.activations a) =
      state_by a n number (find (has_number n) now.activations) refl (sym spelled ∙ stood)
      ∙ ap (λ m. to_be_bytes w16 (option_map_or (λ (b : Active). b.state) (find (has_number m) now.activations) a.state)) (sym number) in
      spelled ∙ ap (λ (v : List ℕ). Some v) (whole_by a (state_in now.activations a) (is_whole classes a) state)
      ∙ sym (ap (λ b. cond b (Some (activation_row id (cond (is_whole classes a) (state_in now.activations a) a.state) (active_as a)).1) None) on)
      ∙ sym (ap (λ b. cond b (active_value id (rewound_active classes now.activations a)) None) (live l s good id first at))

  active_left : (n : ℕ) → Stood (activation_key id n) → below (activation_key id n) ≡ value_in s.world.bones.classes (activation_key id n) left
  active_left n stood =
      active_by n (find (has_number n) first.activations) refl stood (is_first (activation_key id n) (inr (inr refl)) refl)
      ∙ sym (ap (λ (f : Option Active). cond first.live (option_and_then (active_value id) f) None) (find-map (has_number n) (has_number n) (rewound_active classes now.activations) (λ a. refl) first.activations))

  -- ---- any key

  left_stands : (x : Layer) (q : Key) → IsOwn q → q.a ≡ id → after_by x q now (below q) ≡ value_in s.world.bones.classes q now → after_by x q left (below q) ≡ value_in s.world.bones.classes q left
  left_stands x q own is was = by_held (is_among q x.keys) was where
    by_held : (b : Bool) → cond b (value_after (object_becomes q now) (below q)) (below q) ≡ value_in s.world.bones.classes q now → cond b (value_after (object_becomes q left) (below q)) (below q) ≡ value_in s.world.bones.classes q left
    by_held true e =
        by_form (λ k. value_after (object_becomes k left) (below k) ≡ value_in s.world.bones.classes k left) id (spells_object s.world.bones.classes id left (below (object_key id)))
        (λ n. spells_again s.world.bones.classes (version_key id n) left (below (version_key id n)) (inr (inl refl)) (version_left n)) (λ n. spells_active s.world.bones.classes id n left (below (activation_key id n))) q own is
    by_held false e = by_form (λ k. Stood k → below k ≡ value_in s.world.bones.classes k left) id object_left (λ n stood. version_left n) active_left q own is e

-- ---- the overlay

module _ (l : Language) (s : Stored) (good : AreBones l s.world.bones) (classes : List Class) (x : Layer) (remembers : Remembers x.objects s.world) (newest : x.first.added ≡ stamp_now s.world.bones)
    (formed : IsFormed s.world.bones.classes (rows s) x) where
  abbrev after_of : Key → Option Tracked → Bytes
  after_of q f = cond (is_among q x.keys) (value_after (becomes_of q f) (value_under (rows s) q)) (value_under (rows s) q)

  held_of : (q : Key) → held_after x q (value_under (rows s) q) ≡ after_of q (tracked_at q.a x)
  unfolding becomes
  held_of q = refl

  held_then : (q : Key) → held_after (rewind classes x) q (value_under (rows s) q) ≡ after_of q (lookup (is_at (nat_cmp q.a)) (rewound_from classes [] x.objects))
  unfolding becomes rewind
  held_then q = refl

  first_newest : (id : ℕ) (t : Tracked) (first : Object) → tracked_at id x ≡ Some t → t.first ≡ Other first → AreNewest x.first.added first
  first_newest id t first found is = subst (WereNewest x.first.added) is (formed.newest id t found).1

  by_first : (id : ℕ) (t u : Tracked) (f : First) → t.first ≡ f → WasFirst s.world id t.current f → tracked_at id x ≡ Some t → rewound_by classes t.current f ≡ Some u → (q : Key) → IsOwn q → q.a ≡ id
      → after_of q (Some u) ≡ value_in s.world.bones.classes q u.current
  by_first id t u Same is was found left q own at =
      let one : record { first = Same; current = t.current } ≡ u = cc in
      subst (λ (v : Tracked). after_of q (Some v) ≡ value_in s.world.bones.classes q v.current) one
      (sym (ap (after_of q) found) ∙ ap (λ n. after_of q (tracked_at n x)) (sym at) ∙ sym (held_of q) ∙ formed.each id t q found own at)
  by_first id t u (Other first) is was found left q own at =
      let one : record { first = Other first; current = rewound_object classes first t.current } ≡ u = cc in
      subst (λ (v : Tracked). after_of q (Some v) ≡ value_in s.world.bones.classes q v.current) one
      (left_stands l s good classes id first t.current was.is (subst (λ n. AreNewest n first) newest (first_newest id t first found is)) x q own at
      (sym (ap (after_of q) found) ∙ ap (λ n. after_of q (tracked_at n x)) (sym at) ∙ sym (held_of q) ∙ formed.each id t q found own at))
  by_first id t u Absent is was found left q own at = absurd (cc)

  by_tracked : (id : ℕ) (u : Tracked) (f : Option Tracked) → tracked_at id x ≡ f → option_and_then (rewound classes) f ≡ Some u → (q : Key) → IsOwn q → q.a ≡ id → after_of q (Some u) ≡ value_in s.world.bones.classes q u.current
  by_tracked id u None found left q own at = absurd (cc)
  by_tracked id u (Some t) found left q own at = by_first id t u t.first refl (remembers.first id t found) found left q own at

  -- what was written is what was, or what is left of it
  newest_by : (id : ℕ) (t u : Tracked) (f : First) → t.first ≡ f → tracked_at id x ≡ Some t → rewound_by classes t.current f ≡ Some u → HasNewest x.first.added u
  newest_by id t u Same is found left = let one : record { first = Same; current = t.current } ≡ u = cc in subst (HasNewest x.first.added) one ((formed.newest id t found).0, tt)
  newest_by id t u (Other first) is found left =
      let one : record { first = Other first; current = rewound_object classes first t.current } ≡ u = cc in
      let was : AreNewest x.first.added first = first_newest id t first found is in
      subst (HasNewest x.first.added) one (was, was)
  newest_by id t u Absent is found left = absurd (cc)

  newest_in : (id : ℕ) (u : Tracked) (f : Option Tracked) → tracked_at id x ≡ f → option_and_then (rewound classes) f ≡ Some u → HasNewest x.first.added u
  newest_in id u None found left = absurd (cc)
  newest_in id u (Some t) found left = newest_by id t u t.first refl found left

  pub rewound_formed : IsFormed s.world.bones.classes (rows s) (rewind classes x)
  unfolding rewind
  rewound_formed = record {
    keys = formed.keys;
    each = λ id u q is own at.
        held_then q ∙ ap (λ n. after_of q (lookup (is_at (nat_cmp n)) (rewound_from classes [] x.objects))) at ∙ ap (after_of q) is
        ∙ by_tracked id u (tracked_at id x) refl (sym (rewound_at classes id x.objects remembers.rising) ∙ is) q own at;
    newest = λ id u is. newest_in id u (tracked_at id x) refl (sym (rewound_at classes id x.objects remembers.rising) ∙ is);
  }

pub rewound_held : (l : Language) (records : Entries) (w : ListWorld) (classes : List Class) (x : Layer) (held : HoldsWorld l records w) → Remembers x.objects held.stored.world
    → x.first.added ≡ stamp_now held.stored.world.bones → IsFormed held.stored.world.bones.classes records x → IsFormed held.stored.world.bones.classes records (rewind classes x)
rewound_held l records w classes x held remembers newest formed =
    let first = held.stored.world.bones.classes in
    subst (λ (es : Entries). IsFormed first es (rewind classes x)) (sym held.rows)
    (rewound_formed l held.stored (subst (AreBones l) (sym held.stands.bones) held.good.bones) classes x remembers newest (subst (λ (es : Entries). IsFormed first es x) held.rows formed))
