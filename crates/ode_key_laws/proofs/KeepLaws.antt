-- Each call leaves the keys of touched objects held.
use Rattle.std.proofs.Common.{◌≡◌, ◌+◌, ℕ, List, [], ◌∷◌, ◌++◌, map, length, Bool, true, false, cond, nat_lt, option_map, Option, Some, None, Ok, Err, refl, sym, ap, subst, ◌∙◌}
use Rattle.std.proofs.lemmas.Bool.{false≢true}
use Rattle.std.proofs.lemmas.Cmp.{nat_cmp_total}
use Rattle.std.proofs.lemmas.List.{map-append}
use Rattle.std.specs.Prelude.{◌&&◌}
use Rattle.std.specs.BTreeMap.{is_at}
use Rattle.std.specs.List.{AllByRecursion, fold, list_any}
use Rattle.std.specs.Map.{lookup}
use Rattle.std.specs.Ordering.{nat_cmp}
use Rattle.ode_codec.specs.declared.record.Counters.{Counters}
use Rattle.ode_codec.specs.declared.record.Entry.{Entry}
use Rattle.ode_heap.specs.Answers.{Found, There, Broken}
use Rattle.ode_keep.proofs.Maps.{lookup_put}
use Rattle.ode_keep.specs.Entries.{Entries}
use Rattle.ode_key_laws.proofs.CallLaws.{bound, choice_bound, held_bound, live_bound, read_bound}
use Rattle.ode_key_laws.proofs.NumberLaws.{grows_on, more_held, no_more, taken_numbers, turned_numbers}
use Rattle.ode_key_laws.proofs.PlaceLaws.{all_put, all_stay}
use Rattle.ode_key_laws.proofs.StayLaws.{then_holds, touched_others}
use Rattle.ode_key_laws.specs.Keys.{AreHeld, Grows, HoldsKeys, IsHeld, StillHoldsKeys, numbers_of}
use Rattle.ode_laws.specs.Alike.{NumberTx, NumberWorld}
use Rattle.ode_objects.specs.Loading.{whole_in}
use Rattle.ode_objects.specs.Objects.{activated, activation_keys, dead, derived, is_on, made, new_active, object_keys, switched_off, values_of, with_states, without, written}
use Rattle.ode_objects.specs.Tracked.{as_first, changed_to, made_object, read_object}
use Rattle.ode_objects.specs.Values.{are_args}
use Rattle.ode_objects.specs.declared.object.Active.{Active}
use Rattle.ode_objects.specs.declared.object.Object.{Object}
use Rattle.ode_objects.specs.declared.tracked.First.{First}
use Rattle.ode_objects.specs.declared.tracked.First.TheVariants.{Same, Other, Absent}
use Rattle.ode_objects.specs.declared.tracked.Tracked.{Tracked}
use Rattle.ode_overlay.specs.Answers.{◌>>=◌, from_records}
use Rattle.ode_overlay.specs.Changing.{activate, activate_with, create, created, deactivate, deactivate_with, denoted_in, derive, derive_with, drop_version, drop_with, fields_with, fresh, fresh_at, kept_now, needs, next_drawn, now_tracked, object_of, put_acts, put_new, put_of, put_with, remove, remove_with, switch_off, touch, touch_first, touch_with, touched_with, with_now, write, write_with}
use Rattle.ode_overlay.specs.Layers.{Layer, begun, is_touched, queueing, tracked_at}
use Rattle.ode_overlay.specs.Reading.{not_null}
use Rattle.ode_overlay.specs.Settling.{collect, has_room, with_entry}
use Rattle.ode_overlay.specs.declared.error.OverlayError.TheVariants.{LastVersion, NoNumber, TooLong}
use Rattle.ode_overlay.specs.declared.origin.Origin.{Origin}
use Rattle.ode_overlay_laws.proofs.AlteredLaws.{at_same}
use Rattle.ode_overlay_laws.specs.Following.{IsNewNumber}
use Rattle.ode_overlay_laws.specs.Standing.{IsFresh, IsIn, Stands}
use Rattle.ode_types.specs.declared.running.Running.{Running}
use Rattle.ode_value.specs.Changes.{with_key}
use Rattle.ode_value.specs.Keys.{activation_key, object_key, version_key}
use Rattle.ode_value.specs.Limits.{number_limit, version_limit}
use Rattle.ode_value.specs.declared.class.Class.{Class}
use Rattle.ode_value.specs.declared.key.Key.{Key}
use Rattle.ode_value.specs.declared.value.Ref.{Ref}
use Rattle.ode_value.specs.declared.value.Value.{Value}
use Rattle.ode_version_laws.specs.Denoting.{IsRead}
use Rattle.ode_version_laws.specs.Leaving.{IfDone}

-- what is known of an object that a call finds
record Knows (x : Layer) (id : ℕ) (t : Tracked) : Type 0 where
  now : is_touched id x ≡ true → AreHeld id x.keys t.current.activations
  grown : (o : Object) → t.first ≡ Other o → Grows o t.current

module _ (classes : List Class) (base : Entries) (x : Layer) (y : NumberTx) (id : ℕ) (stands : Stands x y) (holds : HoldsKeys y.first x) (read : IsRead classes base x y id) where
  -- ---- what is read

  first_read : (u : Tracked) (f : Found (Option Object)) → from_records f >>= (λ o. Ok (option_map read_object o)) ≡ Ok (Some u) → u.first ≡ Same
  first_read u (There (Some o)) is = let same : read_object o ≡ u = cc in sym (ap (λ (v : Tracked). v.first) same)
  first_read u (There None) is = absurd (cc)
  first_read u (Broken k) is = absurd (cc)

  -- a touched object that isn't tracked is gone
  not_touched : (u : Tracked) (b : Bool) → is_touched id x ≡ b → tracked_at id x ≡ None → IsIn y.now id u.current → b ≡ false
  not_touched u false touched none there = refl
  not_touched u true touched none there =
      let gone = (holds.gone id touched none).object in
      let same = (stands.others id none).object in
      let is = there.object in
      absurd (let differs = sym is ∙ same ∙ gone in cc differs)

  new_known : (u : Tracked) (f : Option Tracked) → tracked_at id x ≡ f → fresh_at classes base id f ≡ Ok (Some u) → IsIn y.now id u.current → Knows x id u
  new_known u (Some t) found is there = absurd (cc)
  new_known u None found is there =
      let same = first_read u (whole_in classes base id) is in
      record {
        now = λ touched. absurd (false≢true (sym (not_touched u (is_touched id x) refl found there) ∙ touched));
        grown = λ o other. absurd (let differs = sym same ∙ other in cc differs);
      }

  known_by : (new : Option Tracked) → fresh classes base id x ≡ Ok new → IsFresh x y id new → (t : Tracked) → object_of new id x ≡ Some t → Knows x id t
  unfolding fresh
  known_by None is there t found = record { now = λ touched. holds.now id touched t found; grown = λ o other. holds.grown id t found o other }
  known_by (Some u) is there t found = let same : u ≡ t = cc in subst (Knows x id) same (new_known u (tracked_at id x) refl is there)

  abbrev new : Option Tracked
  new = read.object

  known : (t : Tracked) → object_of new id x ≡ Some t → Knows x id t
  known t found = known_by new read.read read.is t found

  -- ---- the object is another one

  before : (t : Tracked) → Knows x id t → (o : Object) → Grows t.current o → (f : First) → t.first ≡ f → (q : Object) → as_first t.current f ≡ Other q → Grows q o
  before t knows o grows Same is q other = let same : t.current ≡ q = cc in subst (λ (c : Object). Grows c o) same grows
  before t knows o grows (Other p) is q other = let same : p ≡ q = cc in subst (λ (c : Object). Grows c o) same (grows_on p t.current o (knows.grown p is) grows)
  before t knows o grows Absent is q other = absurd (cc)

  put : (t : Tracked) → object_of new id x ≡ Some t → (o : Object) (ks : List Key) (more : List ℕ) → numbers_of o.activations ≡ numbers_of t.current.activations ++ more
      → AllByRecursion (IsHeld (fold with_key x.keys ks)) (map (activation_key id) more) → HoldsKeys y.first (with_now id new o (fold with_key x.keys ks) x)
  put t found o ks more is held =
      let knows = known t found in
      then_holds y.first x (with_now id new o (fold with_key x.keys ks) x) id (changed_to o t) ks holds refl
      (λ n. lookup_put nat_cmp_total id (now_tracked o (object_of new id x)) n x.objects ∙ ap (λ (f : Option Tracked). cond (is_at (nat_cmp id) n) (Some (now_tracked o f)) (tracked_at n x)) found)
      (λ n at. refl)
      (λ touched. more_held id (fold with_key x.keys ks) t.current.activations o.activations more is (all_stay (activation_keys id t.current.activations) ks x.keys (knows.now touched)) held)
      (λ q other. before t knows o (record { more = more; is = is }) t.first refl q other)

  -- with the same numbers
  put_same : (t : Tracked) → object_of new id x ≡ Some t → (o : Object) (ks : List Key) → numbers_of o.activations ≡ numbers_of t.current.activations
      → HoldsKeys y.first (with_now id new o (fold with_key x.keys ks) x)
  put_same t found o ks same = put t found o ks [] (no_more t.current.activations o.activations same) tt

  -- ---- it is touched

  same_found : (t : Tracked) → tracked_at id x ≡ Some t → (n : ℕ) (b : Bool) → is_at (nat_cmp id) n ≡ b → tracked_at n x ≡ cond b (Some t) (tracked_at n x)
  same_found t found n true at = ap (λ m. tracked_at m x) (at_same id n at) ∙ found
  same_found t found n false at = refl

  put_found : (t : Tracked) (f : Option Tracked) → object_of f id x ≡ Some t → (n : ℕ) → lookup (is_at (nat_cmp n)) (put_new id f x.objects) ≡ cond (is_at (nat_cmp id) n) (Some t) (tracked_at n x)
  put_found t None found n = same_found t found n (is_at (nat_cmp id) n) refl
  put_found t (Some u) found n = lookup_put nat_cmp_total id u n x.objects ∙ ap (λ (g : Option Tracked). cond (is_at (nat_cmp id) n) g (tracked_at n x)) found

  touched_holds : (t : Tracked) → object_of new id x ≡ Some t → HoldsKeys y.first (touched_with new (fold with_key x.keys (activation_keys id t.current.activations)) id x)
  touched_holds t found =
      let ks = activation_keys id t.current.activations in
      then_holds y.first x (touched_with new (fold with_key x.keys ks) id x) id t ks holds refl (put_found t new found) (λ n at. touched_others x.touched id n at (is_touched id x)) (λ touched. all_put ks x.keys)
      (known t found).grown

  abbrev P : Layer → Type 0
  P = HoldsKeys y.first

  pub touch_holds : StillHoldsKeys y.first (touch classes base id x)
  unfolding touch touch_with
  touch_holds =
      read_bound P (fresh classes base id x) new _ read.read (live_bound P id (object_of new id x) _
      (λ t is. choice_bound P (is_touched id x) (Ok (false, x)) (touch_first new id t.current x) holds (held_bound P x (activation_keys id t.current.activations) _ (touched_holds t is))))

  -- ---- it is removed, and its activations change

  pub remove_holds : StillHoldsKeys y.first (remove classes base id x)
  unfolding remove remove_with
  remove_holds =
      read_bound P (fresh classes base id x) new _ read.read (live_bound P id (object_of new id x) _
      (λ t is. held_bound P x (object_keys id t.current) _ (put_same t is (dead t.current) (object_keys id t.current) refl)))

  pub activate_holds : (class trigger : ℕ) (args : List Value) → StillHoldsKeys y.first (activate classes base id class trigger args x)
  unfolding activate activate_with
  activate_holds class trigger args =
      read_bound P (fresh classes base id x) new _ read.read (live_bound P id (object_of new id x) _ (λ t is. bound P (needs TooLong (are_args args)) _
      (λ _. held_bound P x (activation_key id x.next ∷ []) _ (by_number (nat_lt x.next number_limit) t is)))) where
        by_number : (b : Bool) (t : Tracked) → object_of new id x ≡ Some t
            → IfDone P (cond b (Ok x.next) (Err NoNumber) >>= λ number.
            Ok (number, next_drawn (with_now id new (activated (new_active number class trigger args) t.current) (fold with_key x.keys (activation_key id x.next ∷ [])) x)))
        by_number false t is = tt
        by_number true t is =
            let a = new_active x.next class trigger args in
            let there = put t is (activated a t.current) (activation_key id x.next ∷ []) (x.next ∷ []) (map-append (λ (b : Active). b.number) t.current.activations (a ∷ []))
            (all_put (activation_key id x.next ∷ []) x.keys) in
            record { now = there.now; grown = there.grown; gone = there.gone }

  pub deactivate_holds : (number : ℕ) → StillHoldsKeys y.first (deactivate classes base id number x)
  unfolding deactivate deactivate_with
  deactivate_holds number =
      read_bound P (fresh classes base id x) new _ read.read (live_bound P id (object_of new id x) _ (λ t is. choice_bound P (list_any (is_on number) t.current.activations)
      (switch_off new id number t.current x) (Ok (tt, x))
      (held_bound P x (activation_key id number ∷ []) _ (put_same t is (switched_off number t.current) (activation_key id number ∷ []) (turned_numbers number t.current.activations))) holds))

  pub put_holds : (rs : List Running) → StillHoldsKeys y.first (put_acts classes base id rs x)
  unfolding put_acts put_with
  put_holds rs = read_bound P (fresh classes base id x) new _ read.read (by_found (object_of new id x) refl) where
    by_found : (f : Option Tracked) → object_of new id x ≡ f → IfDone P (put_of new id rs f x)
    by_found None is = holds
    by_found (Some t) is =
        let ks = activation_keys id t.current.activations in
        held_bound P x ks _ (put_same t is (with_states rs t.current) ks (taken_numbers rs t.current.activations))

-- ---- versions

module _ (classes : List Class) (base : Entries) (x : Layer) (y : NumberTx) (r : Ref) (stands : Stands x y) (holds : HoldsKeys y.first x) (read : IsRead classes base x y r.object) where
  abbrev of : Option Tracked
  of = read.object

  abbrev Q : Layer → Type 0
  Q = HoldsKeys y.first

  -- an object with the same activations
  puts : (t : Tracked) → object_of of r.object x ≡ Some t → (o : Object) (ks : List Key) → o.activations ≡ t.current.activations → HoldsKeys y.first (with_now r.object of o (fold with_key x.keys ks) x)
  puts t is o ks same = put_same classes base x y r.object stands holds read t is o ks (ap numbers_of same)

  pub write_holds : (slot : ℕ) (value : Value) → StillHoldsKeys y.first (write classes base r slot value x)
  unfolding write write_with
  write_holds slot value =
      bound Q (not_null r) _ (λ _. read_bound Q (fresh classes base r.object x) of _ read.read (live_bound Q r.object (object_of of r.object x) _
      (λ t is. bound Q (denoted_in r t.current) _ (λ v. bound Q (fields_with slot value v x) _
      (λ fields. held_bound Q x (version_key r.object v.number ∷ []) _ (puts t is (written v.number fields t.current) (version_key r.object v.number ∷ []) refl))))))

  pub derive_holds : StillHoldsKeys y.first (derive classes base r x)
  unfolding derive derive_with
  derive_holds =
      bound Q (not_null r) _ (λ _. read_bound Q (fresh classes base r.object x) of _ read.read (live_bound Q r.object (object_of of r.object x) _
      (λ t is. bound Q (denoted_in r t.current) _ (λ v. bound Q (kept_now x (values_of v.fields)) _
      (λ fields. held_bound Q x (object_key r.object ∷ version_key r.object (t.current.last + 1) ∷ []) _ (bound Q (needs NoNumber (nat_lt t.current.last version_limit)) _
      (λ _. puts t is (derived v.number fields t.current) (object_key r.object ∷ version_key r.object (t.current.last + 1) ∷ []) refl)))))))

  pub drop_holds : StillHoldsKeys y.first (drop_version classes base r x)
  unfolding drop_version drop_with
  drop_holds =
      bound Q (not_null r) _ (λ _. read_bound Q (fresh classes base r.object x) of _ read.read (live_bound Q r.object (object_of of r.object x) _
      (λ t is. bound Q (denoted_in r t.current) _ (λ v. bound Q (needs (LastVersion r.object) (nat_lt 1 (length t.current.versions))) _
      (λ _. held_bound Q x (version_key r.object v.number ∷ []) _ (puts t is (without v.number t.current) (version_key r.object v.number ∷ []) refl))))))

-- ---- an object is made

module _ (class : ℕ) (fields : List Value) (x : Layer) (y : NumberTx) (stands : Stands x y) (holds : HoldsKeys y.first x) (new : IsNewNumber x y x.next) where
  not_tracked : (f : Option Tracked) → tracked_at x.next x ≡ f → f ≡ None
  not_tracked None is = refl
  not_tracked (Some t) is = let there = (stands.tracked x.next t is).object in absurd (cc (there, new.object))

  abbrev made_keys : List Key
  made_keys = object_key x.next ∷ version_key x.next 1 ∷ []

  -- with these fields and a stamp
  abbrev made_x : ℕ × List Value → Layer
  made_x stamped = created class stamped (fold with_key x.keys made_keys) x

  made_holds : (stamped : ℕ × List Value) → HoldsKeys y.first (made_x stamped)
  made_holds stamped =
      then_holds y.first x (made_x stamped) x.next (made_object (made class stamped)) made_keys holds refl
      (λ n. lookup_put nat_cmp_total x.next (now_tracked (made class stamped) (tracked_at x.next x)) n x.objects
      ∙ ap (λ (f : Option Tracked). cond (is_at (nat_cmp x.next) n) (Some (now_tracked (made class stamped) f)) (tracked_at n x)) (not_tracked (tracked_at x.next x) refl))
      (λ n at. touched_others x.touched x.next n at (is_touched x.next x)) (λ touched. tt) (λ o other. absurd (cc other))

  pub create_holds : StillHoldsKeys y.first (create class fields x)
  unfolding create
  create_holds =
      bound (HoldsKeys y.first) (kept_now x fields) _ (λ stamped. held_bound (HoldsKeys y.first) x made_keys _ (by_number stamped (nat_lt x.next number_limit))) where
        by_number : (stamped : ℕ × List Value) (b : Bool) → StillHoldsKeys y.first (cond b (Ok x.next) (Err NoNumber) >>= λ id. Ok (id, made_x stamped))
        by_number stamped true = made_holds stamped
        by_number stamped false = tt

-- ---- at the start, and where a firing is collected

pub begun_holds : (first : NumberWorld) (counters : Counters) (queued : ℕ) (origin : Origin) → HoldsKeys first (begun counters queued origin)
begun_holds first counters queued origin = record {
  now = λ id touched t is. absurd (cc is);
  grown = λ id t is o other. absurd (cc is);
  gone = λ id touched is. absurd (false≢true touched);
}

collected_by : (first : NumberWorld) (e : Entry) (independent : Bool) (x : Layer) → HoldsKeys first x → (b : Bool) → HoldsKeys first (cond {A = Bool × Layer} b (true, with_entry e independent (queueing x)) (false, queueing x)).1
collected_by first e independent x holds true = record { now = holds.now; grown = holds.grown; gone = holds.gone }
collected_by first e independent x holds false = record { now = holds.now; grown = holds.grown; gone = holds.gone }

pub collect_holds : (first : NumberWorld) (x : Layer) (e : Entry) (independent : Bool) → HoldsKeys first x → HoldsKeys first (collect e independent x).1
unfolding collect
collect_holds first x e independent holds = collected_by first e independent x holds (has_room x && are_args e.args)
