-- Changes of objects, versions and activations come to the same.
use Rattle.std.proofs.Common.{◌≡◌, ℕ, ◌+◌, ◌<◌, Bool, true, false, cond, List, [], ◌∷◌, ◌++◌, length, Option, Some, None, Ok, refl, sym, ap, ◌∙◌, subst}
use Rattle.std.specs.Prelude.{◌==◌, ◌&&◌, nat_eq, nat_le, nat_lt, slice_set}
use Rattle.std.specs.List.{find, fold}
use Rattle.ode_footprint_laws.proofs.Among.{among_looked, either_left, itself}
use Rattle.ode_footprint_laws.proofs.Depends.{Anything, Depends, Ends, Reached, done_in, found_ends, needs_ends, needs_in, next_in, one_in, sees_ends, tests_ends, then_in, valued_ends, weaken_in}
use Rattle.ode_footprint_laws.proofs.DependsReading.{agreed_live, agreed_version, object_in, prints_in, version_in}
use Rattle.ode_footprint_laws.proofs.Grows.{ListAct, ListDeed, Grows, changes_grow, fits, found_grow, grown_self, grown_then, grows_then, needs_grow, spaced, tested, valued_grow}
use Rattle.ode_footprint_laws.proofs.Meets.{AreKeysOf, Meets, Steady, active_keys, new_keys}
use Rattle.ode_footprint_laws.specs.Agreeing.{Agree, IsAmong, reached_footprint}
use Rattle.ode_footprint_laws.specs.Fresh.{IsDrawnKey}
use Rattle.ode_laws.proofs.AlikeWork.{derived_gentle, dropped_gentle, off_gentle, removed_gentle, set_gentle}
use Rattle.ode_laws.proofs.Each.{all-append, all-find, all-map, all-of}
use Rattle.ode_laws.proofs.Rows.{at_numbered, numbered_id}
use Rattle.ode_laws.proofs.Sides.{altered, dropped_from, off_in, removed, set_in, stamp_in, turned}
use Rattle.ode_value.specs.declared.key.Key.{Key}
use Rattle.ode_value.specs.declared.reason.Reason.TheVariants as reason
use Rattle.ode_value.specs.declared.value.Ref.{Ref}
use Rattle.ode_value.specs.declared.value.Value.{Value}
use Rattle.ode_value.specs.Acts.{go_on, ◌>>=◌, ◌>>◌, gives, needs, does, sees, turns, looks, prints}
use Rattle.ode_value.specs.Changes.{Draw, activation_keys, alters_object, changes, draws_none, draws_number, draws_version, has_number, holding, key_count, object, version, version_keys, with_key}
use Rattle.ode_value.specs.Classes.{Trigger}
use Rattle.ode_value.specs.Denoting.{denoted, object_at, version_in as version_found}
use Rattle.ode_value.specs.Footprints.{Footprint, with_draw, with_looks}
use Rattle.ode_value.specs.Keys.{activation_key, object_key, version_key}
use Rattle.ode_value.specs.Language.{ListTx}
use Rattle.ode_value.specs.Lengths.{values_length, version_size}
use Rattle.ode_value.specs.Limits.{args_limit, change_limit, number_limit, value_limit}
use Rattle.ode_value.specs.Making.{derived_from, derives, drops, makes, next_version, pinned, removes, sets_field, sets_own, spares, stamp_now, switches_on, with_active, with_new}
use Rattle.ode_value.specs.Objects.{Activation}
use Rattle.ode_value.specs.Pasts.{lists}
use Rattle.ode_value.specs.Statements.{is_on, switches_off_found, switches_off_numbered}
use Rattle.ode_value.specs.Texts.{active_line, new_line, version_line}
use Rattle.ode_value.specs.Transactions.{drawing, looking, touching}
use Rattle.ode_value.specs.Versions.{Version}
use Rattle.ode_value.specs.Worlds.{Bones, Object}

pub found_id : (b : Bones) (id : ℕ) (o : Object) → object_at b id ≡ Some o → o.id ≡ id
found_id b id o there = numbered_id id b.objects o (at_numbered b id o there)

-- what denotes a version refers to a live object
denoted_object : (b : Bones) (r : Ref) (v : Version) → denoted b r ≡ Ok v → (o : Object) × (object_at b r.object ≡ Some o)
denoted_object b r v is = by_null (r.object == 0) (object_at b r.object) refl is where
  by_null : (t : Bool) (o : Option Object) → object_at b r.object ≡ o → version_found r (cond t None o) ≡ Ok v → (p : Object) × (object_at b r.object ≡ Some p)
  by_null true o e e' = absurd (cc)
  by_null false None e e' = absurd (cc)
  by_null false (Some p) e e' = (p, e)

-- ---- keys of objects

object_keys : (b : Bones) (id : ℕ) (o : Object) → object_at b id ≡ Some o → AreKeysOf o (object_key id ∷ [])
object_keys b id o there next h = (subst (λ n. n < next) (found_id b id o there) h.drawn, tt)

version_keys_of : (b : Bones) (id number : ℕ) (o : Object) → object_at b id ≡ Some o → AreKeysOf o (version_key id number ∷ [])
version_keys_of b id number o there next h = (subst (λ n. n < next) (found_id b id o there) h.drawn, tt)

pub activations_keys : (o : Object) → AreKeysOf o (activation_keys o)
activations_keys o next h = all-map (IsDrawnKey next) (λ (a : Activation). activation_key o.id a.number) o.activations h.activations

all_keys : (b : Bones) (id : ℕ) (o : Object) → object_at b id ≡ Some o → AreKeysOf o (object_key id ∷ version_keys o ++ activation_keys o)
all_keys b id o there next h = (
  (object_keys b id o there next h).0,
  all-append (IsDrawnKey next) (version_keys o) (activation_keys o)
      (all-map (IsDrawnKey next) (λ (v : Version). version_key o.id v.number) o.versions (all-of (λ (v : Version). IsDrawnKey next (version_key o.id v.number)) (λ v. h.drawn) o.versions))
      (activations_keys o next h),
)

module _ {f : Footprint} (s : Steady f) where
  abbrev m : Meets f
  m = s.meets

  abbrev Related : ListTx → ListTx → Type 0
  Related = m.Related

  stamps : (y x : ListTx) → Related y x → stamp_now y.now.bones ≡ stamp_now x.now.bones
  stamps y x h = ap length (m.agree y x h).now.added

  -- ---- what every change asks for

  count_same : (y x : ListTx) (keys : List Key) → Agree f y x → key_count (holding keys y) ≡ key_count (holding keys x)
  count_same y x keys a = ap (λ ks. length (fold with_key ks keys) + y.gathered) a.keys ∙ ap (λ g. length (fold with_key x.keys keys) + g) a.gathered

  pub changes_ends : {Y : Type 0} (Q : Y → Type 0) (keys : List Key) (size : ℕ) (draw : Draw) (h : ListAct Y) (y x : ListTx) → Related y x → draw.left y.now.bones ≡ draw.left x.now.bones
      → Reached m ((changes keys size draw >> h) x)
      → (Reached m (h (holding keys (drawing draw.number x))) → Ends m Q (h (holding keys (drawing draw.number y))) (h (holding keys (drawing draw.number x))))
      → Ends m Q ((changes keys size draw >> h) y) ((changes keys size draw >> h) x)
  changes_ends Q keys size draw h y x r left reached rest =
      tests_ends m Q reason.Size (fits size keys y) (fits size keys x) (ap (λ c. nat_le size value_limit && nat_le c change_limit) (count_same y x keys (m.agree y x r))) (spaced keys draw) h y x r reached (λ small reached.
      tests_ends m Q reason.Space (draw.left y.now.bones) (draw.left x.now.bones) left (does (holding keys)) h (drawing draw.number y) (drawing draw.number x) (m.foot y x (with_draw draw.number) r) reached (λ has reached.
      rest reached))

  -- a number is drawn: where the size fits both have the same next number, and else none is drawn
  pub number_ends : {Y : Type 0} (Q : Y → Type 0) (keys : ℕ → List Key) (size : ℕ) (h : ℕ → ListAct Y) (y x : ListTx) → Related y x → ((n : ℕ) → Grows (h n))
      → key_count (holding (keys y.now.bones.next) y) ≡ key_count (holding (keys x.now.bones.next) x)
      → Reached m ((changes (keys x.now.bones.next) size draws_number >> h x.now.bones.next) x)
      → (f.drew ≡ true → Related (drawing true y) (drawing true x) → Reached m (h x.now.bones.next (holding (keys x.now.bones.next) (drawing true x)))
      → Ends m Q (h x.now.bones.next (holding (keys x.now.bones.next) (drawing true y))) (h x.now.bones.next (holding (keys x.now.bones.next) (drawing true x))))
      → Ends m Q ((changes (keys y.now.bones.next) size draws_number >> h y.now.bones.next) y) ((changes (keys x.now.bones.next) size draws_number >> h x.now.bones.next) x)
  number_ends {Y} Q keys size h y x r grows counts reached rest =
      by_size (fits size (keys y.now.bones.next) y) (fits size (keys x.now.bones.next) x) (ap (λ c. nat_le size value_limit && nat_le c change_limit) counts) reached
    where
      -- behind the test of the size
      behind : ℕ → ListAct Y
      behind n z = go_on (spaced (keys n) draws_number z) (λ _. h n)

      spaces : ℕ → ListAct Y
      spaces n = (needs reason.Space (λ z. has_number z.now.bones) >> does (holding (keys n))) >> h n

      spaces_grow : (n : ℕ) → Grows (spaces n)
      spaces_grow n =
          grows_then (needs reason.Space (λ z. has_number z.now.bones) >> does (holding (keys n))) (λ _. h n)
          (grows_then (needs reason.Space (λ z. has_number z.now.bones)) (λ _. does (holding (keys n))) (needs_grow reason.Space (λ z. has_number z.now.bones)) (λ u z. grown_self z.footprint)) (λ u. grows n)

      by_number : Reached m (behind x.now.bones.next x) → Ends m Q (behind y.now.bones.next y) (behind x.now.bones.next x)
      by_number reached' =
          let known = grown_then (with_draw true x.footprint) (reached_footprint (behind x.now.bones.next x)) f (spaces_grow x.now.bones.next (drawing true x)) reached' in
          let drew : f.drew ≡ true = known.drew refl in
          let next : y.now.bones.next ≡ x.now.bones.next = (m.agree y x r).now.next drew in
          let drawn : Related (drawing true y) (drawing true x) = m.foot y x (with_draw true) r in
          subst (λ n. Ends m Q (behind n y) (behind x.now.bones.next x)) (sym next)
          (tests_ends m Q reason.Space (has_number y.now.bones) (has_number x.now.bones) (ap (λ n. nat_lt n number_limit) next) (does (holding (keys x.now.bones.next))) (h x.now.bones.next) (drawing true y) (drawing true x) drawn reached' (λ has reached''.
          rest drew drawn reached''))

      by_size : (b c : Bool) → b ≡ c → Reached m (go_on (go_on (tested c reason.Size x) (λ _. spaced (keys x.now.bones.next) draws_number)) (λ _. h x.now.bones.next))
          → Ends m Q (go_on (go_on (tested b reason.Size y) (λ _. spaced (keys y.now.bones.next) draws_number)) (λ _. h y.now.bones.next)) (go_on (go_on (tested c reason.Size x) (λ _. spaced (keys x.now.bones.next) draws_number)) (λ _. h x.now.bones.next))
      by_size true true e reached' = by_number reached'
      by_size false false e reached' = (refl, r)
      by_size true false e reached' = absurd (cc)
      by_size false true e reached' = absurd (cc)

  -- ---- changes of an object

  pub field_in : (r : Ref) (place : ℕ) (value : Value) → Depends m (IsAmong r.object f.looked) Anything (sets_field r place value)
  field_in r place value = record {
    grows = grows_then (version r) set_to (λ x. valued_grow (denoted x.now.bones r) x) (λ v x. stamped_grows v (stamp_in x) x);
    alike = λ among y x h reached.
        valued_ends m Anything (denoted y.now.bones r) (denoted x.now.bones r) (agreed_version f y x (m.agree y x h) r among) set_to y x h reached (λ v is reached.
        let it = denoted_object x.now.bones r v is in
        sees_ends m Anything stamp_now (stamped v) y x (stamps y x h)
        (changes_ends Anything (keys_of v) (version_size (stamp_in x) (slice_set v.fields place value)) draws_none (put v (stamp_in x)) y x h refl reached (λ reached. (
          refl,
          tt,
          m.alter (holding (keys_of v) y) (holding (keys_of v) x) r.object (set_in (stamp_in x) v place value)
              (s.hold y x r.object it.0 (keys_of v) h among it.1 (version_keys_of x.now.bones r.object v.number it.0 it.1)) among (set_gentle (stamp_in x) v place value),
        ))));
  }
    where
      keys_of : Version → List Key
      keys_of v = version_key r.object v.number ∷ []

      put : Version → ℕ → ListDeed
      put v stamp = alters_object r.object (set_in stamp v place value)

      stamped : Version → ℕ → ListDeed
      stamped v stamp = changes (keys_of v) (version_size stamp (slice_set v.fields place value)) draws_none >> put v stamp

      set_to : Version → ListDeed
      set_to v = sees stamp_now >>= stamped v

      stamped_grows : (v : Version) (stamp : ℕ) → Grows (stamped v stamp)
      stamped_grows v stamp =
          grows_then (changes (keys_of v) (version_size stamp (slice_set v.fields place value)) draws_none) (λ _. put v stamp)
          (changes_grow (keys_of v) (version_size stamp (slice_set v.fields place value)) draws_none) (λ u x. grown_self x.footprint)

  pub own_in : {Pre : Type 0} (r : Ref) (place : ℕ) (value : Value) → Depends m Pre Anything (sets_own r place value)
  own_in r place value = next_in m (looks (r.object ∷ [])) (sets_field r place value) (one_in m r.object) (λ k. tt) (weaken_in m (field_in r place value) (λ k. k.1))

  -- a line, and then the answer
  told_in : {X : Type 0} (line : List ℕ) (answer : X) → Depends m (Unit {0}) Anything (prints line >> gives answer)
  told_in line answer = next_in m (prints line) (gives answer) (prints_in m line) (λ k. k) (done_in m answer (λ k. tt))

  pub derives_in : (r : Ref) → Depends m (IsAmong r.object f.looked) Anything (derives r)
  derives_in r = record {
    grows = grows_then (version r) derived (λ x. valued_grow (denoted x.now.bones r) x) (λ v. grows_then (object r.object) (copied v) (λ x. found_grow (object_at x.now.bones r.object) x) (λ o x. stamped_grows v o (stamp_in x) x));
    alike = λ among y x h reached.
        valued_ends m Anything (denoted y.now.bones r) (denoted x.now.bones r) (agreed_version f y x (m.agree y x h) r among) derived y x h reached (λ v is reached.
        found_ends m Anything (object_at y.now.bones r.object) (object_at x.now.bones r.object) (agreed_live f y x (m.agree y x h) r.object among) (copied v) y x h reached (λ o there reached.
        sees_ends m Anything stamp_now (stamped v o) y x (stamps y x h)
        (changes_ends Anything (keys_of o) (version_size (stamp_in x) v.fields) (draws_version o) (put v o (stamp_in x)) y x h refl reached (λ reached.
        (told_in (version_line (next_version o)) (next_version o)).alike tt (altered o.id (derived_from (stamp_in x) v) (holding (keys_of o) y)) (altered o.id (derived_from (stamp_in x) v) (holding (keys_of o) x))
        (m.alter (holding (keys_of o) y) (holding (keys_of o) x) o.id (derived_from (stamp_in x) v)
        (s.hold y x r.object o (keys_of o) h among there (λ next h. (h.drawn, (h.drawn, tt)))) (subst (λ n. IsAmong n f.looked) (sym (found_id x.now.bones r.object o there)) among) (derived_gentle (stamp_in x) v)) reached))));
  }
    where
      keys_of : Object → List Key
      keys_of o = object_key o.id ∷ version_key o.id (o.last + 1) ∷ []

      put : Version → Object → ℕ → ListAct Ref
      put v o stamp = alters_object o.id (derived_from stamp v) >> (prints (version_line (next_version o)) >> gives (next_version o))

      stamped : Version → Object → ℕ → ListAct Ref
      stamped v o stamp = changes (keys_of o) (version_size stamp v.fields) (draws_version o) >> put v o stamp

      copied : Version → Object → ListAct Ref
      copied v o = sees stamp_now >>= stamped v o

      derived : Version → ListAct Ref
      derived v = object r.object >>= copied v

      stamped_grows : (v : Version) (o : Object) (stamp : ℕ) → Grows (stamped v o stamp)
      stamped_grows v o stamp =
          grows_then (changes (keys_of o) (version_size stamp v.fields) (draws_version o)) (λ _. put v o stamp) (changes_grow (keys_of o) (version_size stamp v.fields) (draws_version o))
          (λ u x. (told_in (version_line (next_version o)) (next_version o)).grows (altered o.id (derived_from stamp v) x))

  pub spares_in : (r : Ref) → Depends m (IsAmong r.object f.looked) (λ (p : Ref). p.object ≡ r.object) (spares r)
  spares_in r =
      then_in m (version r) (λ v. object r.object >>= λ o. more o >> gives (pinned r v.number)) (version_in m r) (λ k. k) (λ v.
      then_in m (object r.object) (λ o. more o >> gives (pinned r v.number)) (object_in m r.object) (λ k. k.0) (λ o.
      next_in m (more o) (gives (pinned r v.number)) (needs_in m (reason.LastVersion r.object) (λ z. nat_lt 1 (length o.versions)) (λ k y x a. refl)) (λ k. k) (done_in m (pinned r v.number) (λ k. refl))))
    where
      more : Object → ListDeed
      more o = needs (reason.LastVersion r.object) (λ z. nat_lt 1 (length o.versions))

  pub drops_in : (r : Ref) → Depends m (IsAmong r.object f.looked) Anything (drops r)
  drops_in r = record {
    grows = grows_then (version r) dropped (λ x. valued_grow (denoted x.now.bones r) x) (λ v. grows_then (object r.object) (cut v) (λ x. found_grow (object_at x.now.bones r.object) x) (λ o.
        grows_then (more o) (λ _. changed v o) (needs_grow (reason.LastVersion o.id) (λ z. nat_lt 1 (length o.versions))) (λ u. changed_grows v o)));
    alike = λ among y x h reached.
        valued_ends m Anything (denoted y.now.bones r) (denoted x.now.bones r) (agreed_version f y x (m.agree y x h) r among) dropped y x h reached (λ v is reached.
        found_ends m Anything (object_at y.now.bones r.object) (object_at x.now.bones r.object) (agreed_live f y x (m.agree y x h) r.object among) (cut v) y x h reached (λ o there reached.
        needs_ends m Anything (reason.LastVersion o.id) (nat_lt 1 (length o.versions)) (nat_lt 1 (length o.versions)) refl (changed v o) y x h reached (λ more reached.
        changes_ends Anything (keys_of v o) 0 draws_none (put v o) y x h refl reached (λ reached. (
          refl,
          tt,
          m.alter (holding (keys_of v o) y) (holding (keys_of v o) x) o.id (dropped_from v)
              (s.hold y x r.object o (keys_of v o) h among there (λ next h. (h.drawn, tt))) (subst (λ n. IsAmong n f.looked) (sym (found_id x.now.bones r.object o there)) among) (dropped_gentle v),
        )))));
  }
    where
      keys_of : Version → Object → List Key
      keys_of v o = version_key o.id v.number ∷ []

      put : Version → Object → ListDeed
      put v o = alters_object o.id (dropped_from v)

      changed : Version → Object → ListDeed
      changed v o = changes (keys_of v o) 0 draws_none >> put v o

      more : Object → ListDeed
      more o = needs (reason.LastVersion o.id) (λ z. nat_lt 1 (length o.versions))

      cut : Version → Object → ListDeed
      cut v o = more o >> changed v o

      dropped : Version → ListDeed
      dropped v = object r.object >>= cut v

      changed_grows : (v : Version) (o : Object) → Grows (changed v o)
      changed_grows v o = grows_then (changes (keys_of v o) 0 draws_none) (λ _. put v o) (changes_grow (keys_of v o) 0 draws_none) (λ u x. grown_self x.footprint)

  pub removes_in : (id : ℕ) → Depends m (IsAmong id f.looked) Anything (removes id)
  removes_in id = record {
    grows = grows_then (object id) gone (λ x. found_grow (object_at x.now.bones id) x) (λ o.
        grows_then (changes (keys_of o) 0 draws_none) (λ _. alters_object id removed) (changes_grow (keys_of o) 0 draws_none) (λ u x. grown_self x.footprint));
    alike = λ among y x h reached.
        found_ends m Anything (object_at y.now.bones id) (object_at x.now.bones id) (agreed_live f y x (m.agree y x h) id among) gone y x h reached (λ o there reached.
        changes_ends Anything (keys_of o) 0 draws_none (alters_object id removed) y x h refl reached (λ reached.
        (refl, tt, m.alter (holding (keys_of o) y) (holding (keys_of o) x) id removed (s.hold y x id o (keys_of o) h among there (all_keys x.now.bones id o there)) among removed_gentle)));
  }
    where
      keys_of : Object → List Key
      keys_of o = object_key id ∷ version_keys o ++ activation_keys o

      gone : Object → ListDeed
      gone o = changes (keys_of o) 0 draws_none >> alters_object id removed

  -- the activation of a number that an object has goes off
  pub off_numbered_in : (r : Ref) (v : Value) → Depends m (IsAmong r.object f.looked) Anything (switches_off_numbered lists r v)
  unfolding switches_off_numbered
  off_numbered_in r v = record {
    grows = grows_then (object r.object) found_off (λ x. found_grow (object_at x.now.bones r.object) x) (λ o. off_grows (find (is_on v) o.activations));
    alike = λ among y x h reached.
        found_ends m Anything (object_at y.now.bones r.object) (object_at x.now.bones r.object) (agreed_live f y x (m.agree y x h) r.object among) found_off y x h reached (λ o there reached.
        off_ends (find (is_on v) o.activations) o refl y x h among there reached);
  }
    where
      found_off : Object → ListDeed
      found_off o = switches_off_found lists r.object (find (is_on v) o.activations)

      keys_of : Activation → List Key
      keys_of a = activation_key r.object a.number ∷ []

      off_grows : (a : Option Activation) → Grows (switches_off_found lists r.object a)
      off_grows None x = grown_self x.footprint
      off_grows (Some a) x =
          grows_then (changes (keys_of a) 0 draws_none) (λ _. alters_object r.object (off_in a.number)) (changes_grow (keys_of a) 0 draws_none) (λ u z. grown_self z.footprint) x

      off_ends : (a : Option Activation) (o : Object) → find (is_on v) o.activations ≡ a → (y x : ListTx) → Related y x → IsAmong r.object f.looked → object_at x.now.bones r.object ≡ Some o
          → Reached m (switches_off_found lists r.object a x) → Ends m Anything (switches_off_found lists r.object a y) (switches_off_found lists r.object a x)
      off_ends None o is y x h among there reached = (refl, tt, h)
      off_ends (Some a) o is y x h among there reached =
          changes_ends Anything (keys_of a) 0 draws_none (alters_object r.object (off_in a.number)) y x h refl reached (λ reached. (
            refl,
            tt,
            m.alter (holding (keys_of a) y) (holding (keys_of a) x) r.object (off_in a.number)
                (s.hold y x r.object o (keys_of a) h among there (λ next h. (all-find (λ (b : Activation). b.number < next) (is_on v) o.activations h.activations a is, tt))) among (off_gentle a.number),
          ))

  -- ---- what is made

  pub makes_in : {Pre : Type 0} (class : ℕ) (fields : List Value) → Depends m Pre (λ id. IsAmong id f.looked) (makes lists class fields)
  makes_in class fields = record {
    grows = λ x. made_grows x.now.bones.next (stamp_in x) x;
    alike = λ k y x h reached.
        subst (λ stamp. Ends m (λ id. IsAmong id f.looked) (stamped y.now.bones.next stamp y) (stamped x.now.bones.next (stamp_in x) x)) (sym (stamps y x h))
        (number_ends (λ id. IsAmong id f.looked) new_keys (version_size (stamp_in x) fields) put y x h put_grows (s.new_count y x h) reached (λ drew drawn reached.
        let id = x.now.bones.next in
        let w = touching id (turned (with_new lists class fields) (holding (new_keys id) (drawing true x))) in
        let known = grown_then (with_looks (id ∷ []) w.footprint) (reached_footprint (told id (looking (id ∷ []) w))) f ((told_in (new_line id) id).grows (looking (id ∷ []) w)) reached in
        let among : IsAmong id f.looked = known.looked id (among_looked (id ∷ []) id w.footprint.looked (either_left (nat_eq id id) false (itself id))) in
        (behind_in id).alike tt (touching id (turned (with_new lists class fields) (holding (new_keys id) (drawing true y)))) w
        (s.touch (turned (with_new lists class fields) (holding (new_keys id) (drawing true y))) (turned (with_new lists class fields) (holding (new_keys id) (drawing true x))) id
        (s.new (drawing true y) (drawing true x) class fields drawn drew among) among) reached));
  }
    where
      told : ℕ → ListAct ℕ
      told id = prints (new_line id) >> gives id

      put : ℕ → ListAct ℕ
      put id = turns (with_new lists class fields) >> (does (touching id) >> (looks (id ∷ []) >> told id))

      stamped : ℕ → ℕ → ListAct ℕ
      stamped id stamp = changes (new_keys id) (version_size stamp fields) draws_number >> put id

      behind_in : (id : ℕ) → Depends m (Unit {0}) (λ i. IsAmong i f.looked) (looks (id ∷ []) >> told id)
      behind_in id =
          next_in m (looks (id ∷ [])) (told id) (one_in m id) (λ k. k)
          (next_in m (prints (new_line id)) (gives id) (prints_in m (new_line id)) (λ k. k) (done_in m id (λ k. k.0.1)))

      put_grows : (id : ℕ) → Grows (put id)
      put_grows id x = (behind_in id).grows (touching id (turned (with_new lists class fields) x))

      made_grows : (id stamp : ℕ) → Grows (stamped id stamp)
      made_grows id stamp = grows_then (changes (new_keys id) (version_size stamp fields) draws_number) (λ _. put id) (changes_grow (new_keys id) (version_size stamp fields) draws_number) (λ u. put_grows id)

  pub switches_on_in : (id : ℕ) (t : Trigger) (args : List Value) → Depends m (IsAmong id f.looked) Anything (switches_on lists id t args)
  switches_on_in id t args = record {
    grows = λ x. short_grows x.now.bones.next x;
    alike = λ among y x h reached. by_short (nat_le (values_length args) args_limit) y x h among reached;
  }
    where
      put : ℕ → ListAct ℕ
      put number = turns (with_active lists id t args) >> (prints (active_line number) >> gives number)

      changed : ℕ → ListAct ℕ
      changed number = changes (active_keys id number) 0 draws_number >> put number

      short : ℕ → ListAct ℕ
      short number = needs reason.Size (λ z. nat_le (values_length args) args_limit) >> changed number

      put_grows : (number : ℕ) → Grows (put number)
      put_grows number x = (told_in (active_line number) number).grows (turned (with_active lists id t args) x)

      short_grows : (number : ℕ) → Grows (short number)
      short_grows number =
          grows_then (needs reason.Size (λ z. nat_le (values_length args) args_limit)) (λ _. changed number) (needs_grow reason.Size (λ z. nat_le (values_length args) args_limit))
          (λ u. grows_then (changes (active_keys id number) 0 draws_number) (λ _. put number) (changes_grow (active_keys id number) 0 draws_number) (λ v. put_grows number))

      by_short : (b : Bool) (y x : ListTx) → Related y x → IsAmong id f.looked → Reached m (go_on (tested b reason.Size x) (λ _. changed x.now.bones.next))
          → Ends m Anything (go_on (tested b reason.Size y) (λ _. changed y.now.bones.next)) (go_on (tested b reason.Size x) (λ _. changed x.now.bones.next))
      by_short false y x h among reached = (refl, h)
      by_short true y x h among reached =
          number_ends Anything (active_keys id) 0 put y x h put_grows (s.active_count y x id h) reached (λ drew drawn reached.
          let number = x.now.bones.next in
          (told_in (active_line number) number).alike tt (turned (with_active lists id t args) (holding (active_keys id number) (drawing true y))) (turned (with_active lists id t args) (holding (active_keys id number) (drawing true x)))
          (s.active (drawing true y) (drawing true x) id t args drawn drew among) reached)
