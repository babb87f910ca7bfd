-- Acts of typed transactions, one after the other: reading, printing, and changing objects.
use Rattle.std.proofs.Common.{◌≡◌, ℕ, zero, suc, ◌+◌, Bool, true, false, cond, List, [], ◌∷◌, ◌++◌, length, Option, Some, None, Result, Ok, Err, refl, sym, ap, ◌∙◌, subst}
use Rattle.std.specs.Prelude.{nat_lt, nat_le, ◌&&◌, slice_get, slice_set}
use Rattle.std.specs.List.{AllByRecursion, AllZip}
use Rattle.ode_value.specs.declared.arithmetic.Fault.{Fault}
use Rattle.ode_value.specs.declared.class.Class.{Class}
use Rattle.ode_value.specs.declared.class.Field.{Field}
use Rattle.ode_value.specs.declared.key.Key.{Key}
use Rattle.ode_value.specs.declared.reason.Reason.{Reason}
use Rattle.ode_value.specs.declared.reason.Reason.TheVariants as reason
use Rattle.ode_value.specs.declared.value.Ref.{Ref}
use Rattle.ode_value.specs.declared.value.Value.{Value}
use Rattle.ode_value.specs.Acts.{Outcome, Done, Aborted, Act, Deed, go_on, ◌>>=◌, ◌>>◌, needs, does, when, each, found, valued, sees, prints, counts, with_line, with_statement}
use Rattle.ode_value.specs.Changes.{key_count, holding, draws_none, changes, alters_object, version_keys, activation_keys, Draw}
use Rattle.ode_value.specs.Denoting.{object_at, denoted}
use Rattle.ode_value.specs.Fitting.{FitsRef, FitsSort}
use Rattle.ode_value.specs.Keys.{object_key, version_key, activation_key}
use Rattle.ode_value.specs.Lengths.{version_size}
use Rattle.ode_value.specs.Limits.{budget_limit, output_limit, change_limit, value_limit}
use Rattle.ode_value.specs.Making.{stamp_now, pinned, sets_field, spares, drops, removes, switches_off}
use Rattle.ode_value.specs.Objects.{Activation}
use Rattle.ode_value.specs.Transactions.{Tx, Collected, footed, looking, drawing}
use Rattle.ode_value.specs.Worlds.{Object, Bones, class_numbered}
use Rattle.ode_laws.proofs.AlikePairs.{altered_bones}
use Rattle.ode_laws.proofs.Each.{all-then}
use Rattle.ode_laws.proofs.Sides.{altered, set_in, dropped_from, removed, off_in}
use Rattle.ode_sound_laws.specs.Growing.{Grows}
use Rattle.ode_sound_laws.specs.Typed.{FitQueue, IsTyped}
use Rattle.ode_sound_laws.specs.Fits.{all_alive, FitsVersion, FitsWorld, FitsEntry, FitsFiring, AreFit}
use Rattle.ode_sound_laws.specs.Sound.{AreSound, IsKnown}
use Rattle.ode_sound_laws.proofs.Basics.{same_some}
use Rattle.ode_sound_laws.proofs.ExprLaws.{denotes_fit, version_all}
use Rattle.ode_sound_laws.proofs.FitLaws.{sort_follows, entry_follows, firing_follows}
use Rattle.ode_sound_laws.proofs.GrowLaws.{grows_itself, grows_on, IsMild, mild_grows, altered_fit, changed_fit, removed_mild, removed_fits, off_mild, off_fits, stamp_follows, born_follows, set_mild, set_fits, dropped_mild, dropped_fits}
use Rattle.ode_value.specs.Footprints.{Footprint, with_looks, with_draw}

-- nothing is said of the answer
abbrev pub Any : (X : Type 0) → Bones → X → Type 0
Any X b r = Unit {0}

-- places of a list that is set
zip_set : (R : Field → Value → Type 0) (fields : List Field) (values : List Value) → AllZip R fields values → (place : ℕ) (f : Field) (v : Value) → slice_get fields place ≡ Some f → R f v → AllZip R fields (slice_set values place v)
zip_set R [] [] all place f v e is = absurd (cc)
zip_set R [] (w ∷ ws) all place f v e is = absurd all
zip_set R (g ∷ gs) [] all place f v e is = absurd all
zip_set R (g ∷ gs) (w ∷ ws) all zero f v e is = (subst (λ k. R k v) (sym (same_some g f e)) is, all.1)
zip_set R (g ∷ gs) (w ∷ ws) all (suc place) f v e is = (all.0, zip_set R gs ws all.1 place f v e is)

module _ {O A : Type 0} where
  -- a later one with the same worlds and firings
  pub typed_as : (x y : Tx O A) → IsTyped x → y.first ≡ x.first → y.now ≡ x.now → y.deferred ≡ x.deferred → y.collected ≡ x.collected → IsTyped y
  typed_as x y h first now deferred collected = record {
    sound = subst (λ w. AreSound w.bones.classes) (sym now) h.sound;
    grows = subst (λ w. Grows w.bones y.now.bones) (sym first) (subst (λ w. Grows x.first.bones w.bones) (sym now) h.grows);
    first = subst (λ w. AreFit w.bones) (sym first) h.first;
    waiting = subst (λ w. FitQueue w.bones w.bones.queue) (sym first) h.waiting;
    now = subst (λ w. AreFit w.bones) (sym now) h.now;
    deferred = subst (λ w. AllByRecursion (FitsFiring w.bones) y.deferred) (sym now) (subst (AllByRecursion (FitsFiring x.now.bones)) (sym deferred) h.deferred);
    collected = subst (λ w. AllByRecursion (λ (c : Collected). FitsEntry w.bones c.entry) y.collected) (sym now)
        (subst (AllByRecursion (λ (c : Collected). FitsEntry x.now.bones c.entry)) (sym collected) h.collected);
  }

  -- with other bones, which grow from these and fit
  pub typed_now : (x y : Tx O A) → IsTyped x → y.first ≡ x.first → y.deferred ≡ x.deferred → y.collected ≡ x.collected → Grows x.now.bones y.now.bones → AreFit y.now.bones → IsTyped y
  typed_now x y h first deferred collected grows fit = record {
    sound = subst AreSound (sym grows.follows.classes) h.sound;
    grows = subst (λ w. Grows w.bones y.now.bones) (sym first) (grows_on x.first.bones x.now.bones y.now.bones h.grows grows);
    first = subst (λ w. AreFit w.bones) (sym first) h.first;
    waiting = subst (λ w. FitQueue w.bones w.bones.queue) (sym first) h.waiting;
    now = fit;
    deferred = subst (AllByRecursion (FitsFiring y.now.bones)) (sym deferred) (all-then (FitsFiring x.now.bones) (FitsFiring y.now.bones) (firing_follows x.now.bones y.now.bones grows.follows) x.deferred h.deferred);
    collected = subst (AllByRecursion (λ (c : Collected). FitsEntry y.now.bones c.entry)) (sym collected)
        (all-then (λ (c : Collected). FitsEntry x.now.bones c.entry) (λ (c : Collected). FitsEntry y.now.bones c.entry) (λ c. entry_follows x.now.bones y.now.bones grows.follows c.entry) x.collected h.collected);
  }

  -- what an act reaches, from these bones on: a typed transaction, and an answer of which something holds
  abbrev pub Ends : {X : Type 0} → Bones → (Bones → X → Type 0) → Outcome O A X → Type 0
  Ends b post (Done r y) = IsTyped y × Grows b y.now.bones × post y.now.bones r
  Ends b post (Aborted reason y) = IsTyped y

  pub ends_from : {X : Type 0} (b c : Bones) → Grows b c → (post : Bones → X → Type 0) (o : Outcome O A X) → Ends c post o → Ends b post o
  ends_from b c grows post (Done r y) h = (h.0, grows_on b c y.now.bones grows h.1, h.2)
  ends_from b c grows post (Aborted reason y) h = h

  pub ends_then : {X Y : Type 0} (b : Bones) (mid : Bones → X → Type 0) (post : Bones → Y → Type 0) (o : Outcome O A X) → Ends b mid o → (f : X → Act O A Y)
      → ((r : X) (y : Tx O A) → IsTyped y → Grows b y.now.bones → mid y.now.bones r → Ends y.now.bones post (f r y)) → Ends b post (go_on o f)
  ends_then b mid post (Done r y) h f rest = ends_from b y.now.bones h.1 post (f r y) (rest r y h.0 h.1 h.2)
  ends_then b mid post (Aborted reason y) h f rest = h

  -- what follows of the answer
  pub ends_as : {X : Type 0} (b : Bones) (mid post : Bones → X → Type 0) (o : Outcome O A X) → Ends b mid o → ((c : Bones) (r : X) → Grows b c → mid c r → post c r) → Ends b post o
  ends_as b mid post (Done r y) h so = (h.0, h.1, so y.now.bones r h.1 h.2)
  ends_as b mid post (Aborted reason y) h so = h

  pub ends_done : {X : Type 0} (post : Bones → X → Type 0) (r : X) (x : Tx O A) → IsTyped x → post x.now.bones r → Ends x.now.bones post (Done r x)
  ends_done post r x h is = (h, grows_itself x.now.bones, is)

  -- what is found, computed and tested
  pub found_ends : {X Y : Type 0} (b : Bones) (post : Bones → Y → Type 0) (o : Option X) (x : Tx O A) → IsTyped x → (f : X → Act O A Y) → ((r : X) → o ≡ Some r → Ends b post (f r x)) → Ends b post (go_on (found o x) f)
  found_ends b post (Some r) x h f rest = rest r refl
  found_ends b post None x h f rest = h

  pub valued_ends : {X Y : Type 0} (b : Bones) (post : Bones → Y → Type 0) (v : Result X Fault) (x : Tx O A) → IsTyped x → (f : X → Act O A Y) → ((r : X) → v ≡ Ok r → Ends b post (f r x)) → Ends b post (go_on (valued v x) f)
  valued_ends b post (Ok r) x h f rest = rest r refl
  valued_ends b post (Err fault) x h f rest = h

  abbrev pub tested : Bool → Reason → Tx O A → Outcome O A (Unit {0})
  tested t reason x = cond t (Done tt x) (Aborted reason x)

  pub needs_ends : {Y : Type 0} (b : Bones) (post : Bones → Y → Type 0) (t : Bool) (reason : Reason) (x : Tx O A) → IsTyped x → (f : Act O A Y) → (t ≡ true → Ends b post (f x)) → Ends b post (go_on (tested t reason x) (λ _. f))
  needs_ends b post true reason x h f rest = rest refl
  needs_ends b post false reason x h f rest = h

  pub when_ends : (t : Bool) (deed : Deed O A) (x : Tx O A) → IsTyped x → (t ≡ true → Ends x.now.bones (Any (Unit {0})) (deed x)) → Ends x.now.bones (Any (Unit {0})) (when t deed x)
  when_ends true deed x h rest = rest refl
  when_ends false deed x h rest = (h, grows_itself x.now.bones, tt)

  -- a deed for each, of which something is known that stays
  pub each_ends : {X : Type 0} (Q : Bones → X → Type 0) → ((b c : Bones) (r : X) → Grows b c → Q b r → Q c r) → (deed : X → Deed O A)
      → ((r : X) (y : Tx O A) → IsTyped y → Q y.now.bones r → Ends y.now.bones (Any (Unit {0})) (deed r y))
      → (rs : List X) (x : Tx O A) → IsTyped x → AllByRecursion (Q x.now.bones) rs → Ends x.now.bones (Any (Unit {0})) (each deed rs x)
  each_ends Q stays deed ends [] x h all = (h, grows_itself x.now.bones, tt)
  each_ends Q stays deed ends (r ∷ rs) x h all =
      ends_then x.now.bones (Any (Unit {0})) (Any (Unit {0})) (deed r x) (ends r x h all.0) (λ _. each deed rs) (λ u y typed grows is.
      each_ends Q stays deed ends rs y typed (all-then (Q x.now.bones) (Q y.now.bones) (λ q. stays x.now.bones y.now.bones q grows) rs all.1))

  -- ---- lines, statements and keys

  pub prints_ends : (line : List ℕ) (x : Tx O A) → IsTyped x → Ends x.now.bones (Any (Unit {0})) (prints line x)
  prints_ends line x h =
      needs_ends x.now.bones (Any (Unit {0})) (nat_le (length x.text + length line) output_limit) reason.Output x h (does (with_line line)) (λ fits.
      (typed_as x (with_line line x) h refl refl refl refl, grows_itself x.now.bones, tt))

  pub counts_ends : (x : Tx O A) → IsTyped x → Ends x.now.bones (Any (Unit {0})) (counts x)
  counts_ends x h =
      needs_ends x.now.bones (Any (Unit {0})) (nat_lt x.run budget_limit) reason.Budget x h (does with_statement) (λ more.
      (typed_as x (with_statement x) h refl refl refl refl, grows_itself x.now.bones, tt))

  -- with another footprint
  pub foot_typed : (change : Footprint → Footprint) (x : Tx O A) → IsTyped x → IsTyped (footed change x)
  foot_typed change x h = typed_as x (footed change x) h refl refl refl refl

  pub look_typed : (ids : List ℕ) (x : Tx O A) → IsTyped x → IsTyped (looking ids x)
  look_typed ids = foot_typed (with_looks ids)

  held_typed : (keys : List Key) (x : Tx O A) → IsTyped x → IsTyped (holding keys x)
  held_typed keys x h = typed_as x (holding keys x) h refl refl refl refl

  tests_then : {Y : Type 0} (b : Bones) (post : Bones → Y → Type 0) (t : Bool) (reason : Reason) (x : Tx O A) → IsTyped x → (f : Deed O A) (next : Act O A Y) → (t ≡ true → Ends b post (go_on (f x) (λ _. next)))
      → Ends b post (go_on (go_on (tested t reason x) (λ _. f)) (λ _. next))
  tests_then b post true reason x h f next rest = rest refl
  tests_then b post false reason x h f next rest = h

  -- a change is asked for; what comes behind it knows that it found its number
  pub changes_ends : {Y : Type 0} (b : Bones) (post : Bones → Y → Type 0) (keys : List Key) (size : ℕ) (draw : Draw) (x : Tx O A) → IsTyped x → (next : Act O A Y)
      → (draw.left x.now.bones ≡ true → IsTyped (holding keys (drawing draw.number x)) → Ends b post (next (holding keys (drawing draw.number x)))) → Ends b post ((changes keys size draw >> next) x)
  changes_ends b post keys size draw x h next rest =
      let drawn : IsTyped (drawing draw.number x) = foot_typed (with_draw draw.number) x h in
      tests_then b post (nat_le size value_limit && nat_le (key_count (holding keys x)) change_limit) reason.Size x h
      (does (drawing draw.number) >> (needs reason.Space (λ z. draw.left z.now.bones) >> does (holding keys))) next (λ small.
      tests_then b post (draw.left x.now.bones) reason.Space (drawing draw.number x) drawn (does (holding keys)) next (λ left. rest left (held_typed keys (drawing draw.number x) drawn)))

  -- ---- changes of objects

  -- an object is changed mildly, whatever it is
  pub alters_ends : (id : ℕ) (f : Object → Object) → IsMild f → ((c : Bones) (o : Object) → FitsWorld c o → FitsWorld c (f o)) → (x : Tx O A) → IsTyped x → Ends x.now.bones (Any (Unit {0})) (alters_object id f x)
  alters_ends id f mild keeps x h = (
    typed_now x (altered id f x) h refl refl refl (mild_grows x.now.bones id f mild) (altered_fit x.now.bones id f mild keeps h.now),
    mild_grows x.now.bones id f mild,
    tt,
  )

  -- the object that was found
  pub alters_found : (id : ℕ) (f : Object → Object) → IsMild f → (x : Tx O A) → IsTyped x → AreFit (altered_bones id f x.now.bones) → IsTyped (altered id f x) × Grows x.now.bones (altered_bones id f x.now.bones)
  alters_found id f mild x h fit = (typed_now x (altered id f x) h refl refl refl (mild_grows x.now.bones id f mild) fit, mild_grows x.now.bones id f mild)

  -- a field of the object that a reference of a class denotes
  pub field_ends : (r : Ref) (place : ℕ) (v : Value) (c : Class) (f : Field) (x : Tx O A) → IsTyped x → IsKnown x.now.bones.classes c → FitsRef (all_alive x.now.bones) c.name r → slice_get c.fields place ≡ Some f
      → FitsSort (all_alive x.now.bones) f.sort v → Ends x.now.bones (Any (Unit {0})) (sets_field r place v x)
  field_ends r place v c f x h known fits at is =
      valued_ends x.now.bones (Any (Unit {0})) (denoted x.now.bones r) x h
      (λ w. sees stamp_now >>= λ stamp. changes (version_key r.object w.number ∷ []) (version_size stamp (slice_set w.fields place v)) draws_none >> alters_object r.object (set_in stamp w place v)) (λ w e.
      changes_ends x.now.bones (Any (Unit {0})) (version_key r.object w.number ∷ []) (version_size now (slice_set w.fields place v)) draws_none x h (alters_object r.object (set_in now w place v)) (λ drawn held.
      let d = denotes_fit x.now.bones h.sound h.now c.name r fits w e in
      let done = alters_found r.object (set_in now w place v) (set_mild now w place v) (holding (version_key r.object w.number ∷ []) x) held
      (changed_fit x.now.bones r.object (set_in now w place v) (set_mild now w place v) d.object d.found (λ b follows o.
      let known_class : class_numbered d.object.class x.now.bones.classes ≡ Some o.class = ap (class_numbered d.object.class) (sym follows.classes) ∙ o.known in
      let field : slice_get o.class.fields place ≡ Some f = h.sound.fields d.object.class c o.class known d.is known_class place f at in
      let version : FitsVersion b o.class d.object.last w = version_all (FitsVersion b o.class d.object.last) r.version d.object.versions o.versions w d.of in
      set_fits b d.object now w place v o (stamp_follows x.now.bones b follows) (born_follows x.now.bones b follows h.now.born d.object o) (zip_set (λ (g : Field). FitsSort (all_alive b) g.sort) o.class.fields w.fields version.fields place f v field (sort_follows x.now.bones b follows f.sort v is))) h.now) in
      (done.0, done.1, tt)))
    where
      now : ℕ
      now = stamp_now x.now.bones

  -- an object that is removed; an activation that goes off; a version that is dropped
  pub removes_ends : (id : ℕ) (x : Tx O A) → IsTyped x → Ends x.now.bones (Any (Unit {0})) (removes id x)
  removes_ends id x h =
      found_ends x.now.bones (Any (Unit {0})) (object_at x.now.bones id) x h (λ o. changes (object_key id ∷ version_keys o ++ activation_keys o) 0 draws_none >> alters_object id removed) (λ o e.
      changes_ends x.now.bones (Any (Unit {0})) (object_key id ∷ version_keys o ++ activation_keys o) 0 draws_none x h (alters_object id removed) (λ drawn held.
      alters_ends id removed removed_mild removed_fits (holding (object_key id ∷ version_keys o ++ activation_keys o) x) held))

  pub switches_off_ends : (id : ℕ) (a : Activation) (x : Tx O A) → IsTyped x → Ends x.now.bones (Any (Unit {0})) (switches_off id a x)
  switches_off_ends id a x h =
      changes_ends x.now.bones (Any (Unit {0})) (activation_key id a.number ∷ []) 0 draws_none x h (alters_object id (off_in a.number)) (λ drawn held.
      alters_ends id (off_in a.number) (off_mild a.number) (off_fits a.number) (holding (activation_key id a.number ∷ []) x) held)

  pub spares_ends : (r : Ref) (x : Tx O A) → IsTyped x → Ends x.now.bones (Any Ref) (spares r x)
  spares_ends r x h =
      valued_ends x.now.bones (Any Ref) (denoted x.now.bones r) x h _ (λ v e.
      found_ends x.now.bones (Any Ref) (object_at x.now.bones r.object) x h _ (λ o there.
      needs_ends x.now.bones (Any Ref) (nat_lt 1 (length o.versions)) (reason.LastVersion r.object) x h _ (λ more.
      ends_done (Any Ref) (pinned r v.number) x h tt)))

  pub drops_ends : (r : Ref) (x : Tx O A) → IsTyped x → Ends x.now.bones (Any (Unit {0})) (drops r x)
  drops_ends r x h =
      valued_ends x.now.bones (Any (Unit {0})) (denoted x.now.bones r) x h _ (λ v e.
      found_ends x.now.bones (Any (Unit {0})) (object_at x.now.bones r.object) x h _ (λ o there.
      needs_ends x.now.bones (Any (Unit {0})) (nat_lt 1 (length o.versions)) (reason.LastVersion o.id) x h _ (λ more.
      changes_ends x.now.bones (Any (Unit {0})) (version_key o.id v.number ∷ []) 0 draws_none x h (alters_object o.id (dropped_from v)) (λ drawn held.
      alters_ends o.id (dropped_from v) (dropped_mild v) (dropped_fits v) (holding (version_key o.id v.number ∷ []) x) held))))
