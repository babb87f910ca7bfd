-- Worlds of one transaction, one behind the other: what is there stays, and keeps its class. What small changes leave fits.
use Rattle.std.proofs.Common.{◌≡◌, ℕ, ◌+◌, ◌<◌, ◌≤◌, ◌^◌, Bool, true, false, cond, not, List, [], ◌∷◌, ◌++◌, length, map, ◌==◌, Option, Some, None, refl, sym, ap, ◌∙◌, subst, arith}
use Rattle.std.specs.Prelude.{slice_set, nat_lt}
use Rattle.std.specs.List.{AllByRecursion}
use Rattle.std.proofs.lemmas.Bool.{eqb-true, ltb-true}
use Rattle.std.proofs.lemmas.List.{map-append}
use Rattle.ode_value.specs.declared.class.Class.{Class}
use Rattle.ode_value.specs.declared.class.Field.{Field}
use Rattle.ode_value.specs.declared.value.Value.{Value}
use Rattle.ode_value.specs.Changes.{has_number}
use Rattle.ode_value.specs.Classes.{Trigger}
use Rattle.ode_value.specs.Denoting.{object_numbered}
use Rattle.ode_value.specs.Fields.{AreBorn}
use Rattle.ode_value.specs.Firings.{after_firings, object_after}
use Rattle.ode_value.specs.Fitting.{FitFields, FitTrigger, FitsSort, HaveTrigger, trigger_in}
use Rattle.ode_value.specs.GoodWorlds.{IsNext, RiseFrom}
use Rattle.ode_value.specs.Limits.{number_limit, version_limit}
use Rattle.ode_value.specs.Making.{stamp_now, with_fields, switched_off, derived_from, object_with, with_activation, drawn}
use Rattle.ode_value.specs.Objects.{Activation}
use Rattle.ode_value.specs.Transactions.{Firing}
use Rattle.ode_value.specs.Versions.{Version}
use Rattle.ode_value.specs.Worlds.{Object, Bones, class_numbered, with_object}
use Rattle.ode_laws.proofs.AlikePairs.{altered_bones, ids_same, all_with, all_found}
use Rattle.ode_laws.proofs.BornLaws.{class_born, have_literals}
use Rattle.ode_laws.proofs.Each.{all-append, all-then, all-map, all-filter}
use Rattle.ode_laws.proofs.Numbers.{rise_more}
use Rattle.ode_laws.proofs.Rows.{id_of, find-with, numbered-append}
use Rattle.ode_laws.proofs.Sides.{set_in, dropped_from, removed, off_in}
use Rattle.ode_sound_laws.specs.Fits.{all_alive, FitsVersion, FitsWorld, AreFit}
use Rattle.ode_sound_laws.specs.Growing.{Follows, StillThere, Grows}
use Rattle.ode_sound_laws.specs.Sound.{IsSoundTrigger, checked_classes}
use Rattle.ode_sound_laws.proofs.Basics.{same_some}
use Rattle.ode_sound_laws.proofs.FitLaws.{follows_itself, follows_on, object_follows, fields_follow, args_follow}

pub grows_itself : (b : Bones) → Grows b b
grows_itself b = record { follows = follows_itself b; stays = λ id o e. record { after = o; found = e; class = refl; last = omega arith } }

pub grows_on : (b c d : Bones) → Grows b c → Grows c d → Grows b d
grows_on b c d f g = record {
  follows = follows_on b c d f.follows g.follows;
  stays = λ id o e.
      let one = f.stays id o e in
      let two = g.stays id one.after one.found in
      let low : o.last ≤ one.after.last = one.last in
      let high : one.after.last ≤ two.after.last = two.last in
      record { after = two.after; found = two.found; class = two.class ∙ one.class; last = omega arith };
}

-- a change of an object that leaves its number and its class
pub record IsMild (f : Object → Object) : Type 0 where
  pub id : (o : Object) → (f o).id ≡ o.id
  pub class : (o : Object) → (f o).class ≡ o.class
  pub last : (o : Object) → o.last ≤ (f o).last

-- the object of a number behind such a change
with_before : (n id : ℕ) (f : Object → Object) → IsMild f → (os : List Object) (q : Object) → object_numbered n (with_object id f os) ≡ Some q
    → (o : Object) × (object_numbered n os ≡ Some o) × (q.class ≡ o.class) × (o.last ≤ q.last)
with_before n id f mild [] q e = absurd (cc)
with_before n id f mild (p ∷ os) q e = by_test (p.id == id) e (with_before n id f mild os q) where
  by_number : (o : Object) (c : Bool) (rest more : Option Object) → (o.class ≡ p.class) → (p.last ≤ o.last) → cond c (Some o) rest ≡ Some q
      → (rest ≡ Some q → (r : Object) × (more ≡ Some r) × (q.class ≡ r.class) × (r.last ≤ q.last))
      → (r : Object) × (cond c (Some p) more ≡ Some r) × (q.class ≡ r.class) × (r.last ≤ q.last)
  by_number o true rest more class last g later =
      let same : o ≡ q = same_some o q g in
      (p, refl, ap (λ (x : Object). x.class) (sym same) ∙ class, subst (λ (x : Object). p.last ≤ x.last) same last)
  by_number o false rest more class last g later = later g

  by_test : (t : Bool) → object_numbered n (cond t (f p ∷ os) (p ∷ with_object id f os)) ≡ Some q
      → (object_numbered n (with_object id f os) ≡ Some q → (o : Object) × (object_numbered n os ≡ Some o) × (q.class ≡ o.class) × (o.last ≤ q.last))
      → (o : Object) × (cond (p.id == n) (Some p) (object_numbered n os) ≡ Some o) × (q.class ≡ o.class) × (o.last ≤ q.last)
  by_test true g rest =
      subst (λ m. (o : Object) × (cond (m == n) (Some p) (object_numbered n os) ≡ Some o) × (q.class ≡ o.class) × (o.last ≤ q.last)) (mild.id p)
      (by_number (f p) ((f p).id == n) (object_numbered n os) (object_numbered n os) (mild.class p) (mild.last p) g (λ h. (q, h, refl, omega arith)))
  by_test false g rest = by_number p (p.id == n) (object_numbered n (with_object id f os)) (object_numbered n os) refl (omega arith) g rest

pub mild_grows : (b : Bones) (id : ℕ) (f : Object → Object) → IsMild f → Grows b (altered_bones id f b)
mild_grows b id f mild = record {
  follows = record {
    classes = refl;
    added = refl;
    next = omega arith;
    objects = λ n less o e. let was = with_before n id f mild b.objects o e in record { before = was.0; found = was.1; class = was.2; last = was.3 };
  };
  stays = λ n o e. still n o (n == id) (find-with n id f mild.id b.objects o e);
}
  where
    still : (n : ℕ) (o : Object) (t : Bool) → object_numbered n (with_object id f b.objects) ≡ Some (cond t (f o) o) → StillThere (altered_bones id f b) n o
    still n o true e = record { after = f o; found = e; class = mild.class o; last = mild.last o }
    still n o false e = record { after = o; found = e; class = refl; last = omega arith }

-- ---- objects behind a change

pub same_fit : (b c : Bones) → Follows b c → AllByRecursion (FitsWorld b) b.objects → AllByRecursion (FitsWorld c) b.objects
same_fit b c f all = all-then (FitsWorld b) (FitsWorld c) (object_follows b c f) b.objects all

-- the object that is changed fits in the world behind it
pub all_found_with : (P : Object → Type 0) (id : ℕ) (f : Object → Object) (o : Object) → P (f o) → (os : List Object) → object_numbered id os ≡ Some o → AllByRecursion P os → AllByRecursion P (with_object id f os)
all_found_with P id f o holds [] is all = tt
all_found_with P id f o holds (p ∷ os) is all = by_test (p.id == id) is (λ e. all_found_with P id f o holds os e all.1) where
  by_test : (t : Bool) → cond t (Some p) (object_numbered id os) ≡ Some o → (object_numbered id os ≡ Some o → AllByRecursion P (with_object id f os)) → AllByRecursion P (cond t (f p ∷ os) (p ∷ with_object id f os))
  by_test true e rest = (subst (λ q. P (f q)) (sym (same_some p o e)) holds, all.1)
  by_test false e rest = (all.0, rest e)

-- whatever is changed
pub altered_fit : (b : Bones) (id : ℕ) (f : Object → Object) → IsMild f → ((c : Bones) (o : Object) → FitsWorld c o → FitsWorld c (f o)) → AreFit b → AreFit (altered_bones id f b)
altered_fit b id f mild keeps fit = record {
  next = fit.next;
  rising = subst (RiseFrom 0) (sym (ids_same id f mild.id b.objects)) fit.rising;
  born = fit.born;
  objects =
      all_with (FitsWorld (altered_bones id f b)) id f (keeps (altered_bones id f b)) b.objects
      (same_fit b (altered_bones id f b) (mild_grows b id f mild).follows fit.objects);
}

-- the object of a number is changed
pub changed_fit : (b : Bones) (id : ℕ) (f : Object → Object) → IsMild f → (o : Object) → object_numbered id b.objects ≡ Some o → ((c : Bones) → Follows b c → FitsWorld c o → FitsWorld c (f o)) → AreFit b → AreFit (altered_bones id f b)
changed_fit b id f mild o there keeps fit =
    let c = altered_bones id f b in
    let follows = (mild_grows b id f mild).follows in
    let all : AllByRecursion (FitsWorld c) b.objects = same_fit b c follows fit.objects in
    record { next = fit.next; rising = subst (RiseFrom 0) (sym (ids_same id f mild.id b.objects)) fit.rising; born = fit.born; objects = all_found_with (FitsWorld c) id f o (keeps c follows (all_found (FitsWorld c) id b.objects all o there)) b.objects there all }

-- ---- the changes

pub removed_mild : IsMild removed
removed_mild = record { id = λ o. refl; class = λ o. refl; last = λ o. omega arith }

pub removed_fits : (c : Bones) (o : Object) → FitsWorld c o → FitsWorld c (removed o)
removed_fits c o h = record { number = h.number; class = h.class; known = h.known; last = h.last; versions = h.versions; activations = h.activations }

abbrev HasTrigger : Bones → ℕ → Activation → Type 0
HasTrigger c class a = HaveTrigger (all_alive c) a.args (trigger_in c.classes class a)

off_has : (c : Bones) (class number : ℕ) (a : Activation) → HasTrigger c class a → HasTrigger c class (switched_off number a)
off_has c class number a h = by_test (a.number == number) where
  by_test : (t : Bool) → HasTrigger c class (cond t (record a { on = false }) a)
  by_test true = h
  by_test false = h

pub off_mild : (number : ℕ) → IsMild (off_in number)
off_mild number = record { id = λ o. refl; class = λ o. refl; last = λ o. omega arith }

pub off_fits : (number : ℕ) (c : Bones) (o : Object) → FitsWorld c o → FitsWorld c (off_in number o)
off_fits number c o h = record {
  number = h.number;
  class = h.class;
  known = h.known;
  last = h.last;
  versions = h.versions;
  activations = all-map (HasTrigger c o.class) (switched_off number) o.activations
      (all-then (HasTrigger c o.class) (λ a. HasTrigger c o.class (switched_off number a)) (off_has c o.class number) o.activations h.activations);
}

pub after_mild : (firings : List Firing) → IsMild (object_after firings)
after_mild firings = record { id = λ o. refl; class = λ o. refl; last = λ o. omega arith }

pub after_fits : (firings : List Firing) (c : Bones) (o : Object) → FitsWorld c o → FitsWorld c (object_after firings o)
after_fits firings c o h = record {
  number = h.number;
  class = h.class;
  known = h.known;
  last = h.last;
  versions = h.versions;
  activations = all-map (HasTrigger c o.class) (after_firings firings) o.activations h.activations;
}

-- what is made or set now has a stamp of the world behind it too
pub stamp_follows : (b c : Bones) → Follows b c → stamp_now b ≤ length c.added
stamp_follows b c f = subst (λ fs. length b.added ≤ length fs) (sym f.added) (omega arith)

-- at which all fields of its class were there
pub born_follows : (b c : Bones) → Follows b c → AllByRecursion (AreBorn (length b.added)) (checked_classes b.classes) → (o : Object) → (h : FitsWorld c o) → AreBorn (stamp_now b) h.class
born_follows b c f born o h = class_born (length b.added) b.classes born o.class h.class (ap (class_numbered o.class) (sym f.classes) ∙ h.known)

pub set_mild : (stamp : ℕ) (v : Version) (place : ℕ) (value : Value) → IsMild (set_in stamp v place value)
set_mild stamp v place value = record { id = λ o. refl; class = λ o. refl; last = λ o. omega arith }

pub set_fits : (c : Bones) (o : Object) (stamp : ℕ) (v : Version) (place : ℕ) (value : Value) → (h : FitsWorld c o) → stamp ≤ length c.added → AreBorn stamp h.class
    → FitFields (all_alive c) h.class.fields (slice_set v.fields place value)
    → FitsWorld c (set_in stamp v place value o)
set_fits c o stamp v place value h now born fits = record {
  number = h.number;
  class = h.class;
  known = h.known;
  last = h.last;
  versions = all-map (FitsVersion c h.class o.last) (with_fields stamp v.number (slice_set v.fields place value)) o.versions
      (all-then (FitsVersion c h.class o.last) (λ w. FitsVersion c h.class o.last (with_fields stamp v.number (slice_set v.fields place value) w)) (λ w is. by_test w is (w.number == v.number)) o.versions h.versions);
  activations = h.activations;
}
  where
    by_test : (w : Version) → FitsVersion c h.class o.last w → (t : Bool) → FitsVersion c h.class o.last (cond t (record w { fields = slice_set v.fields place value; stamp = stamp }) w)
    by_test w is true = record { some = is.some; number = is.number; parent = is.parent; stamp = now; fields = fits; later = have_literals (λ (f : Field). FitsSort (all_alive c) f.sort) stamp h.class.fields (slice_set v.fields place value) born fits }
    by_test w is false = is

pub derived_mild : (stamp : ℕ) (v : Version) → IsMild (derived_from stamp v)
derived_mild stamp v = record { id = λ o. refl; class = λ o. refl; last = λ o. omega arith }

later_version : (c : Bones) (class : Class) (last : ℕ) (v : Version) → FitsVersion c class last v → FitsVersion c class (last + 1) v
later_version c class last v is = record { some = is.some; number = let less : v.number ≤ last = is.number in omega arith; parent = is.parent; stamp = is.stamp; fields = is.fields; later = is.later }

pub derived_fits : (c : Bones) (o : Object) (stamp : ℕ) (v : Version) → (h : FitsWorld c o) → stamp ≤ length c.added → AreBorn stamp h.class → FitsVersion c h.class o.last v → o.last + 1 < 2 ^ 32
    → FitsWorld c (derived_from stamp v o)
derived_fits c o stamp v h now born is last =
    let new : Version = record { number = o.last + 1; parent = Some v.number; stamp = stamp; fields = v.fields } in
    record {
      number = h.number;
      class = h.class;
      known = h.known;
      last = last;
      versions = all-append (FitsVersion c h.class (o.last + 1)) o.versions (new ∷ []) (all-then (FitsVersion c h.class o.last) (FitsVersion c h.class (o.last + 1)) (later_version c h.class o.last) o.versions h.versions) (
        record {
          some = omega arith;
          number = omega arith;
          parent = (is.some, let less : v.number ≤ o.last = is.number in omega arith);
          stamp = now;
          fields = is.fields;
          later = have_literals (λ (f : Field). FitsSort (all_alive c) f.sort) stamp h.class.fields v.fields born is.fields;
        },
        tt,
      );
      activations = h.activations;
    }

pub derived_last : (o : Object) → nat_lt o.last version_limit ≡ true → o.last + 1 < 2 ^ 32
unfolding version_limit
derived_last o more = let less : o.last < version_limit = ltb-true o.last version_limit more in omega arith

pub dropped_mild : (v : Version) → IsMild (dropped_from v)
dropped_mild v = record { id = λ o. refl; class = λ o. refl; last = λ o. omega arith }

pub dropped_fits : (v : Version) (c : Bones) (o : Object) → FitsWorld c o → FitsWorld c (dropped_from v o)
dropped_fits v c o h = record {
  number = h.number;
  class = h.class;
  known = h.known;
  last = h.last;
  versions = all-filter (FitsVersion c h.class o.last) (λ (w : Version). not (w.number == v.number)) o.versions h.versions;
  activations = h.activations;
}

-- ---- a new object, and a new activation

abbrev pub new_bones : ℕ → List Value → Bones → Bones
new_bones class fields b = drawn (record b { objects = b.objects ++ object_with (stamp_now b) b.next class fields ∷ [] })

numbered_before : (n : ℕ) (os : List Object) (new q : Object) → (new.id == n) ≡ false → object_numbered n (os ++ new ∷ []) ≡ Some q → object_numbered n os ≡ Some q
numbered_before n [] new q other e = absurd (none_there (new.id == n) other e) where
  none_there : (t : Bool) → t ≡ false → cond t (Some new) None ≡ Some q → ⊥
  none_there true f g = cc
  none_there false f g = cc
numbered_before n (p ∷ os) new q other e = by_test (p.id == n) e (numbered_before n os new q other) where
  by_test : (t : Bool) → cond t (Some p) (object_numbered n (os ++ new ∷ [])) ≡ Some q → (object_numbered n (os ++ new ∷ []) ≡ Some q → object_numbered n os ≡ Some q) → cond t (Some p) (object_numbered n os) ≡ Some q
  by_test true f rest = f
  by_test false f rest = rest f

apart : (a b : ℕ) → b < a → (a == b) ≡ false
apart a b less = by_test (a == b) (eqb-true a b) where
  by_test : (t : Bool) → (t ≡ true → a ≡ b) → t ≡ false
  by_test true same = let e : a ≡ b = same refl in absurd (omega arith)
  by_test false same = refl

pub new_grows : (b : Bones) (class : ℕ) (fields : List Value) → Grows b (new_bones class fields b)
new_grows b class fields = record {
  follows = record {
    classes = refl;
    added = refl;
    next = omega arith;
    objects = λ n less o e. record { before = o; found = numbered_before n b.objects (object_with (stamp_now b) b.next class fields) o (apart b.next n less) e; class = refl; last = omega arith };
  };
  stays = λ n o e. record { after = o; found = numbered-append n b.objects (object_with (stamp_now b) b.next class fields ∷ []) o e; class = refl; last = omega arith };
}

next_more : (next : ℕ) → IsNext number_limit next → nat_lt next number_limit ≡ true → IsNext number_limit (next + 1)
next_more next is left = record { some = omega arith; bounded = let less : next < number_limit = ltb-true next number_limit left in omega arith }

pub new_fit : (b : Bones) (c : Class) (fields : List Value) → class_numbered c.number b.classes ≡ Some c → FitFields (all_alive b) c.fields fields → has_number b ≡ true → AreFit b → AreFit (new_bones c.number fields b)
new_fit b c fields known fits left fit =
    let d = new_bones c.number fields b in
    let follows = (new_grows b c.number fields).follows in
    let here : FitFields (all_alive d) c.fields fields = fields_follow b d follows c.fields fields fits in
    record {
      next = next_more b.next fit.next left;
      rising =
          subst (RiseFrom 0) (sym (map-append id_of b.objects (object_with (stamp_now b) b.next c.number fields ∷ [])))
          (rise_more 0 b.next (map id_of b.objects) (omega arith) fit.rising
          (all-map (λ m. m < b.next) id_of b.objects (all-then (FitsWorld b) (λ (o : Object). o.id < b.next) (λ o h. h.number) b.objects fit.objects)));
      born = fit.born;
      objects = all-append (FitsWorld d) b.objects (object_with (stamp_now b) b.next c.number fields ∷ []) (same_fit b d follows fit.objects) (
        record {
          number = omega arith;
          class = c;
          known = known;
          last = omega arith;
          versions = (
            record {
              some = omega arith;
              number = omega arith;
              parent = tt;
              stamp = stamp_follows b d follows;
              fields = here;
              later = have_literals (λ (f : Field). FitsSort (all_alive d) f.sort) (stamp_now b) c.fields fields (class_born (length b.added) b.classes fit.born c.number c known) here;
            },
            tt,
          );
          activations = tt;
        },
        tt,
      );
    }

abbrev pub active_bones : ℕ → Trigger → List Value → Bones → Bones
active_bones id t args b = drawn (record b { objects = with_object id (with_activation t args b.next) b.objects })

active_mild : (t : Trigger) (args : List Value) (number : ℕ) → IsMild (with_activation t args number)
active_mild t args number = record { id = λ o. refl; class = λ o. refl; last = λ o. omega arith }

pub active_grows : (b : Bones) (id : ℕ) (t : Trigger) (args : List Value) → Grows b (active_bones id t args b)
active_grows b id t args =
    let g = mild_grows b id (with_activation t args b.next) (active_mild t args b.next) in
    record {
      follows = record { classes = refl; added = refl; next = omega arith; objects = λ n less o e. let was = g.follows.objects n less o e in record { before = was.before; found = was.found; class = was.class; last = was.last } };
      stays = λ n o e. let still = g.stays n o e in record { after = still.after; found = still.found; class = still.class; last = still.last };
    }

pub active_fit : (b : Bones) (id : ℕ) (t : Trigger) (args : List Value) (o : Object) → object_numbered id b.objects ≡ Some o → IsSoundTrigger b.classes o.class t → FitTrigger (all_alive b) args t → has_number b ≡ true → AreFit b
    → AreFit (active_bones id t args b)
active_fit b id t args o there sound fits left fit =
    let c = active_bones id t args b in
    let follows = (active_grows b id t args).follows in
    let all : AllByRecursion (FitsWorld c) b.objects = same_fit b c follows fit.objects in
    let h : FitsWorld c o = all_found (FitsWorld c) id b.objects all o there in
    let new : Activation = record { number = b.next; class = t.class; trigger = t.place; args = args; on = true } in
    record {
      next = next_more b.next fit.next left;
      rising = subst (RiseFrom 0) (sym (ids_same id (with_activation t args b.next) (active_mild t args b.next).id b.objects)) fit.rising;
      born = fit.born;
      objects = all_found_with (FitsWorld c) id (with_activation t args b.next) o (record {
        number = h.number;
        class = h.class;
        known = h.known;
        last = h.last;
        versions = h.versions;
        activations = all-append (HasTrigger c o.class) o.activations (new ∷ []) h.activations (subst (HaveTrigger (all_alive c) args) (sym sound.found) (args_follow b c follows args (Some t) fits), tt);
      }) b.objects there all;
    }
