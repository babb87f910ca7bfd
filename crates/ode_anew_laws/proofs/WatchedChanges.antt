-- What an activation of an object watches for behind a change. Where the object gets the fields, the class of its trigger gets them too, or
-- stands above the changed one, so that its masks name fields before the new ones.
use Rattle.std.proofs.Common.{◌≡◌, ◌≤◌, ℕ, zero, suc, List, [], ◌∷◌, ◌++◌, ◌+◌, map, length, reverse, Bool, true, false, cond, Option, Some, None, refl, ap, sym, ◌∙◌, subst, arith}
use Rattle.std.specs.Prelude.{◌==◌, ◌||◌, slice_get}
use Rattle.std.specs.List.{AllByRecursion, enumerate_from, find, list_any}
use Rattle.std.specs.Option.{IfSome, option_and_then, option_map, option_map_or, unwrap_or}
use Rattle.std.specs.Str.{bytes_eq}
use Rattle.std.proofs.lemmas.Bool.{and_parts, eqb-true, false≢true}
use Rattle.ode_value.specs.declared.change.Change.{Change}
use Rattle.ode_value.specs.declared.class.Class.{Class}
use Rattle.ode_value.specs.declared.class.Field.{Field}
use Rattle.ode_value.specs.declared.member.TriggerDecl.{TriggerDecl}
use Rattle.ode_value.specs.declared.statement.Sort.{Sort}
use Rattle.ode_value.specs.declared.value.Value.{Value}
use Rattle.ode_value.specs.Changing.{added_as, changed_number, changed_place, literals_of}
use Rattle.ode_value.specs.Classes.{Trigger, family, is_a, own_triggers, trigger_of, watch_of}
use Rattle.ode_value.specs.Fields.{field_of}
use Rattle.ode_value.specs.Firings.{is_of, watch_by}
use Rattle.ode_value.specs.Fitting.{HaveTrigger, trigger_in}
use Rattle.ode_value.specs.GoodWorlds.{IsActivation, IsObject}
use Rattle.ode_value.specs.Moving.{moved_event}
use Rattle.ode_value.specs.Objects.{Activation}
use Rattle.ode_value.specs.Pasts.{Watch}
use Rattle.ode_value.specs.Worlds as worlds
use Rattle.ode_value.specs.Worlds.{Bones, Declared, Object}
use Rattle.ode_types.specs.Checked.{AreChecked, AreCheckedBehind}
use Rattle.ode_types.specs.Families.{ancestors_of, class_named, class_numbered, upward}
use Rattle.ode_laws.proofs.Each.{all-find, all-then}
use Rattle.ode_sound_laws.specs.Sound.{checked_classes}
use Rattle.ode_accepted_laws.proofs.Accepted.{line_is}
use Rattle.ode_accepted_laws.proofs.Lines.{AreKept, Inherits, IsLine, IsPlaced, all-upward, kept_all, line_from, upward_number}
use Rattle.ode_accepted_laws.proofs.Lists.{all-reverse, find-flat}
use Rattle.ode_accepted_laws.proofs.Members.{Begins}
use Rattle.ode_change_laws.specs.Moves.{AreBehind, AreWatched, IsWatched, new_fields}
use Rattle.ode_change_laws.proofs.WatchedStill.{watched}
use Rattle.ode_anew_laws.proofs.AnewWays.{gets, line_gets, one_named}
use Rattle.ode_anew_laws.proofs.LowMasks.{low_masks}

-- ---- the words of the machine

pub named_same : (ds : List Declared) (name : List ℕ) → class_named (checked_classes ds) name ≡ worlds.class_named name ds
named_same [] name = refl
named_same (d ∷ ds) name = ap (cond (bytes_eq d.class.name name) (Some d.class)) (named_same ds name)

pub numbered_same : (ds : List Declared) (n : ℕ) → class_numbered (checked_classes ds) n ≡ worlds.class_numbered n ds
numbered_same [] n = refl
numbered_same (d ∷ ds) n = ap (cond (d.class.number == n) (Some d.class)) (numbered_same ds n)

-- ---- the fields of a line

begins_length : (xs ys : List Field) → Begins xs ys → length xs ≤ length ys
begins_length [] ys begins = omega arith
begins_length (x ∷ xs) [] begins = let none = begins 0 x refl in absurd (cc (none))
begins_length (x ∷ xs) (y ∷ ys) begins = let rest = begins_length xs ys (λ place f at. begins (suc place) f at) in omega (arith, rest)

-- those above a class have no more
shorter : (e : Class) (line : List Class) → Inherits line e → IsLine line → AllByRecursion (λ (f : Class). length f.fields ≤ length e.fields) line
shorter e [] inherits is = tt
shorter e (p ∷ above) inherits is =
    let here : length p.fields ≤ length e.fields = begins_length p.fields e.fields inherits in (
      here,
      all-then (λ (f : Class). length f.fields ≤ length p.fields) (λ (f : Class). length f.fields ≤ length e.fields) (λ f low. omega (arith, low, here)) above (shorter p above is.0.fields is.1),
    )

or_true : (b : Bool) → (b || true) ≡ true
or_true true = refl
or_true false = refl

module _ (whole : List Class) (kept : AreKept whole) (name : List ℕ) (changed : Class) (found : class_named whole name ≡ Some changed) (placed : IsPlaced whole changed) where
  abbrev test : ℕ → Bool
  test n = gets whole kept name changed found placed n

  -- a class of the line of a number: where it gets the fields the number does, and where only the number does it has none behind them
  record IsAbove (n : ℕ) (e : Class) : Type 0 where
    there : IsPlaced whole e
    up : test e.number ≡ true → test n ≡ true
    low : test n ≡ true → test e.number ≡ false → length e.fields ≤ length changed.fields

  -- the same with a class below
  one_below : (n : ℕ) (e f : Class) → IsPlaced whole e → e.number ≡ n → IsAbove (unwrap_or e.parent 0) f → length f.fields ≤ length e.fields → IsAbove n f
  one_below n e f is number above short = record {
    there = above.there;
    up = λ h. line ∙ ap (λ b. bytes_eq e.name name || b) (above.up h) ∙ or_true (bytes_eq e.name name);
    low = λ got not. by_name (bytes_eq e.name name) (one_named whole kept name changed found placed e is) (sym line ∙ got) (λ m. above.low m not);
  }
    where
      line : test n ≡ (bytes_eq e.name name || test (unwrap_or e.parent 0))
      line = ap test (sym number) ∙ line_gets whole kept name changed found placed e is

      by_name : (b : Bool) → (b ≡ true → e ≡ changed) → (b || test (unwrap_or e.parent 0)) ≡ true → (test (unwrap_or e.parent 0) ≡ true → length f.fields ≤ length changed.fields) → length f.fields ≤ length changed.fields
      by_name true same got rest = subst (λ (x : Class). length f.fields ≤ length x.fields) (same refl) short
      by_name false same got rest = rest got

  all_below : (n : ℕ) (e : Class) → IsPlaced whole e → e.number ≡ n → (line : List Class) → AllByRecursion (IsAbove (unwrap_or e.parent 0)) line
      → AllByRecursion (λ (f : Class). length f.fields ≤ length e.fields) line → AllByRecursion (IsAbove n) line
  all_below n e is number [] all short = tt
  all_below n e is number (f ∷ line) all short = (one_below n e f is number all.0 short.0, all_below n e is number line all.1 short.1)

  line_above : (n : ℕ) (line : List Class) → upward n (reverse whole) ≡ line → AllByRecursion (IsPlaced whole) line → IsLine line → AllByRecursion (IsAbove n) line
  line_above n [] h all is = tt
  line_above n (e ∷ line) h all is =
      let number : e.number ≡ n = upward_number n (reverse whole) e line h in
      let both : e ∷ ancestors_of whole e ≡ e ∷ line = sym all.0.line ∙ ap (λ m. upward m (reverse whole)) number ∙ h in
      let same : ancestors_of whole e ≡ line = cc (both) in
      let above = line_above (unwrap_or e.parent 0) line same all.1 is.1 in (
        record { there = all.0; up = λ got. ap test (sym number) ∙ got; low = λ got not. absurd (false≢true (sym not ∙ ap test number ∙ got)) },
        all_below n e all.0 number line above (shorter e line is.0.fields is.1),
      )

  all_above : (n : ℕ) → AllByRecursion (IsAbove n) (upward n (reverse whole))
  all_above n =
      line_above n (upward n (reverse whole)) refl (all-upward (IsPlaced whole) n (reverse whole) (all-reverse (IsPlaced whole) whole kept.placed))
      (line_from n (reverse whole) kept.family)

-- ---- masks

-- with more fields behind its own the events of a class stay
abbrev OwnMasks : Class → Type 0
OwnMasks e = (at more : ℕ) → length e.fields ≤ at → AllByRecursion (λ (t : TriggerDecl). moved_event at more t.event ≡ t.event) e.triggers

own_masks : (known cs : List Class) → AreCheckedBehind known cs → AllByRecursion OwnMasks cs
own_masks known [] all = tt
own_masks known (c ∷ cs) all = ((λ at more few. low_masks at more known all.0.added all.0.tree c all.0.checks few), own_masks (known ++ c ∷ []) cs all.1)

-- ---- triggers

-- one that is found among those of a class
found_own : (n : ℕ) (p : Trigger → Bool) (us : List (ℕ × TriggerDecl)) (t : Trigger) → find p (map (trigger_of n) us) ≡ Some t → (t.class ≡ n) × (p t ≡ true)
found_own n p [] t h = absurd (cc (h))
found_own n p (u ∷ us) t h = by_test (p (trigger_of n u)) refl h (found_own n p us t) where
  by_test : (b : Bool) → p (trigger_of n u) ≡ b → cond b (Some (trigger_of n u)) (find p (map (trigger_of n) us)) ≡ Some t
      → (find p (map (trigger_of n) us) ≡ Some t → (t.class ≡ n) × (p t ≡ true)) → (t.class ≡ n) × (p t ≡ true)
  by_test true here is rest = let same : trigger_of n u ≡ t = cc (is) in (sym (ap (λ (x : Trigger). x.class) same), subst (λ x. p x ≡ true) same here)
  by_test false here is rest = rest is

module _ (at more : ℕ) (a : Activation) where
  abbrev Stays : Watch → Type 0
  Stays w = moved_event at more w.event ≡ w.event

  abbrev watch_in : Option Class → Option Watch
  watch_in x = option_map (λ t. watch_of t a.args) (option_map (λ t. trigger_of a.class (a.trigger, t)) (option_and_then (λ (c : Class). slice_get c.triggers a.trigger) x))

  stays_at : (ts : List TriggerDecl) → AllByRecursion (λ (t : TriggerDecl). moved_event at more t.event ≡ t.event) ts → (k : ℕ)
      → IfSome (option_map (λ t. watch_of t a.args) (option_map (λ t. trigger_of a.class (a.trigger, t)) (slice_get ts k))) Stays
  stays_at [] all k = tt
  stays_at (t ∷ ts) all zero = all.0
  stays_at (t ∷ ts) all (suc k) = stays_at ts all.1 k

-- ---- the activations of objects

module _ (b : Bones) (c : Change) (classes : List Declared) (checked : AreChecked (checked_classes b.classes)) (changed : Class) (found : class_named (checked_classes b.classes) c.class ≡ Some changed) (behind : AreBehind b c classes) where
  abbrev whole : List Class
  whole = checked_classes b.classes

  kept : AreKept whole
  kept = kept_all whole checked

  placed : IsPlaced whole changed
  placed = all-find (IsPlaced whole) (λ (e : Class). bytes_eq e.name c.class) whole kept.placed changed found

  abbrev Above : ℕ → Class → Type 0
  Above n e = IsAbove whole kept c.class changed found placed n e

  same_test : (n : ℕ) → gets whole kept c.class changed found placed n ≡ is_a b.classes n c.class
  same_test n = sym (ap (list_any (λ (e : Class). bytes_eq e.name c.class)) (line_is b.classes n))

  place_is : changed_place b c ≡ length changed.fields
  place_is = ap (λ o. option_map_or (λ (k : Class). length k.fields) o 0) (sym (named_same b.classes c.class) ∙ found)

  -- the class of an activation's trigger is one of the object's line
  activation_above : (class : ℕ) (a : Activation) (t : Trigger) → trigger_in b.classes class a ≡ Some t → (e : Class) × Above class e × (a.class ≡ e.number)
  activation_above class a t h =
      let line = subst (AllByRecursion (Above class)) (sym (line_is b.classes class)) (all_above whole kept c.class changed found placed class) in
      let there = find-flat (Above class) own_triggers (λ t. is_of t a) (family b.classes class) (all-reverse (Above class) _ line) t h in
      let e = there.0 in
      let own = found_own e.number (λ t. is_of t a) (enumerate_from 0 e.triggers) t there.2 in
      let parts = and_parts (a.class == t.class) (a.trigger == t.place) own.1 in
      (e, there.1, eqb-true a.class t.class parts.0 ∙ own.0)

  stays : (e : Class) → IsPlaced whole e → (a : Activation) → a.class ≡ e.number → length e.fields ≤ length changed.fields
      → IfSome (watch_by b.classes a) (Stays (changed_place b c) (length (new_fields b c classes)) a)
  stays e is a same few =
      let at = changed_place b c in
      let more = length (new_fields b c classes) in
      let there : worlds.class_numbered a.class b.classes ≡ Some e = ap (λ n. worlds.class_numbered n b.classes) same ∙ sym (numbered_same b.classes e.number) ∙ is.numbered in
      let own = all-find OwnMasks (λ (d : Class). bytes_eq d.name e.name) whole (own_masks [] whole checked) e is.named in
      let low = own at more (subst (λ n. length e.fields ≤ n) (sym place_is) few) in
      subst (λ o. IfSome (watch_in at more a o) (Stays at more a)) (sym there) (stays_at at more a e.triggers low a.trigger)

  one_watched : (class : ℕ) (a : Activation) → IsActivation b class a → IsWatched (changed_place b c) (length (new_fields b c classes)) b.classes classes (is_a b.classes class c.class) a
  one_watched class a is = by_trigger (trigger_in b.classes class a) is.trigger (activation_above class a) where
    by_trigger : (o : Option Trigger) → HaveTrigger b a.args o → ((t : Trigger) → o ≡ Some t → (e : Class) × Above class e × (a.class ≡ e.number))
        → IsWatched (changed_place b c) (length (new_fields b c classes)) b.classes classes (is_a b.classes class c.class) a
    by_trigger None have above = absurd have
    by_trigger (Some t) have above =
        let at = above t refl in
        let number = at.2 in
        let both : is_a b.classes a.class c.class ≡ gets whole kept c.class changed found placed at.0.number = sym (same_test a.class) ∙ ap (gets whole kept c.class changed found placed) number in
        watched (changed_place b c) (new_fields b c classes) (λ n. is_a b.classes n c.class) b.classes classes behind class a
        (λ up. sym (same_test class) ∙ at.1.up (sym both ∙ up))
        (λ got not. stays at.0 at.1.there a number (at.1.low (same_test class ∙ got) (sym both ∙ not)))

  -- as many fields as literals
  fields_counted : (class from : ℕ) (fs : List (List ℕ × Sort × Value)) → length (map field_of (map (added_as class) (enumerate_from from fs))) ≡ length (map (λ (f : List ℕ × Sort × Value). f.2) fs)
  fields_counted class from [] = refl
  fields_counted class from (f ∷ fs) = ap suc (fields_counted class (from + 1) fs)

  activations_watched : (class : ℕ) (activations : List Activation) → AllByRecursion (IsActivation b class) activations
      → AllByRecursion (IsWatched (changed_place b c) (length (literals_of c)) b.classes classes (is_a b.classes class c.class)) activations
  activations_watched class [] all = tt
  activations_watched class (a ∷ activations) all = (
    subst (λ n. IsWatched (changed_place b c) n b.classes classes (is_a b.classes class c.class) a) (fields_counted (changed_number b c) (length b.added + 1) c.fields) (one_watched class a all.0),
    activations_watched class activations all.1,
  )

  pub objects_watched : (os : List Object) → AllByRecursion (IsObject b) os → AllByRecursion (AreWatched b c classes) os
  objects_watched [] all = tt
  objects_watched (o ∷ os) all = (activations_watched o.class o.activations all.0.activations, objects_watched os all.1)
