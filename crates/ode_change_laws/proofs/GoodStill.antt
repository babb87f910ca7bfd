-- A good world in which a class gets fields is good again, where its classes are, and it isn't too heavy.
use Rattle.std.proofs.Common.{◌≡◌, ◌<◌, ◌≤◌, ℕ, zero, suc, ◌+◌, Bool, true, false, cond, List, [], ◌∷◌, ◌++◌, length, map, Option, Some, None, refl, ap, sym, ◌∙◌, subst, arith, length-append}
use Rattle.std.specs.Prelude.{◌^◌, ◌==◌, IsTrue, nat_eq}
use Rattle.std.specs.List.{AllByRecursion, AllZip, IsDistinct, enumerate_from, flat_map, sum_by}
use Rattle.std.specs.Option.{IfSome, IsSome, option_and_then, option_map}
use Rattle.ode_value.specs.declared.change.Added.{Added}
use Rattle.ode_value.specs.declared.change.Change.{Change}
use Rattle.ode_value.specs.declared.class.Class.{Class}
use Rattle.ode_value.specs.declared.class.Field.{Field}
use Rattle.ode_value.specs.declared.binding.Param.{Param}
use Rattle.ode_value.specs.declared.statement.Sort.{Sort}
use Rattle.ode_value.specs.declared.statement.Sort.TheVariants as sort
use Rattle.ode_value.specs.declared.value.Ref.{Ref}
use Rattle.ode_value.specs.declared.value.Value.{Value}
use Rattle.ode_value.specs.declared.value.Value.TheVariants as value
use Rattle.ode_value.specs.Changing.{added_as, added_by, changed_bones, changed_number, changed_object, changed_place, changed_world, gets, literals_of, version_with}
use Rattle.ode_value.specs.Classes.{Trigger, is_a, trigger_at}
use Rattle.ode_value.specs.Denoting.{if_live, object_at, object_numbered, object_of}
use Rattle.ode_value.specs.Fields.{HasLiterals, field_of, put_in}
use Rattle.ode_value.specs.Fitting.{FitFields, FitsObject, FitsRef, FitsSort, HaveTrigger, IsLiteralOf, trigger_in}
use Rattle.ode_value.specs.GoodWorlds.{AreAdded, AreBones, AreClasses, IsActivation, IsEntry, IsGood, IsObject, IsVersion, RiseFrom, activation_of, drawn_numbers}
use Rattle.ode_value.specs.Language.{Language, ListWorld}
use Rattle.ode_value.specs.Limits.{weight_limit}
use Rattle.ode_value.specs.Objects.{Activation}
use Rattle.ode_value.specs.Pasts.{lists}
use Rattle.ode_value.specs.Versions.{Version}
use Rattle.ode_value.specs.Weights.{added_weight, weight}
use Rattle.ode_value.specs.Worlds.{Bones, Declared, Entry, Object, class_numbered}
use Rattle.std.proofs.lemmas.Bool.Decides.{Decides-eqb}
use Rattle.std.proofs.lemmas.List.Sums.{sum_by-cons}
use Rattle.ode_change_laws.specs.Moves.{AreAnew, AreBehind, fields_where, new_fields}
use Rattle.ode_change_laws.specs.Plain.{plain, plain_trigger}
use Rattle.ode_change_laws.proofs.BornStill.{literals-still, news}
use Rattle.ode_change_laws.proofs.MovedPasts.{within-anew}
use Rattle.ode_change_laws.proofs.PlainClasses.{all-plain-anew, is_a-same, numbered-same, trigger_at-same, trigger_in-same, trigger_in-some}

-- the class of a number, with its new fields
pub class-anew : (at : ℕ) (new : List Field) (test : ℕ → Bool) (n : ℕ) (cs ds : List Declared) → AreAnew at new test cs ds → (k : Class) → class_numbered n cs ≡ Some k
    → (j : Class) × (class_numbered n ds ≡ Some j) × (j.fields ≡ fields_where at new (test n) k.fields)
class-anew at new test n [] ds all k is = absurd (cc (is))
class-anew at new test n (c ∷ cs) [] all k is = absurd all
class-anew at new test n (c ∷ cs) (d ∷ ds) all k is = by (c.class.number == n) refl is (class-anew at new test n cs ds all.1 k)
  where
    by : (t : Bool) → (c.class.number == n) ≡ t → cond t (Some c.class) (class_numbered n cs) ≡ Some k
        → (class_numbered n cs ≡ Some k → (j : Class) × (class_numbered n ds ≡ Some j) × (j.fields ≡ fields_where at new (test n) k.fields))
        → (j : Class) × (cond (d.class.number == n) (Some d.class) (class_numbered n ds) ≡ Some j) × (j.fields ≡ fields_where at new (test n) k.fields)
    by true here found rest =
        let one : c.class ≡ k = cc (found) in (
          d.class,
          ap (λ t. cond t (Some d.class) (class_numbered n ds)) (ap (λ m. m == n) all.0.number ∙ here),
          all.0.fields ∙ ap (λ m. fields_where at new (test m) c.class.fields) ((Decides-eqb c.class.number n).0 here) ∙ ap (λ (x : Class). fields_where at new (test n) x.fields) one,
        )
    by false here found rest =
        let it = rest found in
        (it.0, ap (λ t. cond t (Some d.class) (class_numbered n ds)) (ap (λ m. m == n) all.0.number ∙ here) ∙ it.1, it.2)

module _ (b : Bones) (c : Change) (classes : List Declared) (same : map plain classes ≡ map plain b.classes) where
  abbrev then : Bones
  then = changed_bones b c classes

  abbrev changed : Object → Object
  changed = changed_object b c

  -- ---- what a reference denotes

  numbered : (id : ℕ) (os : List Object) → object_numbered id (map changed os) ≡ option_map changed (object_numbered id os)
  numbered id [] = refl
  numbered id (o ∷ os) = by (o.id == id) (numbered id os)
    where
      by : (t : Bool) → object_numbered id (map changed os) ≡ option_map changed (object_numbered id os)
          → cond t (Some (changed o)) (object_numbered id (map changed os)) ≡ option_map changed (cond t (Some o) (object_numbered id os))
      by true rest = refl
      by false rest = rest

  live : (x : Option Object) → option_and_then if_live (option_map changed x) ≡ option_map changed (option_and_then if_live x)
  live None = refl
  live (Some o) = by o.live
    where
      by : (t : Bool) → cond t (Some (changed o)) None ≡ option_map changed (cond t (Some o) None)
      by true = refl
      by false = refl

  at-still : (id : ℕ) → object_at then id ≡ option_map changed (object_at b id)
  at-still id = ap (option_and_then if_live) (numbered id b.objects) ∙ live (object_numbered id b.objects)

  of-still : (r : Ref) → object_of then r ≡ option_map changed (object_of b r)
  of-still r = ap (λ x. cond (r.object == 0) None x) (at-still r.object) ∙ by (r.object == 0)
    where
      by : (t : Bool) → cond t None (option_map changed (object_at b r.object)) ≡ option_map changed (cond t None (object_at b r.object))
      by true = refl
      by false = refl

  -- ---- values that fit

  object-fits : (class : List ℕ) (r : Ref) (x : Option Object) → IfSome x (FitsObject b class r) → IfSome (option_map changed x) (FitsObject then class r)
  object-fits class r None fits = tt
  object-fits class r (Some o) fits = record { fits = subst IsTrue (sym (is_a-same b.classes classes same o.class class)) fits.fits; version = fits.version }

  ref-fits : (class : List ℕ) (r : Ref) → FitsRef b class r → FitsRef then class r
  ref-fits class r fits = record {
    is = fits.is;
    drawn = fits.drawn;
    object = subst (λ x. IfSome x (FitsObject then class r)) (sym (of-still r)) (object-fits class r (object_of b r) fits.object);
  }

  sort-fits : (s : Sort) (v : Value) → FitsSort b s v → FitsSort then s v
  sort-fits sort.Int (value.Int n) fits = fits
  sort-fits sort.Int (value.Bool t) fits = absurd fits
  sort-fits sort.Int (value.Text t) fits = absurd fits
  sort-fits sort.Int (value.Reference r) fits = absurd fits
  sort-fits sort.Bool (value.Int n) fits = absurd fits
  sort-fits sort.Bool (value.Bool t) fits = fits
  sort-fits sort.Bool (value.Text t) fits = absurd fits
  sort-fits sort.Bool (value.Reference r) fits = absurd fits
  sort-fits sort.Text (value.Int n) fits = absurd fits
  sort-fits sort.Text (value.Bool t) fits = absurd fits
  sort-fits sort.Text (value.Text t) fits = fits
  sort-fits sort.Text (value.Reference r) fits = absurd fits
  sort-fits (sort.Reference class) (value.Int n) fits = absurd fits
  sort-fits (sort.Reference class) (value.Bool t) fits = absurd fits
  sort-fits (sort.Reference class) (value.Text t) fits = absurd fits
  sort-fits (sort.Reference class) (value.Reference r) fits = ref-fits class r fits
  sort-fits sort.Void (value.Int n) fits = absurd fits
  sort-fits sort.Void (value.Bool t) fits = absurd fits
  sort-fits sort.Void (value.Text t) fits = absurd fits
  sort-fits sort.Void (value.Reference r) fits = absurd fits

  fields-fit : (fs : List Field) (vs : List Value) → FitFields b fs vs → FitFields then fs vs
  fields-fit [] [] fit = tt
  fields-fit [] (v ∷ vs) fit = absurd fit
  fields-fit (f ∷ fs) [] fit = absurd fit
  fields-fit (f ∷ fs) (v ∷ vs) fit = (sort-fits f.sort v fit.0, fields-fit fs vs fit.1)

  params-fit : (ps : List Param) (vs : List Value) → AllZip (λ (p : Param). FitsSort b p.sort) ps vs → AllZip (λ (p : Param). FitsSort then p.sort) ps vs
  params-fit [] [] fit = tt
  params-fit [] (v ∷ vs) fit = absurd fit
  params-fit (p ∷ ps) [] fit = absurd fit
  params-fit (p ∷ ps) (v ∷ vs) fit = (sort-fits p.sort v fit.0, params-fit ps vs fit.1)

  both-fit : (new fs : List Field) (literals vs : List Value) → FitFields then new literals → FitFields then fs vs → FitFields then (new ++ fs) (literals ++ vs)
  both-fit [] fs [] vs first fit = fit
  both-fit [] fs (l ∷ ls) vs first fit = absurd first
  both-fit (n ∷ ns) fs [] vs first fit = absurd first
  both-fit (n ∷ ns) fs (l ∷ ls) vs first fit = (first.0, both-fit ns fs ls vs first.1 fit)

  put-fit : (at : ℕ) (new fs : List Field) (literals vs : List Value) → FitFields then new literals → FitFields then fs vs → FitFields then (put_in at new fs) (put_in at literals vs)
  put-fit zero new fs literals vs first fit = both-fit new fs literals vs first fit
  put-fit (suc at) new [] literals [] first fit = tt
  put-fit (suc at) new [] literals (v ∷ vs) first fit = absurd fit
  put-fit (suc at) new (f ∷ fs) literals [] first fit = absurd fit
  put-fit (suc at) new (f ∷ fs) literals (v ∷ vs) first fit = (fit.0, put-fit at new fs literals vs first fit.1)

  -- a trigger that arguments fit, by its parameters alone
  trigger-fits : (args : List Value) (x y : Option Trigger) → option_map plain_trigger y ≡ option_map plain_trigger x → HaveTrigger b args x → HaveTrigger then args y
  trigger-fits args None y is fits = absurd fits
  trigger-fits args (Some t) None is fits = absurd (cc (is))
  trigger-fits args (Some t) (Some u) is fits =
      let one : plain_trigger u ≡ plain_trigger t = cc (is) in
      record {
        sorts = subst (λ ps. AllZip (λ (p : Param). FitsSort then p.sort) ps args) (sym (ap (λ (x : Trigger). x.decl.params) one)) (params-fit t.decl.params args fits.sorts);
        short = fits.short;
      }

  -- literals fit their sorts
  literal-fits : 1 ≤ b.next → (s : Sort) (v : Value) → IsLiteralOf s v → FitsSort then s v
  literal-fits some sort.Int (value.Int n) is = is
  literal-fits some sort.Int (value.Bool t) is = absurd is
  literal-fits some sort.Int (value.Text t) is = absurd is
  literal-fits some sort.Int (value.Reference r) is = absurd is
  literal-fits some sort.Bool (value.Int n) is = absurd is
  literal-fits some sort.Bool (value.Bool t) is = tt
  literal-fits some sort.Bool (value.Text t) is = absurd is
  literal-fits some sort.Bool (value.Reference r) is = absurd is
  literal-fits some sort.Text (value.Int n) is = absurd is
  literal-fits some sort.Text (value.Bool t) is = absurd is
  literal-fits some sort.Text (value.Text t) is = is
  literal-fits some sort.Text (value.Reference r) is = absurd is
  literal-fits some (sort.Reference class) (value.Int n) is = absurd is
  literal-fits some (sort.Reference class) (value.Bool t) is = absurd is
  literal-fits some (sort.Reference class) (value.Text t) is = absurd is
  literal-fits some (sort.Reference class) (value.Reference r) is = subst (FitsSort then (sort.Reference class)) (sym is) (record { is = record { object = omega arith; version = tt }; drawn = some; object = tt })
  literal-fits some sort.Void (value.Int n) is = absurd is
  literal-fits some sort.Void (value.Bool t) is = absurd is
  literal-fits some sort.Void (value.Text t) is = absurd is
  literal-fits some sort.Void (value.Reference r) is = absurd is

  abbrev HasLiteral : Added → Type 0
  HasLiteral a = IsLiteralOf a.sort a.value

  new-fit : 1 ≤ b.next → (class next : ℕ) (fs : List (List ℕ × Sort × Value)) → AllByRecursion HasLiteral (map (added_as class) (enumerate_from next fs))
      → FitFields then (map field_of (map (added_as class) (enumerate_from next fs))) (map (λ (f : List ℕ × Sort × Value). f.2) fs)
  new-fit some class next [] all = tt
  new-fit some class next (f ∷ fs) all = (literal-fits some f.1 f.2 all.0, new-fit some class (next + 1) fs all.1)

  have-literals : (birth : ℕ) (xs ys : List Added) → AreAdded classes birth (xs ++ ys) → AllByRecursion HasLiteral ys
  have-literals birth [] [] all = tt
  have-literals birth [] (y ∷ ys) all = (all.1.literal, have-literals (birth + 1) [] ys all.2)
  have-literals birth (x ∷ xs) ys all = have-literals (birth + 1) xs ys all.2

  literals-fit : 1 ≤ b.next → AreAdded classes 1 then.added → FitFields then (new_fields b c classes) (literals_of c)
  literals-fit some added = new-fit some (changed_number b c) (length b.added + 1) c.fields (have-literals 1 b.added (added_by (changed_number b c) (length b.added) c) added)

  -- ---- versions

  module _ (fit : FitFields then (new_fields b c classes) (literals_of c)) where
    abbrev at : ℕ
    at = changed_place b c

    version-anew : (k j : Class) (last : ℕ) (v : Version) → j.fields ≡ fields_where at (new_fields b c classes) true k.fields → IsVersion b k last v → IsVersion then j last (version_with at (literals_of c) v)
    version-anew k j last v fields is = record {
      number = is.number;
      parent = is.parent;
      stamp = omega (arith, is.stamp, length-append b.added (added_by (changed_number b c) (length b.added) c));
      fields = subst (λ fs. FitFields then fs (put_in at (literals_of c) v.fields)) (sym fields)
          (put-fit at (new_fields b c classes) k.fields (literals_of c) v.fields fit (fields-fit k.fields v.fields is.fields));
      later = subst (λ fs. HasLiterals v.stamp fs (put_in at (literals_of c) v.fields)) (sym fields)
          (literals-still v.stamp at (new_fields b c classes) (literals_of c) (news (changed_number b c) v.stamp (length b.added) c is.stamp) k.fields v.fields is.later);
    }

    version-same : (k j : Class) (last : ℕ) (v : Version) → j.fields ≡ k.fields → IsVersion b k last v → IsVersion then j last v
    version-same k j last v fields is = record {
      number = is.number;
      parent = is.parent;
      stamp = omega (arith, is.stamp, length-append b.added (added_by (changed_number b c) (length b.added) c));
      fields = subst (λ fs. FitFields then fs v.fields) (sym fields) (fields-fit k.fields v.fields is.fields);
      later = subst (λ fs. HasLiterals v.stamp fs v.fields) (sym fields) is.later;
    }

    versions-anew : (k j : Class) (last : ℕ) (vs : List Version) → j.fields ≡ fields_where at (new_fields b c classes) true k.fields → AllByRecursion (IsVersion b k last) vs
        → AllByRecursion (IsVersion then j last) (map (version_with at (literals_of c)) vs)
    versions-anew k j last [] fields all = tt
    versions-anew k j last (v ∷ vs) fields all = (version-anew k j last v fields all.0, versions-anew k j last vs fields all.1)

    versions-same : (k j : Class) (last : ℕ) (vs : List Version) → j.fields ≡ k.fields → AllByRecursion (IsVersion b k last) vs → AllByRecursion (IsVersion then j last) vs
    versions-same k j last [] fields all = tt
    versions-same k j last (v ∷ vs) fields all = (version-same k j last v fields all.0, versions-same k j last vs fields all.1)

    versions-where : (k j : Class) (last : ℕ) (vs : List Version) (t : Bool) → j.fields ≡ fields_where at (new_fields b c classes) t k.fields → AllByRecursion (IsVersion b k last) vs
        → AllByRecursion (IsVersion then j last) (cond t (map (version_with at (literals_of c)) vs) vs)
    versions-where k j last vs true fields all = versions-anew k j last vs fields all
    versions-where k j last vs false fields all = versions-same k j last vs fields all

    numbers-where : (t : Bool) (vs : List Version) → map (λ (v : Version). v.number) (cond t (map (version_with at (literals_of c)) vs) vs) ≡ map (λ (v : Version). v.number) vs
    numbers-where true [] = refl
    numbers-where true (v ∷ vs) = ap (λ rest. v.number ∷ rest) (numbers-where true vs)
    numbers-where false vs = refl

    length-where : (t : Bool) (vs : List Version) → length (cond t (map (version_with at (literals_of c)) vs) vs) ≡ length vs
    length-where true [] = refl
    length-where true (v ∷ vs) = ap suc (length-where true vs)
    length-where false vs = refl

    -- ---- objects

    module _ (behind : AreBehind b c classes) where
      activations-anew : (class : ℕ) (acts : List Activation) → AllByRecursion (IsActivation b class) acts → AllByRecursion (IsActivation then class) acts
      activations-anew class [] all = tt
      activations-anew class (a ∷ acts) all = (
        record { trigger = trigger-fits a.args (trigger_in b.classes class a) (trigger_in classes class a) (trigger_in-same b.classes classes same class a) all.0.trigger; number = all.0.number; on = all.0.on },
        activations-anew class acts all.1,
      )

      versions-of : (o : Object) (x : Option Class) → class_numbered o.class b.classes ≡ x → IfSome x (λ k. AllByRecursion (IsVersion b k o.last) o.versions) → IsSome x
          → IfSome (class_numbered o.class classes) (λ k. AllByRecursion (IsVersion then k o.last) (changed o).versions)
      versions-of o None found all some = absurd (cc (some))
      versions-of o (Some k) found all some =
          let there = class-anew at (new_fields b c classes) (λ number. is_a b.classes number c.class) o.class b.classes classes behind k found in
          subst (λ x. IfSome x (λ j. AllByRecursion (IsVersion then j o.last) (changed o).versions)) (sym there.1)
          (versions-where k there.0 o.last o.versions (gets b c o) there.2 all)

      object-anew : (o : Object) → IsObject b o → IsObject then (changed o)
      object-anew o is = record {
        number = is.number;
        class = numbered-same b.classes classes same o.class is.class;
        live = is.live;
        last = is.last;
        some = subst (λ n. 0 < n) (sym (length-where (gets b c o) o.versions)) is.some;
        rising = subst (RiseFrom 0) (sym (numbers-where (gets b c o) o.versions)) is.rising;
        versions = versions-of o (class_numbered o.class b.classes) refl is.versions is.class;
        rising_activations = is.rising_activations;
        activations = activations-anew o.class o.activations is.activations;
      }

      objects-anew : (os : List Object) → AllByRecursion (IsObject b) os → AllByRecursion (IsObject then) (map changed os)
      objects-anew [] all = tt
      objects-anew (o ∷ os) all = (object-anew o all.0, objects-anew os all.1)

      ids-still : (os : List Object) → map (λ (o : Object). o.id) (map changed os) ≡ map (λ (o : Object). o.id) os
      ids-still [] = refl
      ids-still (o ∷ os) = ap (λ rest. o.id ∷ rest) (ids-still os)

      drawn-still : (os : List Object) → flat_map drawn_numbers (map changed os) ≡ flat_map drawn_numbers os
      drawn-still [] = refl
      drawn-still (o ∷ os) = ap (λ rest. drawn_numbers o ++ rest) (drawn-still os)

      -- ---- the queue

      entry-object : (q : ℕ × Entry) (x : Option Object) → IfSome x (λ o. IsSome (trigger_in b.classes o.class (activation_of q.1)))
          → IfSome (option_map changed x) (λ o. IsSome (trigger_in classes o.class (activation_of q.1)))
      entry-object q None has = tt
      entry-object q (Some o) has = trigger_in-some b.classes classes same o.class (activation_of q.1) has

      entry-anew : (q : ℕ × Entry) → IsEntry b q → IsEntry then q
      entry-anew q is = record {
        number = is.number;
        generation = is.generation;
        trigger = trigger-fits q.1.args (trigger_at b.classes q.1.class q.1.trigger) (trigger_at classes q.1.class q.1.trigger) (trigger_at-same b.classes classes same q.1.class q.1.trigger) is.trigger;
        object = is.object;
        fits = subst (λ x. IfSome x (λ o. IsSome (trigger_in classes o.class (activation_of q.1)))) (sym (at-still q.1.object)) (entry-object q (object_at b q.1.object) is.fits);
      }

      queue-anew : (qs : List (ℕ × Entry)) → AllByRecursion (IsEntry b) qs → AllByRecursion (IsEntry then) qs
      queue-anew [] all = tt
      queue-anew (q ∷ qs) all = (entry-anew q all.0, queue-anew qs all.1)

      -- ---- the whole

      bones-anew : (l : Language) → AreBones l b → AreClasses l then.added [] classes → AreAdded classes 1 then.added → length then.added < 2 ^ 32 → weight then ≤ weight_limit → AreBones l then
      bones-anew l is good added few light = record {
        classes = good;
        added = added;
        few_added = few;
        rising = subst (RiseFrom 0) (sym (ids-still b.objects)) is.rising;
        objects = objects-anew b.objects is.objects;
        numbers = subst (IsDistinct nat_eq) (sym (drawn-still b.objects)) is.numbers;
        next = is.next;
        transaction = is.transaction;
        next_entry = is.next_entry;
        few = is.few;
        rising_queue = is.rising_queue;
        queue = queue-anew b.queue is.queue;
        clock = is.clock;
        light = light;
      }

-- no world that isn't too heavy has many added fields
as-many : (added : List Added) → length added ≤ sum_by added_weight added
as-many [] = omega arith
as-many (a ∷ added) = omega (arith, sum_by-cons added_weight a added, as-many added)

few-added : (b : Bones) → weight b ≤ weight_limit → length b.added < 2 ^ 32
unfolding weight
few-added b light = omega (arith, light, as-many b.added)

pub good-anew : (l : Language) (w : ListWorld) (c : Change) (classes : List Declared) → IsGood l w → AreBehind w.bones c classes
    → AreClasses l (changed_bones w.bones c classes).added [] classes → AreAdded classes 1 (changed_bones w.bones c classes).added
    → weight (changed_bones w.bones c classes) ≤ weight_limit → IsGood l (changed_world lists classes c w)
good-anew l w c classes good behind known added light =
    let b = w.bones in
    let same = all-plain-anew (changed_place b c) (new_fields b c classes) (λ number. is_a b.classes number c.class) b.classes classes behind in
    record {
      bones = bones-anew b c classes same (literals-fit b c classes same good.bones.next.some added) behind l good.bones known added (few-added (changed_bones b c classes) light) light;
      pasts = within-anew (λ class place. record { states = 0; symbols = 0; next = []; yes = [] }) b c classes b.objects w.pasts good.pasts;
    }
