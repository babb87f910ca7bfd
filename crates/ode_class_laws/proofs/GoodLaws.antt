-- A good world stays good with one more accepted class.
use Rattle.std.proofs.Common.{◌≡◌, ◌<◌, ◌≤◌, ℕ, ◌+◌, Bool, true, false, cond, List, [], ◌∷◌, ◌++◌, length, reverse, ◌==◌, Option, Some, None, refl, sym, ap, ◌∙◌, subst, arith, append_assoc, append-nil, length-append}
use Rattle.std.specs.Prelude.{slice_get}
use Rattle.std.specs.List.{AllByRecursion, find, flat_map, list_any}
use Rattle.std.specs.Option.{IfSome, IsSome, option_and_then, option_map, unwrap_or}
use Rattle.std.specs.Str.{bytes_eq}
use Rattle.std.proofs.lemmas.Bool.{eqb-true}
use Rattle.std.proofs.lemmas.List.{reverse-append}
use Rattle.std.proofs.lemmas.Option.{IfSome_then}
use Rattle.ode_laws.proofs.AlikePairs.{all_found, zip_then}
use Rattle.ode_laws.proofs.Each.{all-then}
use Rattle.ode_laws.proofs.Rows.{at_numbered}
use Rattle.ode_value.specs.declared.binding.Param.{Param}
use Rattle.ode_value.specs.declared.change.Added.{Added}
use Rattle.ode_value.specs.declared.class.Class.{Class}
use Rattle.ode_value.specs.declared.class.Field.{Field}
use Rattle.ode_value.specs.declared.member.TriggerDecl.{TriggerDecl}
use Rattle.ode_value.specs.declared.statement.Sort.{Sort}
use Rattle.ode_value.specs.declared.statement.Sort.TheVariants as sort
use Rattle.ode_value.specs.declared.value.Ref.{Ref}
use Rattle.ode_value.specs.declared.value.Value.{Value}
use Rattle.ode_value.specs.declared.value.Value.TheVariants as value
use Rattle.ode_value.specs.Classes.{Trigger, is_a, line_of, own_triggers, trigger_at, trigger_of, upward}
use Rattle.ode_value.specs.Denoting.{object_at, object_of}
use Rattle.ode_value.specs.Firings.{is_of}
use Rattle.ode_value.specs.Fitting.{FitsObject, FitsRef, FitsSort, HaveTrigger, trigger_in}
use Rattle.ode_value.specs.GoodWorlds.{AreAdded, AreClasses, IsActivation, IsClass, IsEntry, IsGood, IsKnownSort, IsObject, IsVersion, activation_of}
use Rattle.ode_value.specs.Language.{Language, ListWorld}
use Rattle.ode_value.specs.Limits.{weight_limit}
use Rattle.ode_value.specs.Objects.{Activation}
use Rattle.ode_value.specs.Versions.{Version}
use Rattle.ode_value.specs.Weights.{weight}
use Rattle.ode_value.specs.Worlds.{Bones, Declared, Entry, Object, class_named, class_numbered}
use Rattle.ode_class_laws.specs.Declaring.{AreBefore, bones_with, world_with}

-- ---- numbers of classes

before_from : (l : Language) (added : List Added) (top : ℕ) (cs earlier : List Declared) → AreClasses l added earlier cs → length earlier + length cs < top → AreBefore top cs
before_from l added top [] earlier all less = tt
before_from l added top (c ∷ cs) earlier all less =
    (omega (arith, all.0.number, less), before_from l added top cs (earlier ++ c ∷ []) all.1 (omega (arith, length-append earlier (c ∷ []), less)))

pub classes_before : (l : Language) (added : List Added) (cs : List Declared) (c : Declared) → AreClasses l added [] cs → IsClass l added cs c → AreBefore c.class.number cs
classes_before l added cs c all is = before_from l added c.class.number cs [] all (omega (arith, is.number))

classes_more : (l : Language) (added : List Added) (earlier cs : List Declared) (c : Declared) → AreClasses l added earlier cs → IsClass l added (earlier ++ cs) c
    → AreClasses l added earlier (cs ++ c ∷ [])
classes_more l added earlier [] c all is = (subst (λ es. IsClass l added es c) (append-nil earlier) is, tt)
classes_more l added earlier (d ∷ cs) c all is =
    (all.0, classes_more l added (earlier ++ d ∷ []) cs c all.1 (subst (λ es. IsClass l added es c) (sym (append_assoc earlier (d ∷ []) cs)) is))

pub found_more : (n : ℕ) (cs more : List Declared) (k : Class) → class_numbered n cs ≡ Some k → class_numbered n (cs ++ more) ≡ Some k
found_more n [] more k is = absurd (cc)
found_more n (c ∷ cs) more k is = by_test (c.class.number == n) is (found_more n cs more k) where
  by_test : (b : Bool) → cond b (Some c.class) (class_numbered n cs) ≡ Some k → (class_numbered n cs ≡ Some k → class_numbered n (cs ++ more) ≡ Some k) → cond b (Some c.class) (class_numbered n (cs ++ more)) ≡ Some k
  by_test true e rest = e
  by_test false e rest = rest e

pub low_number : (top n : ℕ) (cs : List Declared) (k : Class) → AreBefore top cs → class_numbered n cs ≡ Some k → n < top
low_number top n [] k before is = absurd (cc)
low_number top n (c ∷ cs) k before is = by_test (c.class.number == n) (eqb-true c.class.number n) is (low_number top n cs k before.1) where
  by_test : (b : Bool) → (b ≡ true → c.class.number ≡ n) → cond b (Some c.class) (class_numbered n cs) ≡ Some k → (class_numbered n cs ≡ Some k → n < top) → n < top
  by_test true same e later = omega (arith, same refl, before.0)
  by_test false same e later = later e

-- ---- added fields

pub named_more : (name : List ℕ) (cs more : List Declared) (k : Class) → class_named name cs ≡ Some k → class_named name (cs ++ more) ≡ Some k
named_more name [] more k is = absurd (cc)
named_more name (c ∷ cs) more k is = by_test (bytes_eq c.class.name name) is (named_more name cs more k) where
  by_test : (b : Bool) → cond b (Some c.class) (class_named name cs) ≡ Some k → (class_named name cs ≡ Some k → class_named name (cs ++ more) ≡ Some k) → cond b (Some c.class) (class_named name (cs ++ more)) ≡ Some k
  by_test true e rest = e
  by_test false e rest = rest e

-- what is there is some
pub some_of : (m : Option Class) → IsSome m → (k : Class) × (m ≡ Some k)
some_of (Some k) some = (k, refl)
some_of None some = absurd (cc)

sort_known : (cs : List Declared) (c : Declared) (s : Sort) → IsKnownSort cs s → IsKnownSort (cs ++ c ∷ []) s
sort_known cs c (sort.Reference name) known =
    let it = some_of (class_named name cs) known in subst IsSome (sym (named_more name cs (c ∷ []) it.0 it.1)) refl
sort_known cs c sort.Int known = tt
sort_known cs c sort.Bool known = tt
sort_known cs c sort.Text known = tt
sort_known cs c sort.Void known = tt

-- they stay those of known classes
pub added_more : (cs : List Declared) (c : Declared) (birth : ℕ) (added : List Added) → AreAdded cs birth added → AreAdded (cs ++ c ∷ []) birth added
added_more cs c birth [] all = tt
added_more cs c birth (a ∷ added) all =
    let it = some_of (class_numbered a.class cs) all.1.class in
    let class : IsSome (class_numbered a.class (cs ++ c ∷ [])) = subst IsSome (sym (found_more a.class cs (c ∷ []) it.0 it.1)) refl in
    (all.0, record { class = class; name = all.1.name; sort = sort_known cs c a.sort all.1.sort; literal = all.1.literal }, added_more cs c (birth + 1) added all.2)

-- ---- what fits still does

module _ (b : Bones) (objects : AllByRecursion (IsObject b) b.objects) (c : Declared) (before : AreBefore c.class.number b.classes) where
  abbrev more : List Declared
  more = b.classes ++ c ∷ []

  abbrev d : Bones
  d = bones_with c b

  other : (n : ℕ) (k : Class) → class_numbered n b.classes ≡ Some k → (c.class.number == n) ≡ false
  other n k known = by_test (c.class.number == n) (eqb-true c.class.number n) where
    by_test : (t : Bool) → (t ≡ true → c.class.number ≡ n) → t ≡ false
    by_test false same = refl
    by_test true same = absurd (omega (arith, same refl, low_number c.class.number n b.classes k before known))

  line_more : (n : ℕ) (k : Class) → class_numbered n b.classes ≡ Some k → line_of more n ≡ line_of b.classes n
  line_more n k known =
      ap (upward n) (reverse-append b.classes (c ∷ [])) ∙ ap (λ t. cond t (c.class ∷ upward (unwrap_or c.class.parent 0) (reverse b.classes)) (upward n (reverse b.classes))) (other n k known)

  is_more : (n : ℕ) (k : Class) → class_numbered n b.classes ≡ Some k → (name : List ℕ) → is_a more n name ≡ is_a b.classes n name
  is_more n k known name = ap (list_any (λ (e : Class). bytes_eq e.name name)) (line_more n k known)

  in_more : (n : ℕ) (k : Class) → class_numbered n b.classes ≡ Some k → (a : Activation) → trigger_in more n a ≡ trigger_in b.classes n a
  in_more n k known a = ap (λ line. find (λ t. is_of t a) (flat_map own_triggers (reverse line))) (line_more n k known)

  abbrev placed : ℕ → ℕ → Option Class → Option Trigger
  placed class place m = option_map (λ (u : TriggerDecl). trigger_of class (place, u)) (option_and_then (λ (k : Class). slice_get k.triggers place) m)

  at_more : (class place : ℕ) (t : Trigger) → trigger_at b.classes class place ≡ Some t → trigger_at more class place ≡ Some t
  at_more class place t e = by_class (class_numbered class b.classes) refl e where
    by_class : (m : Option Class) → class_numbered class b.classes ≡ m → placed class place m ≡ Some t → trigger_at more class place ≡ Some t
    by_class None is h = absurd (cc)
    by_class (Some k) is h = ap (placed class place) (found_more class b.classes (c ∷ []) k is) ∙ h

  -- an object has a class that is there
  class_known : (o : Object) → IsObject b o → (k : Class) × (class_numbered o.class b.classes ≡ Some k)
  class_known o is = by_class (class_numbered o.class b.classes) refl is.class where
    by_class : (m : Option Class) → class_numbered o.class b.classes ≡ m → IsSome m → (k : Class) × (class_numbered o.class b.classes ≡ Some k)
    by_class None e some = absurd (cc)
    by_class (Some k) e some = (k, e)

  object_known : (r : Ref) (o : Object) → object_of b r ≡ Some o → IsObject b o
  object_known r o e = by_null (r.object == 0) e where
    by_null : (t : Bool) → cond t None (object_at b r.object) ≡ Some o → IsObject b o
    by_null true h = absurd (cc)
    by_null false h = all_found (IsObject b) r.object b.objects objects o (at_numbered b r.object o h)

  ref_more : (class : List ℕ) (r : Ref) → FitsRef b class r → FitsRef d class r
  ref_more class r h = record { is = h.is; drawn = h.drawn; object = by_object (object_of b r) refl h.object } where
    by_object : (m : Option Object) → object_of b r ≡ m → IfSome m (FitsObject b class r) → IfSome m (FitsObject d class r)
    by_object None e fits = tt
    by_object (Some o) e fits =
        let k = class_known o (object_known r o e) in
        record { fits = is_more o.class k.0 k.1 class ∙ fits.fits; version = fits.version }

  sort_more : (s : Sort) (v : Value) → FitsSort b s v → FitsSort d s v
  sort_more sort.Int (value.Int n) h = h
  sort_more sort.Bool (value.Bool t) h = h
  sort_more sort.Text (value.Text t) h = h
  sort_more (sort.Reference class) (value.Reference r) h = ref_more class r h
  sort_more _ _ h = absurd h

  args_more : (args : List Value) (t : Option Trigger) → HaveTrigger b args t → HaveTrigger d args t
  args_more args None h = h
  args_more args (Some t) h = record {
    sorts = zip_then (λ (p : Param). FitsSort b p.sort) (λ (p : Param). FitsSort d p.sort) (λ p v fits. sort_more p.sort v fits) t.decl.params args h.sorts;
    short = h.short;
  }

  version_more : (class : Class) (last : ℕ) (v : Version) → IsVersion b class last v → IsVersion d class last v
  version_more class last v h = record {
    number = h.number;
    parent = h.parent;
    stamp = h.stamp;
    fields = zip_then (λ (g : Field). FitsSort b g.sort) (λ (g : Field). FitsSort d g.sort) (λ g v fits. sort_more g.sort v fits) class.fields v.fields h.fields;
    later = h.later;
  }

  pub object_more : (o : Object) → IsObject b o → IsObject d o
  object_more o h =
      let k = class_known o h in
      let same : class_numbered o.class b.classes ≡ class_numbered o.class more = k.1 ∙ sym (found_more o.class b.classes (c ∷ []) k.0 k.1) in
      record {
        number = h.number;
        class = subst IsSome same h.class;
        live = h.live;
        last = h.last;
        some = h.some;
        rising = h.rising;
        versions =
            subst (λ m. IfSome m (λ (e : Class). AllByRecursion (IsVersion d e o.last) o.versions)) same
            (IfSome_then (class_numbered o.class b.classes) h.versions (λ e all. all-then (IsVersion b e o.last) (IsVersion d e o.last) (version_more e o.last) o.versions all));
        rising_activations = h.rising_activations;
        activations =
            all-then (IsActivation b o.class) (IsActivation d o.class)
            (λ a is. record {
              trigger = subst (HaveTrigger d a.args) (sym (in_more o.class k.0 k.1 a)) (args_more a.args (trigger_in b.classes o.class a) is.trigger);
              number = is.number;
              on = is.on;
            }) o.activations h.activations;
      }

  pub entry_more : (q : ℕ × Entry) → IsEntry b q → IsEntry d q
  entry_more q h = record {
    number = h.number;
    generation = h.generation;
    trigger = by_trigger (trigger_at b.classes q.1.class q.1.trigger) refl h.trigger;
    object = h.object;
    fits = by_object (object_at b q.1.object) refl h.fits;
  }
    where
      by_trigger : (m : Option Trigger) → trigger_at b.classes q.1.class q.1.trigger ≡ m → HaveTrigger b q.1.args m → HaveTrigger d q.1.args (trigger_at more q.1.class q.1.trigger)
      by_trigger None e fits = absurd fits
      by_trigger (Some t) e fits = subst (HaveTrigger d q.1.args) (sym (at_more q.1.class q.1.trigger t e)) (args_more q.1.args (Some t) fits)

      by_object : (m : Option Object) → object_at b q.1.object ≡ m → IfSome m (λ (o : Object). IsSome (trigger_in b.classes o.class (activation_of q.1)))
          → IfSome m (λ (o : Object). IsSome (trigger_in more o.class (activation_of q.1)))
      by_object None e fits = tt
      by_object (Some o) e fits =
          let k = class_known o (all_found (IsObject b) q.1.object b.objects objects o (at_numbered b q.1.object o e)) in
          subst IsSome (sym (in_more o.class k.0 k.1 (activation_of q.1))) fits

-- ---- the whole

pub good_with : (l : Language) (w : ListWorld) (c : Declared) → IsGood l w → IsClass l w.bones.added w.bones.classes c → weight (bones_with c w.bones) ≤ weight_limit → IsGood l (world_with c w)
good_with l w c good is light =
    let b = w.bones in
    let before = classes_before l b.added b.classes c good.bones.classes is in
    record {
      bones = record {
        classes = classes_more l b.added [] b.classes c good.bones.classes is;
        added = added_more b.classes c 1 b.added good.bones.added;
        few_added = good.bones.few_added;
        rising = good.bones.rising;
        objects = all-then (IsObject b) (IsObject (bones_with c b)) (object_more b good.bones.objects c before) b.objects good.bones.objects;
        numbers = good.bones.numbers;
        next = good.bones.next;
        transaction = good.bones.transaction;
        next_entry = good.bones.next_entry;
        few = good.bones.few;
        rising_queue = good.bones.rising_queue;
        queue = all-then (IsEntry b) (IsEntry (bones_with c b)) (entry_more b good.bones.objects c before) b.queue good.bones.queue;
        clock = good.bones.clock;
        light = light;
      };
      pasts = good.pasts;
    }
