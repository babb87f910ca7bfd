-- With one more class a world fits as before.
use Rattle.std.proofs.Common.{◌≡◌, ℕ, length, Bool, true, false, cond, List, [], ◌∷◌, ◌++◌, reverse, ◌==◌, Option, Some, None, refl, sym, ap, ◌∙◌, subst}
use Rattle.std.specs.Prelude.{slice_get}
use Rattle.std.specs.List.{AllByRecursion, find, list_any, flat_map}
use Rattle.std.specs.Option.{IsSomeAnd, option_map, option_and_then, unwrap_or}
use Rattle.std.specs.Str.{bytes_eq}
use Rattle.std.proofs.lemmas.Bool.{eqb-true}
use Rattle.std.proofs.lemmas.List.{map-append, reverse-append}
use Rattle.ode_value.specs.declared.binding.Param.{Param}
use Rattle.ode_value.specs.declared.class.Class.{Class}
use Rattle.ode_value.specs.declared.class.Field.{Field}
use Rattle.ode_value.specs.declared.member.TriggerDecl.{TriggerDecl}
use Rattle.ode_value.specs.declared.statement.Sort.{Sort}
use Rattle.ode_value.specs.declared.statement.Sort.TheVariants as sort
use Rattle.ode_value.specs.declared.value.Ref.{Ref}
use Rattle.ode_value.specs.declared.value.Value.{Value}
use Rattle.ode_value.specs.declared.value.Value.TheVariants as value
use Rattle.ode_value.specs.Classes.{Trigger, upward, line_of, is_a, own_triggers, trigger_of, trigger_at}
use Rattle.ode_value.specs.Denoting.{object_of}
use Rattle.ode_value.specs.Fields.{AreBorn}
use Rattle.ode_value.specs.Firings.{is_of}
use Rattle.ode_value.specs.Fitting.{FitsObject, FitsRef, FitsSort, HaveTrigger, trigger_in}
use Rattle.ode_value.specs.GoodWorlds.{activation_of}
use Rattle.ode_value.specs.Objects.{Activation}
use Rattle.ode_value.specs.Versions.{Version}
use Rattle.ode_value.specs.Worlds.{Declared, Entry, Object, Bones, class_numbered}
use Rattle.ode_laws.proofs.AlikePairs.{zip_then, all_found}
use Rattle.ode_laws.proofs.Each.{all-append, all-then}
use Rattle.ode_run_laws.proofs.AlikeClasses.{more_found, more_classes}
use Rattle.ode_sound_laws.specs.Fits.{all_alive, FitsVersion, FitsWorld, FitsEntry, AreFit}
use Rattle.ode_sound_laws.specs.Sound.{checked_classes}
use Rattle.ode_sound_laws.specs.Typed.{IsTypedWorld}
use Rattle.ode_sound_laws.proofs.Basics.{if_some_at, if_some_from, map_some, then_some}
use Rattle.ode_sound_laws.proofs.FitLaws.{of_alive}
use Rattle.ode_sound_runs.specs.Adding.{AddsSoundly}

module _ (b : Bones) (fit : AreFit b) (c : Declared) (adds : AddsSoundly b c) where
  abbrev more : List Declared
  more = b.classes ++ c ∷ []

  abbrev d : Bones
  d = more_classes c b

  -- another number
  other : (n : ℕ) (k : Class) → class_numbered n b.classes ≡ Some k → (c.class.number == n) ≡ false
  other n k known = by_test (c.class.number == n) (eqb-true c.class.number n) where
    none_some : ◌≡◌ {A = Option Class} None (Some k) → ⊥
    none_some e = cc

    by_test : (t : Bool) → (t ≡ true → c.class.number ≡ n) → t ≡ false
    by_test false same = refl
    by_test true same = absurd (none_some (sym adds.new ∙ ap (λ m. class_numbered m b.classes) (same refl) ∙ known))

  line_more : (n : ℕ) (k : Class) → class_numbered n b.classes ≡ Some k → line_of more n ≡ line_of b.classes n
  line_more n k known =
      ap (upward n) (reverse-append b.classes (c ∷ [])) ∙ ap (λ t. cond t (c.class ∷ upward (unwrap_or c.class.parent 0) (reverse b.classes)) (upward n (reverse b.classes))) (other n k known)

  is_more : (n : ℕ) (k : Class) → class_numbered n b.classes ≡ Some k → (name : List ℕ) → is_a more n name ≡ is_a b.classes n name
  is_more n k known name = ap (list_any (λ (e : Class). bytes_eq e.name name)) (line_more n k known)

  in_more : (n : ℕ) (k : Class) → class_numbered n b.classes ≡ Some k → (a : Activation) → trigger_in more n a ≡ trigger_in b.classes n a
  in_more n k known a = ap (λ line. find (λ t. is_of t a) (flat_map own_triggers (reverse line))) (line_more n k known)

  at_more : (class place : ℕ) (t : Trigger) → trigger_at b.classes class place ≡ Some t → trigger_at more class place ≡ Some t
  at_more class place t e =
      let tree = map_some (λ (u : TriggerDecl). trigger_of class (place, u)) (option_and_then (λ (k : Class). slice_get k.triggers place) (class_numbered class b.classes)) t e in
      let k = then_some (λ (k : Class). slice_get k.triggers place) (class_numbered class b.classes) tree.0 tree.1 in
      ap (λ m. option_map (λ (u : TriggerDecl). trigger_of class (place, u)) (option_and_then (λ (k : Class). slice_get k.triggers place) m)) (more_found class b.classes (c ∷ []) k.0 k.1 ∙ sym k.1) ∙ e

  ref_more : (class : List ℕ) (r : Ref) → FitsRef (all_alive b) class r → FitsRef (all_alive d) class r
  ref_more class r h = record {
    is = h.is;
    drawn = h.drawn;
    object = if_some_from (FitsObject (all_alive d) class r) (object_of (all_alive b) r) (λ o there.
        let old : FitsObject (all_alive b) class r o = if_some_at (FitsObject (all_alive b) class r) (object_of (all_alive b) r) h.object o there in
        let it = of_alive b r o there in
        let world : FitsWorld b it.0 = all_found (FitsWorld b) r.object b.objects fit.objects it.0 it.2 in
        let known : class_numbered o.class b.classes ≡ Some world.class = subst (λ (p : Object). class_numbered p.class b.classes ≡ Some world.class) it.3 world.known in
        record { fits = is_more o.class world.class known class ∙ old.fits; version = old.version });
  }

  sort_more : (s : Sort) (v : Value) → FitsSort (all_alive b) s v → FitsSort (all_alive d) s v
  sort_more sort.Int (value.Int n) h = h
  sort_more sort.Bool (value.Bool t) h = h
  sort_more sort.Text (value.Text t) h = h
  sort_more (sort.Reference class) (value.Reference r) h = ref_more class r h
  sort_more _ _ h = absurd h

  args_more : (args : List Value) (t : Option Trigger) → HaveTrigger (all_alive b) args t → HaveTrigger (all_alive d) args t
  args_more args None h = h
  args_more args (Some t) h = record {
    sorts = zip_then (λ (p : Param). FitsSort (all_alive b) p.sort) (λ (p : Param). FitsSort (all_alive d) p.sort) (λ p v fits. sort_more p.sort v fits) t.decl.params args h.sorts;
    short = h.short;
  }

  version_more : (class : Class) (last : ℕ) (v : Version) → FitsVersion b class last v → FitsVersion d class last v
  version_more class last v h = record {
    some = h.some;
    number = h.number;
    parent = h.parent;
    stamp = h.stamp;
    fields = zip_then (λ (g : Field). FitsSort (all_alive b) g.sort) (λ (g : Field). FitsSort (all_alive d) g.sort) (λ g v fits. sort_more g.sort v fits) class.fields v.fields h.fields;
    later = h.later;
  }

  object_more : (o : Object) → FitsWorld b o → FitsWorld d o
  object_more o h = record {
    number = h.number;
    class = h.class;
    known = more_found o.class b.classes (c ∷ []) h.class h.known;
    last = h.last;
    versions = all-then (FitsVersion b h.class o.last) (FitsVersion d h.class o.last) (version_more h.class o.last) o.versions h.versions;
    activations = all-then (λ (a : Activation). HaveTrigger (all_alive b) a.args (trigger_in b.classes o.class a)) (λ (a : Activation). HaveTrigger (all_alive d) a.args (trigger_in more o.class a))
        (λ a fits. subst (HaveTrigger (all_alive d) a.args) (sym (in_more o.class h.class h.known a)) (args_more a.args (trigger_in b.classes o.class a) fits)) o.activations h.activations;
  }

  entry_more : (e : Entry) → FitsEntry b e → FitsEntry d e
  entry_more e h = record {
    trigger = by_trigger (trigger_at b.classes e.class e.trigger) refl h.trigger;
    drawn = h.drawn;
    object = λ o there.
        let world : FitsWorld b o = all_found (FitsWorld b) e.object b.objects fit.objects o there in
        subst (λ m. IsSomeAnd m (λ t. Unit {0})) (sym (in_more o.class world.class world.known (activation_of e))) (h.object o there);
  }
    where
      by_trigger : (m : Option Trigger) → trigger_at b.classes e.class e.trigger ≡ m → HaveTrigger (all_alive b) e.args m → HaveTrigger (all_alive d) e.args (trigger_at more e.class e.trigger)
      by_trigger None at fits = absurd fits
      by_trigger (Some t) at fits = subst (HaveTrigger (all_alive d) e.args) (sym (at_more e.class e.trigger t at)) (args_more e.args (Some t) fits)

pub class_added : (b : Bones) (c : Declared) → IsTypedWorld b → AddsSoundly b c → IsTypedWorld (more_classes c b)
class_added b c h adds = record {
  sound = adds.sound;
  fit = record {
    next = h.fit.next;
    rising = h.fit.rising;
    born =
        subst (AllByRecursion (AreBorn (length b.added))) (sym (map-append (λ (d : Declared). d.class) b.classes (c ∷ [])))
        (all-append (AreBorn (length b.added)) (checked_classes b.classes) (c.class ∷ []) h.fit.born (adds.born, tt));
    objects = all-then (FitsWorld b) (FitsWorld (more_classes c b)) (object_more b h.fit c adds) b.objects h.fit.objects;
  };
  whole = h.whole;
  queue = all-then (λ (q : ℕ × Entry). FitsEntry b q.1) (λ (q : ℕ × Entry). FitsEntry (more_classes c b) q.1) (λ q. entry_more b h.fit c adds q.1) b.queue h.queue;
}
