-- The activations of a good world, and the references in their arguments, keep the rules of an opening.
use Rattle.std.proofs.Common.{◌≡◌, ℕ, ◌+◌, ◌≤◌, List, [], ◌∷◌, ◌++◌, map, length, Bool, true, false, Option, Some, None, Ok, ap, ◌∙◌, arith, length-append}
use Rattle.std.specs.Prelude.{◌&&◌, is_none, nat_lt, not}
use Rattle.std.specs.List.{AllByRecursion, flat_map}
use Rattle.std.specs.Option.{option_map, option_map_or}
use Rattle.ode_codec.specs.StoredRows.{activation_row, activation_rows, object_row, state_of}
use Rattle.ode_codec.specs.declared.record.Record.{Record}
use Rattle.ode_heap.specs.Answering.{IsReadableActivation, IsReadableObject, with_state}
use Rattle.ode_keep.specs.Entries.{Entries}
use Rattle.ode_opening_laws.specs.Holding.{class_of}
use Rattle.ode_opening_laws.proofs.Decoding.{Again}
use Rattle.ode_opening_laws.proofs.Each.{all_then}
use Rattle.ode_opening_objects.specs.Fitting.{descends}
use Rattle.ode_opening_objects.specs.Heads.{head_in}
use Rattle.ode_opening_objects.specs.Objects.{references_fit, references_keep}
use Rattle.ode_opening_objects.specs.Triggers.{activation_fits, activation_keeps, goes_on, have_trigger, is_own_number, is_shared, of_activation}
use Rattle.ode_opening_objects.specs.declared.head.Head.{Head}
use Rattle.ode_passes.specs.Rules.{Ruled, ◌>>=◌, each, found, needs}
use Rattle.ode_passes.specs.declared.cause.Cause.TheVariants as cause
use Rattle.ode_sound_laws.specs.Typed.{AreFromOne}
use Rattle.ode_value.specs.Classes.{Trigger, trigger_at}
use Rattle.ode_value.specs.Denoting.{object_numbered}
use Rattle.ode_value.specs.Fitting.{trigger_in}
use Rattle.ode_value.specs.GoodWorlds.{AreBones, AreClasses, IsActivation, IsObject, RiseFrom}
use Rattle.ode_value.specs.Language.{Language}
use Rattle.ode_value.specs.Objects.{Activation}
use Rattle.ode_value.specs.Records.{Row}
use Rattle.ode_value.specs.Worlds.{Bones, Declared, Object, World}
use Rattle.ode_value.specs.declared.class.Class.{Class}
use Rattle.ode_opened_laws.proofs.Apart.{activations_differ, no_objects, none_shared}
use Rattle.ode_opened_laws.proofs.Keeping.{both, each_flat, each_map, less, tells}
use Rattle.ode_opened_laws.proofs.Telling.{activation_reads, head_of, own_numbers}
use Rattle.ode_opened_laws.proofs.Triggered.{IsGiven, descends_to, given, placed_at, trigger_refers, trigger_there}

module _ (l : Language) (w : World (Unit {0}) ℕ) (are : AreBones l w.bones) (again : Again) (reads : AllByRecursion (IsReadableObject w) w.bones.objects) (ones : AreFromOne w.bones) where
  abbrev b : Bones
  b = w.bones

  abbrev classes : List Class
  classes = map class_of b.classes

  abbrev heads : ℕ → Option Head
  heads = head_in (map object_row b.objects)

  abbrev activations : Entries
  activations = flat_map (activation_rows w) b.objects

  abbrev shared : ℕ → Bool
  shared = is_shared activations

  abbrev row_of : Object → Activation → Row
  row_of o a = activation_row o.id (state_of w o.id a.number) a

  -- ---- what is known of an activation, and of an object with activations

  record IsOwn (P : Object → Activation → Type 0) (o : Object) (a : Activation) : Type 0 where
    is : IsActivation b o.class a
    reads_it : IsReadableActivation w o.id a
    apart : object_numbered a.number b.objects ≡ None
    more : P o a

  abbrev AreApart : Object → Type 0
  AreApart o = AllByRecursion (λ (a : Activation). object_numbered a.number b.objects ≡ None) o.activations

  record IsOwner (P : Object → Activation → Type 0) (o : Object) : Type 0 where
    own : object_numbered o.id b.objects ≡ Some o
    all : AllByRecursion (IsOwn P o) o.activations

  module _ (P : Object → Activation → Type 0) where
    own_all : (o : Object) (acts : List Activation) → AllByRecursion (IsActivation b o.class) acts → AllByRecursion (IsReadableActivation w o.id) acts
        → AllByRecursion (λ (a : Activation). object_numbered a.number b.objects ≡ None) acts → AllByRecursion (P o) acts → AllByRecursion (IsOwn P o) acts
    own_all o [] one two three four = tt
    own_all o (a ∷ acts) one two three four = (record { is = one.0; reads_it = two.0; apart = three.0; more = four.0 }, own_all o acts one.1 two.1 three.1 four.1)

    owners : (os : List Object) → AllByRecursion (IsObject b) os → AllByRecursion (IsReadableObject w) os → AllByRecursion (λ (o : Object). object_numbered o.id b.objects ≡ Some o) os
        → AllByRecursion AreApart os → AllByRecursion (λ (o : Object). AllByRecursion (P o) o.activations) os → AllByRecursion (IsOwner P) os
    owners [] one two three four five = tt
    owners (o ∷ os) one two three four five = (
      record { own = three.0; all = own_all o o.activations one.0.activations two.0.activations four.0 five.0 },
      owners os one.1 two.1 three.1 four.1 five.1,
    )

    -- what the rows of all such activations keep
    kept_by : (rule : Row → Ruled (Unit {0})) → ((o : Object) → object_numbered o.id b.objects ≡ Some o → (a : Activation) → IsOwn P o a → rule (row_of o a) ≡ Ok tt)
        → AllByRecursion (λ (o : Object). AllByRecursion (P o) o.activations) b.objects → each rule activations ≡ Ok tt
    kept_by rule one more =
        each_flat rule (activation_rows w) b.objects
        (all_then (IsOwner P) (λ (o : Object). each rule (activation_rows w o) ≡ Ok tt)
        (λ o it. each_map rule (row_of o) o.activations (all_then (IsOwn P o) (λ (a : Activation). rule (row_of o a) ≡ Ok tt) (one o it.own) o.activations it.all)) b.objects
        (owners b.objects are.objects reads (own_numbers b.objects 0 are.rising) (no_objects b.objects are.numbers) more))

  -- ---- its trigger

  class_rising : (earlier ds : List Declared) (low : ℕ) → low ≤ length earlier + 1 → AreClasses l b.added earlier ds → RiseFrom low (map (λ (d : Declared). d.class.number) ds)
  class_rising earlier [] low less classes_are = tt
  class_rising earlier (d ∷ ds) low less classes_are =
      let number : d.class.number ≡ length earlier + 1 = classes_are.0.number in
      (omega (arith, less, number), class_rising (earlier ++ d ∷ []) ds (d.class.number + 1) (omega (arith, number, length-append earlier (d ∷ []))) classes_are.1)

  found_at : (class : ℕ) (a : Activation) (t : Trigger) → trigger_in b.classes class a ≡ Some t → trigger_at b.classes a.class a.trigger ≡ Some t
  found_at class a t is = placed_at b.classes (class_rising [] b.classes 0 (omega arith) are.classes) class a t is

  -- ---- the rules

  head_at : (o : Object) → object_numbered o.id b.objects ≡ Some o → heads o.id ≡ Some (head_of o)
  head_at o own = tells l w are again reads ones o.id ∙ ap (option_map head_of) own

  own_number : (o : Object) (a : Activation) (P : Object → Activation → Type 0) → IsOwn P o a → is_own_number b.next heads shared a.number ≡ true
  own_number o a P own =
      both (nat_lt a.number b.next) (is_none (heads a.number) && not (shared a.number)) (less a.number b.next own.is.number)
      (both (is_none (heads a.number)) (not (shared a.number)) (ap is_none (tells l w are again reads ones a.number ∙ ap (option_map head_of) own.apart))
      (ap not (none_shared activations a.number (activations_differ w b.objects are.numbers))))

  fitting : (o : Object) → object_numbered o.id b.objects ≡ Some o → (a : Activation) (P : Object → Activation → Type 0) → IsOwn P o a → activation_fits b.next classes heads shared (with_state w o.id a) ≡ true
  fitting o there a P own =
      let t : IsGiven b a.args (trigger_in b.classes o.class a) = given b a.args (trigger_in b.classes o.class a) own.is.trigger in
      let at = found_at o.class a t.trigger t.is in
      both (option_map_or (λ (h : Head). descends classes h.class a.class) (heads o.id) false) (have_trigger classes a.class a.trigger a.args && is_own_number b.next heads shared a.number)
      (ap (λ (g : Option Head). option_map_or (λ (h : Head). descends classes h.class a.class) g false) (head_at o there) ∙ descends_to l b.added b.classes are.classes o.class a t.trigger t.is)
      (both (have_trigger classes a.class a.trigger a.args) (is_own_number b.next heads shared a.number) (trigger_there l w are again a.class a.trigger a.args t.trigger at t.fits)
      (own_number o a P own))

  module _ (reached : ℕ → ℕ → ℕ → Bool) where
    abbrev IsReachedBy : Object → Activation → Type 0
    IsReachedBy o a = reached a.class a.trigger (state_of w o.id a.number) ≡ true

    one_kept : (o : Object) → object_numbered o.id b.objects ≡ Some o → (a : Activation) → IsOwn IsReachedBy o a → activation_keeps b.next classes heads shared reached (row_of o a) ≡ Ok tt
    one_kept o there a own =
        let k = (row_of o a).0 in
        let r = with_state w o.id a in
        ap (λ (g : Option Record). found (cause.Record k) g >>= λ r. found (cause.Record k) (of_activation r) >>= λ a. goes_on b.next classes heads shared reached k a)
        (activation_reads again w o.id a own.reads_it.spells)
        ∙ ap (λ t. needs (cause.Record k) t >>= λ _. needs (cause.State o.id a.number) (reached a.class a.trigger r.state)) (fitting o there a IsReachedBy own)
        ∙ ap (needs (cause.State o.id a.number)) own.more

    pub activations_kept : AllByRecursion (λ (o : Object). AllByRecursion (λ (a : Activation). reached a.class a.trigger (state_of w o.id a.number) ≡ true) o.activations) b.objects
        → each (activation_keeps b.next classes heads shared reached) activations ≡ Ok tt
    activations_kept all = kept_by IsReachedBy (activation_keeps b.next classes heads shared reached) one_kept all

  -- ---- the references in its arguments

  abbrev IsAny : Object → Activation → Type 0
  IsAny o a = Unit {0}

  any_act : (o : Object) (acts : List Activation) → AllByRecursion (IsAny o) acts
  any_act o [] = tt
  any_act o (a ∷ acts) = (tt, any_act o acts)

  any_object : (os : List Object) → AllByRecursion (λ (o : Object). AllByRecursion (IsAny o) o.activations) os
  any_object [] = tt
  any_object (o ∷ os) = (any_act o o.activations, any_object os)

  one_refers : (o : Object) → object_numbered o.id b.objects ≡ Some o → (a : Activation) → IsOwn IsAny o a → references_keep b.next classes heads (row_of o a) ≡ Ok tt
  one_refers o there a own =
      let k = (row_of o a).0 in
      let t : IsGiven b a.args (trigger_in b.classes o.class a) = given b a.args (trigger_in b.classes o.class a) own.is.trigger in
      ap (λ (g : Option Record). found (cause.Record k) g >>= λ r. needs (cause.Record k) (references_fit b.next classes heads r)) (activation_reads again w o.id a own.reads_it.spells)
      ∙ ap (needs (cause.Record k)) (trigger_refers l w are again reads ones a.class a.trigger a.args t.trigger (found_at o.class a t.trigger t.is) t.fits)

  pub activation_references_kept : each (references_keep b.next classes heads) activations ≡ Ok tt
  activation_references_kept = kept_by IsAny (references_keep b.next classes heads) one_refers (any_object b.objects)
