-- A trigger of a good world, its class and arguments for it keep the rules of an opening.
use Rattle.std.proofs.Common.{◌≡◌, ℕ, ◌+◌, List, [], ◌∷◌, map, Bool, true, false, cond, Option, Some, None, refl, sym, ap, subst, ◌∙◌, arith}
use Rattle.std.specs.Prelude.{◌==◌, ◌||◌, nat_le, slice_get}
use Rattle.std.specs.List.{AllByRecursion, AllZip, enumerate_from, find, list_any}
use Rattle.std.specs.Option.{option_and_then, option_map, option_map_or}
use Rattle.std.proofs.lemmas.Bool.Decides.{nat_tests}
use Rattle.ode_codec.specs.Sorts.{has_sort}
use Rattle.ode_codec.specs.StoredRows.{object_row}
use Rattle.ode_heap.proofs.Sorts.{sort_of}
use Rattle.ode_heap.specs.Answering.{IsReadableObject}
use Rattle.ode_laws.proofs.Numbers.{IsPlaced, triggers_placed}
use Rattle.ode_opening_laws.specs.Holding.{class_of}
use Rattle.ode_opening_laws.proofs.Decoding.{Again}
use Rattle.ode_opening_laws.proofs.Each.{all_flat, all_then}
use Rattle.ode_opening_objects.specs.Fitting.{born_param, descends, fits_sort, is_numbered, match_sorts, of_param, refer}
use Rattle.ode_opening_objects.specs.Heads.{head_in}
use Rattle.ode_opening_objects.specs.Objects.{args_refer}
use Rattle.ode_opening_objects.specs.Triggers.{fit_trigger, have_trigger, trigger_under}
use Rattle.ode_opening_objects.specs.declared.head.Head.{Head}
use Rattle.ode_sound_laws.specs.Typed.{AreFromOne}
use Rattle.ode_value.specs.Classes.{Trigger, family, line_of, own_triggers, trigger_at, trigger_of, triggers_of}
use Rattle.ode_value.specs.Firings.{is_of}
use Rattle.ode_value.specs.Fitting.{FitTrigger, FitsSort, HaveTrigger, trigger_in}
use Rattle.ode_value.specs.GoodWorlds.{AreBones, AreClasses, RiseFrom}
use Rattle.ode_value.specs.Language.{Language}
use Rattle.ode_value.specs.Lengths.{values_length}
use Rattle.ode_value.specs.Limits.{args_limit}
use Rattle.ode_value.specs.Objects.{Activation}
use Rattle.ode_value.specs.Worlds.{Bones, Declared, World, class_numbered}
use Rattle.ode_value.specs.declared.change.Added.{Added}
use Rattle.ode_value.specs.declared.class.Class.{Class}
use Rattle.ode_value.specs.declared.member.TriggerDecl.{TriggerDecl}
use Rattle.ode_value.specs.declared.binding.Param.{Param}
use Rattle.ode_value.specs.declared.value.Value.{Value}
use Rattle.ode_opened_laws.proofs.Climbing.{all_reverse, is_descended}
use Rattle.ode_opened_laws.proofs.Keeping.{both, same_numbered, upto, value_fits}

-- ---- the class that declares a trigger

it : (n : ℕ) → (n == n) ≡ true
it n = grind (arith, nat_tests)

same_class : (t : Trigger) (a : Activation) → is_of t a ≡ true → t.class ≡ a.class
same_class t a is = grind (arith, nat_tests)

same_place : (t : Trigger) (a : Activation) → is_of t a ≡ true → t.place ≡ a.trigger
same_place t a is = grind (arith, nat_tests)

abbrev IsAmong : List Class → ℕ → Type 0
IsAmong cs number = list_any (is_numbered number) cs ≡ true

any_behind : (c : Class) (cs : List Class) (number : ℕ) → IsAmong cs number → IsAmong (c ∷ cs) number
any_behind c cs number is = by (c.number == number)
  where
    by : (b : Bool) → b || list_any (is_numbered number) cs ≡ true
    by true = refl
    by false = is

each_among : (cs : List Class) → AllByRecursion (λ (c : Class). IsAmong cs c.number) cs
each_among [] = tt
each_among (c ∷ cs) = (
  ap (λ b. b || list_any (is_numbered c.number) cs) (it c.number),
  all_then (λ (d : Class). IsAmong cs d.number) (λ (d : Class). IsAmong (c ∷ cs) d.number) (λ d is. any_behind c cs d.number is) cs (each_among cs),
)

own_among : (cs : List Class) (number n : ℕ) (ts : List TriggerDecl) → IsAmong cs number → AllByRecursion (λ (t : Trigger). IsAmong cs t.class) (map (trigger_of number) (enumerate_from n ts))
own_among cs number n [] is = tt
own_among cs number n (t ∷ ts) is = (is, own_among cs number (n + 1) ts is)

-- each trigger that a class has is declared by the class or an ancestor
declared_in_line : (ds : List Declared) (number : ℕ) → AllByRecursion (λ (t : Trigger). IsAmong (line_of ds number) t.class) (triggers_of ds number)
declared_in_line ds number =
    let line : List Class = line_of ds number in
    all_flat (λ (t : Trigger). IsAmong line t.class) (λ (c : Class). IsAmong line c.number) own_triggers (λ (c : Class) is. own_among line c.number 0 c.triggers is) (family ds number)
    (all_reverse (λ (c : Class). IsAmong line c.number) line (each_among line))

-- what is found passes the test, and what holds of all holds of it
found_all : {X : Type 0} (P : X → Type 0) (p : X → Bool) (xs : List X) (x : X) → AllByRecursion P xs → find p xs ≡ Some x → P x × (p x ≡ true)
found_all P p [] x all is = absurd (cc)
found_all P p (y ∷ ys) x all is = by (λ there. found_all P p ys x all.1 there) (p y) refl is
  where
    by : (find p ys ≡ Some x → P x × (p x ≡ true)) → (b : Bool) → p y ≡ b → cond b (Some y) (find p ys) ≡ Some x → P x × (p x ≡ true)
    by rest true test there = let same : y ≡ x = cc in (subst P same all.0, subst (λ z. p z ≡ true) same test)
    by rest false test there = rest there

-- the class that declares an activation's trigger is the object's or an ancestor
pub descends_to : (l : Language) (added : List Added) (ds : List Declared) → AreClasses l added [] ds → (number : ℕ) (a : Activation) (t : Trigger) → trigger_in ds number a ≡ Some t → descends (map class_of ds) number a.class ≡ true
descends_to l added ds are number a t is =
    let found = found_all (λ (u : Trigger). IsAmong (line_of ds number) u.class) (λ u. is_of u a) (triggers_of ds number) t (declared_in_line ds number) is in
    is_descended l added ds number a.class are (subst (IsAmong (line_of ds number)) (same_class t a found.1) found.0)

-- and the trigger is the one at its place
pub placed_at : (ds : List Declared) → RiseFrom 0 (map (λ (d : Declared). d.class.number) ds) → (number : ℕ) (a : Activation) (t : Trigger) → trigger_in ds number a ≡ Some t → trigger_at ds a.class a.trigger ≡ Some t
placed_at ds rising number a t is =
    let found = found_all (IsPlaced ds) (λ u. is_of u a) (triggers_of ds number) t (triggers_placed ds rising number) is in
    ap (λ n. trigger_at ds n a.trigger) (sym (same_class t a found.1)) ∙ ap (λ n. trigger_at ds t.class n) (sym (same_place t a found.1)) ∙ found.0

-- ---- the trigger itself

pub under : (ds : List Declared) (class place : ℕ) (t : Trigger) → trigger_at ds class place ≡ Some t → trigger_under (map class_of ds) class place ≡ Some t.decl
under ds class place t is =
    ap (λ (o : Option Class). option_and_then (λ (c : Class). slice_get c.triggers place) o) (same_numbered ds class)
    ∙ by (option_and_then (λ (c : Class). slice_get c.triggers place) (class_numbered class ds)) is
  where
    by : (o : Option TriggerDecl) → option_map (λ u. trigger_of class (place, u)) o ≡ Some t → o ≡ Some t.decl
    by None there = absurd (cc)
    by (Some u) there = let same : trigger_of class (place, u) ≡ t = cc in ap (λ (s : Trigger). Some s.decl) same

module _ (l : Language) (w : World (Unit {0}) ℕ) (are : AreBones l w.bones) (again : Again) where
  abbrev b : Bones
  b = w.bones

  abbrev classes : List Class
  classes = map class_of b.classes

  abbrev heads : ℕ → Option Head
  heads = head_in (map object_row b.objects)

  match_of : (ps : List Param) (vs : List Value) → AllZip (λ (p : Param). FitsSort b p.sort) ps vs → match_sorts 0 born_param of_param ps vs ≡ true
  match_of [] [] fit = refl
  match_of [] (v ∷ vs) fit = absurd fit
  match_of (p ∷ ps) [] fit = absurd fit
  match_of (p ∷ ps) (v ∷ vs) fit = both (has_sort p.sort v) (match_sorts 0 born_param of_param ps vs) (sort_of b p.sort v fit.0) (match_of ps vs fit.1)

  -- arguments fit the trigger that they fit in the world
  pub trigger_there : (class place : ℕ) (args : List Value) (t : Trigger) → trigger_at b.classes class place ≡ Some t → FitTrigger b args t → have_trigger classes class place args ≡ true
  trigger_there class place args t at fit =
      ap (λ (o : Option TriggerDecl). option_map_or (fit_trigger args) o false) (under b.classes class place t at)
      ∙ both (match_sorts 0 born_param of_param t.decl.params args) (nat_le (values_length args) args_limit) (match_of t.decl.params args fit.sorts) (upto (values_length args) args_limit fit.short)

  module _ (reads : AllByRecursion (IsReadableObject w) b.objects) (ones : AreFromOne b) where
    refer_of : (ps : List Param) (vs : List Value) → AllZip (λ (p : Param). FitsSort b p.sort) ps vs → refer b.next classes heads 0 born_param of_param ps vs ≡ true
    refer_of [] [] fit = refl
    refer_of [] (v ∷ vs) fit = refl
    refer_of (p ∷ ps) [] fit = refl
    refer_of (p ∷ ps) (v ∷ vs) fit =
        both (fits_sort b.next classes heads p.sort v) (refer b.next classes heads 0 born_param of_param ps vs) (value_fits l w are again reads ones p.sort v fit.0) (refer_of ps vs fit.1)

    -- and so do their references
    pub trigger_refers : (class place : ℕ) (args : List Value) (t : Trigger) → trigger_at b.classes class place ≡ Some t → FitTrigger b args t → args_refer b.next classes heads class place args ≡ true
    trigger_refers class place args t at fit =
        ap (λ (o : Option TriggerDecl). option_map_or (λ (u : TriggerDecl). refer b.next classes heads 0 born_param of_param u.params args) o true) (under b.classes class place t at)
        ∙ refer_of t.decl.params args fit.sorts

-- a trigger that there is, with arguments that fit it
pub record IsGiven (b : Bones) (args : List Value) (o : Option Trigger) : Type 0 where
  pub trigger : Trigger
  pub is : o ≡ Some trigger
  pub fits : FitTrigger b args trigger

pub given : (b : Bones) (args : List Value) (o : Option Trigger) → HaveTrigger b args o → IsGiven b args o
given b args None have = absurd have
given b args (Some t) have = record { trigger = t; is = refl; fits = have }
