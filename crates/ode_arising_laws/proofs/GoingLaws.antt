-- Activations whose triggers their object's class has, and what of them fires.
use Rattle.std.proofs.Common.{◌≡◌, ◌==◌, ◌<◌, ◌^◌, ◌+◌, ℕ, zero, suc, List, [], ◌∷◌, ◌++◌, map, Bool, true, false, cond, nat_lt, Option, Some, None, Ok, option_map, refl, sym, ap, subst, ◌∙◌, arith}
use Rattle.std.proofs.lemmas.Bool.{eq-eqb, eqb-true, false≢true}
use Rattle.std.proofs.lemmas.Bool.Decides.{nat_tests}
use Rattle.std.proofs.lemmas.List.Elements.{All-from_recursion}
use Rattle.std.specs.Prelude.{◌&&◌}
use Rattle.std.specs.List.{All, AllByRecursion, filter, find, fold}
use Rattle.std.specs.Option.{IsSome}
use Rattle.std.specs.Str.{bytes_eq}
use Rattle.ode_arising_laws.specs.Arising.{AllGo, HasShortArgs, IsGoing, IsShortlyFired, firing_by}
use Rattle.ode_interpreter.specs.Seen.{IsShort}
use Rattle.ode_interpreter.specs.declared.firing.Firing as fired
use Rattle.ode_laws.proofs.Each.{all-append, all-filter, all-find, all-map, all-then}
use Rattle.ode_laws.proofs.Numbers.{IsPlaced, triggers_placed}
use Rattle.ode_object_laws.specs.Objects.{TakesTrigger, activation_at}
use Rattle.ode_objects.specs.declared.object.Active.{Active}
use Rattle.ode_overlay.specs.Answers.{◌>>=◌}
use Rattle.ode_overlay.specs.Reading.{in_u32, map_of, or_else, place_from, running_by, running_from}
use Rattle.ode_overlay.specs.declared.error.OverlayError.TheVariants.{Damaged}
use Rattle.ode_overlay_laws.specs.Standing.{active_as}
use Rattle.ode_schema.proofs.Agree.{rise_by, trigger_by, triggers_by}
use Rattle.ode_schema.proofs.Ready as ready
use Rattle.ode_schema.specs.Parts.{AreFit, IsFit, Parts, first_place, table_by, trigger_under}
use Rattle.ode_states.specs.Advance.{comes_before, fired_in, fired_of, placed, step_by}
use Rattle.ode_states.specs.Machine.{IsOf, checked}
use Rattle.ode_states.specs.declared.fired.Fired.{Fired}
use Rattle.ode_types.specs.Checked.{AreChecked}
use Rattle.ode_types.specs.declared.running.Running.{Running}
use Rattle.ode_value.specs.Classes as machine
use Rattle.ode_value.specs.Firings.{is_of}
use Rattle.ode_value.specs.Fitting.{trigger_in}
use Rattle.ode_value.specs.Keys.{activation_key}
use Rattle.ode_value.specs.Objects.{Activation}
use Rattle.ode_value.specs.Symbols.{Alphabet}
use Rattle.ode_value.specs.Tables.{Table}
use Rattle.ode_value.specs.Worlds.{Declared}
use Rattle.ode_value.specs.declared.class.Class.{Class}
use Rattle.ode_value.specs.declared.event.Point.{Point}
use Rattle.ode_value.specs.declared.member.TriggerDecl.{TriggerDecl}

-- ---- what is found by a test

-- one that is found is found by another test that it passes
some_other : {X : Type 0} (p q : X → Bool) (xs : List X) (x : X) → find p xs ≡ Some x → q x ≡ true → IsSome (find q xs)
some_other p q [] x is passes = absurd (cc)
some_other {X} p q (z ∷ zs) x is passes = by_tests (p z) (q z) refl is (λ e. some_other p q zs x e passes) where
  by_tests : (a b : Bool) → q z ≡ b → cond a (Some z) (find p zs) ≡ Some x → (find p zs ≡ Some x → IsSome (find q zs)) → IsSome (cond b (Some z) (find q zs))
  by_tests a true test e rest = refl
  by_tests true false test e rest = let same : z ≡ x = cc in absurd (false≢true (sym test ∙ ap q same ∙ passes))
  by_tests false false test e rest = rest e

find_passes : {X : Type 0} (q : X → Bool) (xs : List X) (y : X) → find q xs ≡ Some y → q y ≡ true
find_passes q [] y is = absurd (cc)
find_passes q (z ∷ zs) y is = by_test (q z) refl is (find_passes q zs y) where
  by_test : (b : Bool) → q z ≡ b → cond b (Some z) (find q zs) ≡ Some y → (find q zs ≡ Some y → q y ≡ true) → q y ≡ true
  by_test true test e rest = let same : z ≡ y = cc in subst (λ w. q w ≡ true) same test
  by_test false test e rest = rest e

-- each is found by a test that it passes
each_found : {X : Type 0} (same : X → X → Bool) → ((x : X) → same x x ≡ true) → (xs : List X) → AllByRecursion (λ x. IsSome (find (same x) xs)) xs
each_found same own [] = tt
each_found {X} same own (x ∷ xs) = (
  subst (λ b. IsSome (cond b (Some x) (find (same x) xs))) (sym (own x)) refl,
  all-then (λ y. IsSome (find (same y) xs)) (λ y. IsSome (find (same y) (x ∷ xs))) (λ y. later (same y x) (find (same y) xs)) xs (each_found same own xs),
) where
  later : (b : Bool) (f : Option X) → IsSome f → IsSome (cond b (Some x) f)
  later true f is = refl
  later false f is = is

first_true : (a b : Bool) → (a && b) ≡ true → a ≡ true
first_true true b is = refl
first_true false b is = absurd (false≢true is)

second_true : (a b : Bool) → (a && b) ≡ true → b ≡ true
second_true true b is = is
second_true false b is = absurd (false≢true is)

-- ---- the triggers that a class has

abbrev is_its : machine.Trigger → machine.Trigger → Bool
is_its t u = is_of u (activation_at t.class t.place)

passes_own : (t : machine.Trigger) → is_its t t ≡ true
passes_own t = ap (λ b. b && (t.place == t.place)) (eq-eqb t.class t.class refl) ∙ eq-eqb t.place t.place refl

module _ (classes others : List Declared) (are : checked classes ≡ checked others) (number : ℕ) where
  same_triggers : machine.triggers_of classes number ≡ machine.triggers_of others number
  same_triggers = sym (triggers_by (checked others) classes are number) ∙ triggers_by (checked others) others refl number

  taken_by_others : (t : machine.Trigger) → TakesTrigger classes number t.class t.place → TakesTrigger others number t.class t.place
  taken_by_others t takes = subst (λ (ts : List machine.Trigger). IsSome (find (is_its t) ts)) same_triggers takes

  pub named_taken : (name : List ℕ) (t : machine.Trigger) → machine.trigger_named classes number name ≡ Some t → TakesTrigger others number t.class t.place
  named_taken name t is =
      taken_by_others t (some_other (λ (u : machine.Trigger). bytes_eq u.decl.name name) (is_its t) (machine.triggers_of classes number) t is (passes_own t))

  pub initial_taken : AllByRecursion (λ (t : machine.Trigger). TakesTrigger others number t.class t.place) (machine.initial_triggers classes number)
  initial_taken =
      all-filter (λ (t : machine.Trigger). TakesTrigger others number t.class t.place) (λ (t : machine.Trigger). t.decl.initial) (machine.triggers_of classes number)
      (all-then (λ (t : machine.Trigger). TakesTrigger classes number t.class t.place) (λ (t : machine.Trigger). TakesTrigger others number t.class t.place) taken_by_others (machine.triggers_of classes number)
      (each_found is_its passes_own (machine.triggers_of classes number)))

-- ---- the place of a trigger's table

same_first : (maps : List ℕ) (class : ℕ) → map_of maps class ≡ first_place maps class
same_first maps zero = refl
same_first maps (suc n) = refl

is_less : (a b : ℕ) → a < b → nat_lt a b ≡ true
is_less a b less = grind (arith, nat_tests)

place_is : (trigger at : ℕ) (f : Option ℕ) → option_map (λ first. first + trigger) f ≡ Some at → at < 2 ^ 32 → place_from trigger f ≡ Some at
place_is trigger at None is small = absurd (cc)
place_is trigger at (Some first) is small =
    let same : first + trigger ≡ at = cc in
    ap in_u32 same ∙ ap (λ b. cond b (Some at) None) (is_less at (2 ^ 32) small)

decl_under : (class place : ℕ) (t : machine.Trigger) (o : Option TriggerDecl) → option_map (λ u. machine.trigger_of class (place, u)) o ≡ Some t → o ≡ Some t.decl
decl_under class place t None is = absurd (cc)
decl_under class place t (Some u) is = let same : machine.trigger_of class (place, u) ≡ t = cc in ap (λ (s : machine.Trigger). Some s.decl) same

-- ---- an activation of a trigger that its object's class has

module _ (p : Parts) (fit : AreFit p) (checks : AreChecked p.classes) (first : List Declared) (came : checked first ≡ p.classes) (class : ℕ) where
  module _ (a : Active) (t : machine.Trigger) (found : trigger_in first class (active_as a) ≡ Some t) where
    abbrev its : machine.Trigger → Bool
    its u = is_of u (active_as a)

    passes : its t ≡ true
    passes = find_passes its (machine.triggers_of first class) t found

    same_class : a.class ≡ t.class
    same_class = eqb-true a.class t.class (first_true (a.class == t.class) (a.trigger == t.place) passes)

    same_place : a.trigger ≡ t.place
    same_place = eqb-true a.trigger t.place (second_true (a.class == t.class) (a.trigger == t.place) passes)

    at_first : machine.trigger_at first a.class a.trigger ≡ Some t
    at_first =
        ap (λ m. machine.trigger_at first m a.trigger) same_class ∙ ap (λ m. machine.trigger_at first t.class m) same_place
        ∙ all-find (IsPlaced first) its (machine.triggers_of first class) (triggers_placed first (rise_by p.classes first came checks) class) t found

    under : trigger_under p.classes a.class a.trigger ≡ Some t.decl
    under = decl_under a.class a.trigger t (trigger_under p.classes a.class a.trigger) (trigger_by p.classes first came a.class a.trigger ∙ at_first)

    it : IsFit p a.class a.trigger t.decl
    it = fit a.class a.trigger t.decl under

    place : place_from a.trigger (map_of p.maps a.class) ≡ Some it.at
    place = ap (place_from a.trigger) (same_first p.maps a.class) ∙ place_is a.trigger it.at (first_place p.maps a.class) it.is it.small

    abbrev r : Running
    r = running_by a it.at

    of_all : (classes : List Declared) → checked classes ≡ p.classes → IsOf (table_by p.tables p.maps) p.tables p.alphabets classes class r
    of_all classes are = record {
      trigger = t;
      declared = sym (trigger_by p.classes classes are a.class a.trigger) ∙ trigger_by p.classes first came a.class a.trigger ∙ at_first;
      had = ap (find its) (sym (triggers_by p.classes classes are class) ∙ triggers_by p.classes first came class) ∙ found;
      table = ready.table_by_place p fit r t.decl under it.is;
      alphabet = ready.alphabet_is p fit r t.decl under it.is;
    }

    goes : IsGoing p class r
    goes = record { declared = subst IsSome (sym under) refl; of = of_all }

  abbrev Had : Activation → Type 0
  Had a = IsSome (trigger_in first class a)

  -- behind those that go on
  pub all_go : (id : ℕ) (done : List Running) (acts : List Active) → AllByRecursion (IsGoing p class) done → AllByRecursion Had (map active_as acts) → AllGo p class (running_from p.maps id done acts)
  all_go id done [] so_far all = so_far
  all_go id done (a ∷ acts) so_far all =
      by_trigger (trigger_in first class (active_as a)) refl all.0 (λ r going. all_go id (done ++ r ∷ []) acts (all-append (IsGoing p class) done (r ∷ []) so_far (going, tt)) all.1) where
        by_trigger : (f : Option machine.Trigger) → trigger_in first class (active_as a) ≡ f → IsSome f → ((r : Running) → IsGoing p class r → AllGo p class (running_from p.maps id (done ++ r ∷ []) acts))
            → AllGo p class (running_from p.maps id done (a ∷ acts))
        by_trigger None found some rest = absurd (cc)
        by_trigger (Some t) found some rest =
            subst (λ (f : Option ℕ). AllGo p class ((or_else (Damaged (activation_key id a.number)) f >>= λ table. Ok (running_by a table)) >>= λ r. running_from p.maps id (done ++ r ∷ []) acts))
            (sym (place a t found)) (rest (r a t found) (goes a t found))

-- ---- those that fire

placed_all : (P : Fired → Type 0) (fs : List Fired) (f : Fired) → AllByRecursion P fs → P f → AllByRecursion P (placed fs f)
placed_all P [] f all one = (one, tt)
placed_all P (g ∷ fs) f all one = by_test (comes_before f g) (placed_all P fs f all.1 one) where
  by_test : (b : Bool) → AllByRecursion P (placed fs f) → AllByRecursion P (cond b (f ∷ g ∷ fs) (g ∷ placed fs f))
  by_test true rest = (one, all)
  by_test false rest = (all.0, rest)

fold_all : (P : Fired → Type 0) (more fs : List Fired) → AllByRecursion P fs → AllByRecursion P more → AllByRecursion P (fold placed fs more)
fold_all P [] fs all rest = all
fold_all P (f ∷ more) fs all rest = fold_all P more (placed fs f) (placed_all P fs f all rest.0) rest.1

pub fired_all : (P : Fired → Type 0) (tables : List Table) (alphabets : List Alphabet) (classes : List Class) (point : Point) (acts : List Running) → AllByRecursion (λ a. P (fired_of a)) acts
    → AllByRecursion P (fired_in tables alphabets classes point acts)
fired_all P tables alphabets classes point acts all =
    let firing = filter (λ a. (step_by tables alphabets classes point a).fires) acts in
    fold_all P (map fired_of firing) [] tt (all-map P fired_of firing (all-filter (λ a. P (fired_of a)) (λ a. (step_by tables alphabets classes point a).fires) acts all))

pub fired_short : (tables : List Table) (alphabets : List Alphabet) (classes : List Class) (point : Point) (acts : List Running) → AllByRecursion HasShortArgs acts
    → AllByRecursion IsShortlyFired (fired_in tables alphabets classes point acts)
fired_short = fired_all IsShortlyFired

-- as they are told
pub told_short : (id : ℕ) (fs : List Fired) (told : List fired.Firing) → AllByRecursion IsShortlyFired fs → told ≡ map (firing_by id) fs → All IsShort told
told_short id fs told all is = subst (All IsShort) (sym is) (All-from_recursion IsShort (map (firing_by id) fs) (all-map IsShort (firing_by id) fs all))
