-- What the classes of a good world and their triggers have, and how triggers are found.
use Rattle.std.proofs.Common.{◌≡◌, ℕ, ◌+◌, ◌<◌, ◌≤◌, ◌^◌, Bool, true, false, cond, List, [], ◌∷◌, ◌++◌, map, length, ◌==◌, Option, Some, None, refl, sym, ap, ◌∙◌, subst, arith}
use Rattle.std.specs.Prelude.{slice_get, nat_lt, Ok, Err}
use Rattle.std.specs.List.{AllByRecursion, enumerate_from, find, sum_by}
use Rattle.std.specs.Option.{option_map, option_and_then}
use Rattle.std.proofs.lemmas.Bool.Decides.{nat_tests}
use Rattle.std.proofs.lemmas.List.{length-map}
use Rattle.std.proofs.lemmas.List.Sums.{sum_by-cons}
use Rattle.ode_heap.specs.Activations.{fit_class, fit_params, fit_trigger}
use Rattle.ode_heap.specs.Answering.{class_of}
use Rattle.ode_heap_laws.specs.Few.{HasFewParams, HasFewParts}
use Rattle.ode_laws.proofs.Each.{all-find}
use Rattle.ode_laws.proofs.Numbers.{IsPlaced, triggers_placed}
use Rattle.ode_types.specs.Families as families
use Rattle.ode_value.specs.Answers.{Answer, ◌>>◌, refuses}
use Rattle.ode_value.specs.ClassLimits.{limits_trigger, limits_triggers}
use Rattle.ode_value.specs.Classes.{Trigger, own_triggers, trigger_at, trigger_of, triggers_of}
use Rattle.ode_value.specs.Firings.{is_of}
use Rattle.ode_value.specs.Fitting.{trigger_in}
use Rattle.ode_value.specs.GoodWorlds.{AreClasses, IsClass, RiseFrom}
use Rattle.ode_value.specs.Language.{Language}
use Rattle.ode_value.specs.Lengths.{table_records}
use Rattle.ode_value.specs.Limits.{class_limit, state_limit}
use Rattle.ode_value.specs.Objects.{Activation}
use Rattle.ode_value.specs.TreeCount.{tree_count}
use Rattle.ode_value.specs.Weights.{record_count, table_size}
use Rattle.ode_value.specs.Worlds.{Declared, class_numbered}
use Rattle.ode_value.specs.declared.change.Added.{Added}
use Rattle.ode_value.specs.declared.class.Class.{Class}
use Rattle.ode_value.specs.declared.member.TriggerDecl.{TriggerDecl}
use Rattle.ode_value.specs.declared.reason.Refusal.{Refusal}
use Rattle.ode_value.specs.declared.value.Value.{Value}

-- ---- a class within the limits

abbrev pub HasFewStates : TriggerDecl → Type 0
HasFewStates t = tree_count t.event ≤ state_limit

pub record IsSmall (d : Declared) : Type 0 where
  pub number : d.class.number < 2 ^ 32
  pub triggers : length d.class.triggers < 2 ^ 16
  pub states : AllByRecursion HasFewStates d.class.triggers

both_ok : {S : Type 0} (first : Answer (Unit {0})) (rest : Answer S) (s : S) → (first >> rest) ≡ Ok s → (first ≡ Ok tt) × (rest ≡ Ok s)
both_ok (Ok u) rest s is = (refl, is)
both_ok (Err refusal) rest s is = absurd (cc)

not_refused : (b : Bool) (refusal : Refusal) → refuses b refusal ≡ Ok tt → b ≡ false
not_refused true refusal is = absurd (cc)
not_refused false refusal is = refl

at_most : (a b : ℕ) → nat_lt a b ≡ false → b ≤ a
at_most a b out = grind (arith, nat_tests)

few_states : (ts : List TriggerDecl) → limits_triggers ts ≡ Ok tt → AllByRecursion HasFewStates ts
few_states [] is = tt
few_states (t ∷ ts) is =
    let parts = both_ok (limits_trigger t) (limits_triggers ts) tt is in
    let states = both_ok _ _ tt parts.0 in
    (at_most state_limit (tree_count t.event) (not_refused _ _ states.1), few_states ts parts.1)

one_each : {X : Type 0} (f : X → ℕ) → ((x : X) → 1 ≤ f x) → (xs : List X) → length xs ≤ sum_by f xs
one_each f each [] = omega arith
one_each f each (x ∷ xs) =
    let more = one_each f each xs in
    let here = each x in
    let is : sum_by f (x ∷ xs) ≡ f x + sum_by f xs = sum_by-cons f x xs in
    omega arith

few_triggers : (c : Declared) → record_count c ≤ class_limit → length c.class.triggers < 2 ^ 16
unfolding record_count class_limit
few_triggers c few =
    let each = one_each table_records (λ t. omega arith) (map table_size c.class.triggers) in
    let long : length (map table_size c.class.triggers) ≡ length c.class.triggers = length-map c.class.triggers table_size in
    omega arith

small : (l : Language) (added : List Added) (earlier : List Declared) (c : Declared) → IsClass l added earlier c → IsSmall c
small l added earlier c is =
    let parts = both_ok (limits_triggers c.class.triggers) _ c is.limits in
    let records = both_ok _ (Ok c) c parts.1 in
    record {
      number = is.low;
      triggers = few_triggers c (at_most class_limit (record_count c) (not_refused _ _ records.0));
      states = few_states c.class.triggers parts.0;
    }

pub each_small : (l : Language) (added : List Added) (earlier cs : List Declared) → AreClasses l added earlier cs → AllByRecursion IsSmall cs
each_small l added earlier [] are = tt
each_small l added earlier (c ∷ cs) are = (small l added earlier c are.0, each_small l added (earlier ++ c ∷ []) cs are.1)

-- ---- a trigger of such a class

pub record IsSmallTrigger (t : Trigger) : Type 0 where
  pub class : t.class < 2 ^ 32
  pub place : t.place < 2 ^ 16
  pub params : HasFewParams t.decl
  pub states : HasFewStates t.decl

own_small : (class from : ℕ) (ts : List TriggerDecl) → class < 2 ^ 32 → from + length ts < 2 ^ 16 → AllByRecursion HasFewParams ts → AllByRecursion HasFewStates ts
    → AllByRecursion IsSmallTrigger (map (trigger_of class) (enumerate_from from ts))
own_small class from [] low room params states = tt
own_small class from (t ∷ ts) low room params states = (
  record { class = low; place = omega arith; params = params.0; states = states.0 },
  own_small class (from + 1) ts low (omega arith) params.1 states.1,
)

pub all_small : (cs : List Declared) → AllByRecursion IsSmall cs → AllByRecursion HasFewParts cs → AllByRecursion (λ (d : Declared). AllByRecursion IsSmallTrigger (own_triggers d.class)) cs
all_small [] small few = tt
all_small (c ∷ cs) small few =
    (own_small c.class.number 0 c.class.triggers small.0.number (omega (arith, small.0.triggers)) few.0.params small.0.states, all_small cs small.1 few.1)

-- ---- found by number and place

-- what holds of all classes holds of the one of a number, which it has
pub numbered_class : (P : Class → Type 0) (cs : List Declared) → AllByRecursion (λ (d : Declared). P d.class) cs → (n : ℕ) (c : Class) → class_numbered n cs ≡ Some c → P c × (c.number ≡ n)
numbered_class P [] all n c is = absurd (cc)
numbered_class P (d ∷ ds) all n c is = by_test (d.class.number == n) refl is (numbered_class P ds all.1 n c)
  where
    by_test : (b : Bool) → (d.class.number == n) ≡ b → cond b (Some d.class) (class_numbered n ds) ≡ Some c → (class_numbered n ds ≡ Some c → P c × (c.number ≡ n)) → P c × (c.number ≡ n)
    by_test true test e rest =
        let it : d.class ≡ c = cc in
        let number : d.class.number ≡ n = grind (arith, nat_tests) in
        (subst P it all.0, ap (λ (x : Class). x.number) (sym it) ∙ number)
    by_test false test e rest = rest e

-- a class of a number is found among the declared classes as among their trees
pub same_numbered : (cs : List Declared) (n : ℕ) → families.class_numbered (map class_of cs) n ≡ class_numbered n cs
same_numbered [] n = refl
same_numbered (c ∷ cs) n = ap (λ (o : Option Class). cond (c.class.number == n) (Some c.class) o) (same_numbered cs n)

fit_at : (o : Option Class) (class place : ℕ) (args : List Value) (t : Trigger)
    → option_map (λ u. trigger_of class (place, u)) (option_and_then (λ (c : Class). slice_get c.triggers place) o) ≡ Some t
    → fit_params t.decl.params args ≡ true → fit_class o place args ≡ true
fit_at None class place args t is fits = absurd (cc)
fit_at (Some c) class place args t is fits = by_place (slice_get c.triggers place) is
  where
    by_place : (o : Option TriggerDecl) → option_map (λ u. trigger_of class (place, u)) o ≡ Some t → fit_trigger o args ≡ true
    by_place None e = absurd (cc)
    by_place (Some u) e =
        let it : trigger_of class (place, u) ≡ t = cc in
        subst (λ (s : Trigger). fit_params s.decl.params args ≡ true) (sym it) fits

-- arguments fit the trigger at a place, in the words of the heap
pub fits_class : (cs : List Declared) (class place : ℕ) (args : List Value) (t : Trigger) → trigger_at cs class place ≡ Some t
    → fit_params t.decl.params args ≡ true → fit_class (families.class_numbered (map class_of cs) class) place args ≡ true
fits_class cs class place args t at fits =
    ap (λ (o : Option Class). fit_class o place args) (same_numbered cs class) ∙ fit_at (class_numbered class cs) class place args t at fits

-- it has this number and place
pub at_is : (cs : List Declared) (class place : ℕ) (t : Trigger) → trigger_at cs class place ≡ Some t → (class ≡ t.class) × (place ≡ t.place)
at_is cs class place t is = by_place (option_and_then (λ (c : Class). slice_get c.triggers place) (class_numbered class cs)) is
  where
    by_place : (o : Option TriggerDecl) → option_map (λ u. trigger_of class (place, u)) o ≡ Some t → (class ≡ t.class) × (place ≡ t.place)
    by_place None e = absurd (cc)
    by_place (Some u) e =
        let it : trigger_of class (place, u) ≡ t = cc in
        (ap (λ (s : Trigger). s.class) it, ap (λ (s : Trigger). s.place) it)

passes : {X : Type 0} (p : X → Bool) (xs : List X) (x : X) → find p xs ≡ Some x → p x ≡ true
passes p [] x is = absurd (cc)
passes p (y ∷ ys) x is = by_test (p y) refl is (passes p ys x)
  where
    by_test : (b : Bool) → p y ≡ b → cond b (Some y) (find p ys) ≡ Some x → (find p ys ≡ Some x → p x ≡ true) → p x ≡ true
    by_test true test e rest = let same : y ≡ x = cc in subst (λ z. p z ≡ true) same test
    by_test false test e rest = rest e

-- the trigger of an activation is the one at its place
pub record IsTriggerOf (cs : List Declared) (a : Activation) (t : Trigger) : Type 0 where
  pub class : a.class ≡ t.class
  pub place : a.trigger ≡ t.place
  pub at : trigger_at cs a.class a.trigger ≡ Some t

same_class : (t : Trigger) (a : Activation) → is_of t a ≡ true → a.class ≡ t.class
same_class t a is = grind (arith, nat_tests)

same_place : (t : Trigger) (a : Activation) → is_of t a ≡ true → a.trigger ≡ t.place
same_place t a is = grind (arith, nat_tests)

pub trigger_found : (cs : List Declared) → RiseFrom 0 (map (λ (d : Declared). d.class.number) cs) → (class : ℕ) (a : Activation) (t : Trigger) → trigger_in cs class a ≡ Some t → IsTriggerOf cs a t
trigger_found cs rising class a t found =
    let test = passes (λ u. is_of u a) (triggers_of cs class) t found in
    let class_is = same_class t a test in
    let place_is = same_place t a test in
    let placed : trigger_at cs t.class t.place ≡ Some t = all-find (IsPlaced cs) (λ u. is_of u a) (triggers_of cs class) (triggers_placed cs rising class) t found in
    record {
      class = class_is;
      place = place_is;
      at = ap (λ n. trigger_at cs n a.trigger) class_is ∙ ap (λ n. trigger_at cs t.class n) place_is ∙ placed;
    }
