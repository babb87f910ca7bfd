-- Which activations end by the firings of a point.
use Rattle.std.proofs.Common.{◌≡◌, ℕ, ◌+◌, ◌<◌, ◌≤◌, Bool, true, false, cond, not, List, [], ◌∷◌, ◌++◌, map, ◌==◌, ◌&&◌, ◌||◌, Option, Some, None, refl, sym, ap, ◌∙◌, subst, arith, ⊎_elim, append_assoc, option_map, option_and_then, slice_get}
use Rattle.std.specs.List.{AllByRecursion, filter, flat_map, find, list_any}
use Rattle.std.specs.Option.{option_map_or}
use Rattle.std.proofs.lemmas.Bool.{false≢true, and_right, eq-eqb, ne_eqb, cases_Bool}
use Rattle.std.proofs.lemmas.List.Folds.{list_any-append}
use Rattle.std.proofs.lemmas.Simd.{map-map}
use Rattle.std.proofs.Math.Bool.{or-false}
use Rattle.ode_value.specs.declared.class.Class.{Class}
use Rattle.ode_value.specs.declared.event.Point.{Point}
use Rattle.ode_value.specs.declared.member.TriggerDecl.{TriggerDecl}
use Rattle.ode_value.specs.Classes.{Trigger, trigger_of, triggers_of}
use Rattle.ode_value.specs.Firings.{is_of, firing_of, ends_by, after_firings, object_after, both_lists, grown_past, is_firing, fired_by, fired_in}
use Rattle.ode_value.specs.GoodWorlds.{RiseFrom}
use Rattle.ode_value.specs.Objects.{Activation}
use Rattle.ode_value.specs.Pasts.{Past, Kept, numbers}
use Rattle.ode_value.specs.Symbols.{Alphabet}
use Rattle.ode_value.specs.Tables.{Table}
use Rattle.ode_value.specs.Transactions.{Firing}
use Rattle.ode_value.specs.Worlds.{Declared, Object}
use Rattle.ode_value.specs.Worlds.{class_numbered as machine_class}
use Rattle.ode_types.specs.declared.running.Running.{Running}
use Rattle.ode_types.specs.Families.{class_numbered}
use Rattle.ode_states.specs.Advance.{once, fires, advanced}
use Rattle.ode_states.specs.Machine.{activation_of, row_of, checked, IsOf, AreOf}
use Rattle.ode_states.proofs.KeptLaws.{each_both, map_alike, below_it, below_next}
use Rattle.ode_states.proofs.MachineLaws.{Agrees, all_seen, numbers_agree}
use Rattle.ode_states.proofs.PlacedLaws.{each_as, Precedes, Rise, not_later}
use Rattle.ode_states.proofs.TriggerLaws.{triggers_rise}

-- ---- some element passes
any_alike : {X : Type 0} (f g : X → Bool) (xs : List X) → AllByRecursion (λ x. f x ≡ g x) xs → list_any f xs ≡ list_any g xs
any_alike f g [] alike = refl
any_alike f g (x ∷ xs) alike = ap (λ b. b || list_any f xs) alike.0 ∙ ap (λ b. g x || b) (any_alike f g xs alike.1)

any_flat : {X A : Type 0} (test : A → Bool) (g : X → List A) (xs : List X) → list_any test (flat_map g xs) ≡ list_any (λ x. list_any test (g x)) xs
any_flat test g [] = refl
any_flat test g (x ∷ xs) = list_any-append test (g x) (flat_map g xs) ∙ ap (λ b. list_any test (g x) || b) (any_flat test g xs)

-- one activation has a number
module _ (q : Running → Bool) where
  abbrev has : ℕ → Running → Bool
  has n b = (b.id == n) && q b

  any_behind : (n : ℕ) (front rest : List Running) → AllByRecursion (λ (b : Running). b.id < n) front → list_any (has n) (front ++ rest) ≡ list_any (has n) rest
  any_behind n [] rest below = refl
  any_behind n (b ∷ front) rest below =
      let less : b.id < n = below.0 in
      ap (λ t. (t && q b) || list_any (has n) (front ++ rest)) (ne_eqb b.id n (λ e. omega arith)) ∙ any_behind n front rest below.1

  any_ahead : (n low : ℕ) (rest : List Running) → n < low → RiseFrom low (map (λ (a : Running). a.id) rest) → list_any (has n) rest ≡ false
  any_ahead n low [] less rising = refl
  any_ahead n low (b ∷ rest) less rising =
      let up : low ≤ b.id = rising.0 in
      ap (λ t. (t && q b) || list_any (has n) rest) (ne_eqb b.id n (λ e. omega arith)) ∙ any_ahead n (b.id + 1) rest (omega arith) rising.1

one_from : (front acts : List Running) (low : ℕ) → AllByRecursion (λ (b : Running). b.id < low) front → RiseFrom low (map (λ (a : Running). a.id) acts)
    → AllByRecursion (λ a. (q : Running → Bool) → list_any (has q a.id) (front ++ acts) ≡ q a) acts
one_from front [] low below rising = tt
one_from front (a ∷ acts) low below rising = (
  (λ q.
      any_behind q a.id front (a ∷ acts) (below_it front a low below rising.0)
      ∙ ap (λ t. (t && q a) || list_any (has q a.id) acts) (eq-eqb a.id a.id refl)
      ∙ ap (λ b. q a || b) (any_ahead q a.id (a.id + 1) acts (omega arith) rising.1)
      ∙ or-false (q a)),
  subst (λ l. AllByRecursion (λ b. (q : Running → Bool) → list_any (has q b.id) l ≡ q b) acts) (append_assoc front (a ∷ []) acts)
      (one_from (front ++ a ∷ []) acts (a.id + 1) (below_next front a low below rising.0) rising.1),
)

one_each : (acts : List Running) → RiseFrom 0 (map (λ (a : Running). a.id) acts) → AllByRecursion (λ a. (q : Running → Bool) → list_any (has q a.id) acts ≡ q a) acts
one_each acts rising = one_from [] acts 0 tt rising

-- ---- one trigger is an activation's
abbrev ends_of : Bool → Running → Trigger → Bool
ends_of goes a t = (is_of t (activation_of a) && goes) && not t.decl.perpetual

none_ends : (goes : Bool) (a : Running) (ts : List Trigger) → AllByRecursion (λ t. is_of t (activation_of a) ≡ false) ts → list_any (ends_of goes a) ts ≡ false
none_ends goes a [] none = refl
none_ends goes a (t ∷ ts) none = ap (λ b. ((b && goes) && not t.decl.perpetual) || list_any (ends_of goes a) ts) none.0 ∙ none_ends goes a ts none.1

one_ends : (goes : Bool) (a : Running) (trigger : Trigger) (ts : List Trigger) → Rise ts → find (λ t. is_of t (activation_of a)) ts ≡ Some trigger
    → list_any (ends_of goes a) ts ≡ (goes && not trigger.decl.perpetual)
one_ends goes a trigger [] rise found = absurd (cc)
one_ends goes a trigger (t ∷ ts) rise found =
    ⊎_elim
    (λ is.
    let first : Some t ≡ Some trigger = subst (λ b. cond b (Some t) (find (λ t. is_of t (activation_of a)) ts) ≡ Some trigger) is found in
    let same : t ≡ trigger = cc in
    ap (λ b. ((b && goes) && not t.decl.perpetual) || list_any (ends_of goes a) ts) is
    ∙ ap (λ b. (goes && not t.decl.perpetual) || b)
    (none_ends goes a ts (each_as (Precedes t) (λ u. is_of u (activation_of a) ≡ false) ts (λ u after. not_later a t u is after) rise.0))
    ∙ or-false (goes && not t.decl.perpetual)
    ∙ ap (λ (u : Trigger). goes && not u.decl.perpetual) same)
    (λ no.
    ap (λ b. ((b && goes) && not t.decl.perpetual) || list_any (ends_of goes a) ts) no
    ∙ one_ends goes a trigger ts rise.1 (subst (λ b. cond b (Some t) (find (λ t. is_of t (activation_of a)) ts) ≡ Some trigger) no found))
    (cases_Bool (is_of t (activation_of a)))

-- ---- the firings
any_or_not : (b fires goes : Bool) (n : ℕ) (o : Object) (t : Trigger) (a : Running) (l : List Activation) (later : Bool)
    → list_any (ends_by n) (map (firing_of o t) l) ≡ later → (b ≡ true → fires ≡ goes)
    → list_any (ends_by n) (map (firing_of o t) (cond (b && fires) (activation_of a ∷ l) l)) ≡ ((a.id == n) && ((b && goes) && not t.decl.perpetual) || later)
any_or_not false fires goes n o t a l later rest alike = rest ∙ ap (λ b. b || later) (sym (and_right (a.id == n) false refl))
any_or_not true true true n o t a l later rest alike = ap (λ b. ((a.id == n) && not t.decl.perpetual) || b) rest
any_or_not true true false n o t a l later rest alike = absurd (false≢true (sym (alike refl)))
any_or_not true false true n o t a l later rest alike = absurd (false≢true (alike refl))
any_or_not true false false n o t a l later rest alike = rest ∙ ap (λ b. b || later) (sym (and_right (a.id == n) false refl))

module _ {O A : Type 0} (past : Past O A) (o : Object) (kept : Kept O A) (goes : Running → Bool) where
  any_fired : (t : Trigger) (n : ℕ) (acts : List Running) → AllByRecursion (Agrees past o kept goes t) acts
      → list_any (ends_by n) (map (firing_of o t) (filter (λ x. is_of t x && is_firing past kept t x) (map activation_of acts))) ≡ list_any (has (λ b. ends_of (goes b) b t) n) acts
  any_fired t n [] agree = refl
  any_fired t n (a ∷ acts) agree =
      any_or_not (is_of t (activation_of a)) (is_firing past kept t (activation_of a)) (goes a) n o t a
      (filter (λ x. is_of t x && is_firing past kept t x) (map activation_of acts)) (list_any (has (λ b. ends_of (goes b) b t) n) acts)
      (any_fired t n acts agree.1) agree.0

  -- an activation ends exactly where it goes and its trigger isn't perpetual
  pub ends_as : (acts : List Running) (ts : List Trigger) → o.activations ≡ map activation_of acts → AllByRecursion (λ t. AllByRecursion (Agrees past o kept goes t) acts) ts → Rise ts
      → (a : Running) (trigger : Trigger) → find (λ t. is_of t (activation_of a)) ts ≡ Some trigger → ((q : Running → Bool) → list_any (has q a.id) acts ≡ q a)
      → list_any (ends_by a.id) (flat_map (fired_by past o kept) (filter (λ (t : Trigger). true) ts)) ≡ (goes a && not trigger.decl.perpetual)
  ends_as acts ts is agree rise a trigger found one =
      ap (λ (l : List Trigger). list_any (ends_by a.id) (flat_map (fired_by past o kept) l)) (all_seen ts)
      ∙ any_flat (ends_by a.id) (fired_by past o kept) ts
      ∙ any_alike (λ t. list_any (ends_by a.id) (fired_by past o kept t)) (ends_of (goes a) a) ts
      (each_as (λ t. AllByRecursion (Agrees past o kept goes t) acts) (λ t. list_any (ends_by a.id) (fired_by past o kept t) ≡ ends_of (goes a) a t) ts
      (λ t here.
      ap (λ (l : List Activation). list_any (ends_by a.id) (map (firing_of o t) (filter (λ x. is_of t x && is_firing past kept t x) l))) is
      ∙ any_fired t a.id acts here
      ∙ one (λ b. ends_of (goes b) b t)) agree)
      ∙ one_ends (goes a) a trigger ts rise found

-- ---- once
class_same : (n : ℕ) (classes : List Declared) → class_numbered (checked classes) n ≡ machine_class n classes
class_same n [] = refl
class_same n (d ∷ ds) = ap (λ (c : Option Class). cond (d.class.number == n) (Some d.class) c) (class_same n ds)

once_of : (class place : ℕ) (t : Option TriggerDecl) (trigger : Trigger) → option_map (λ t. trigger_of class (place, t)) t ≡ Some trigger
    → option_map_or (λ (t : TriggerDecl). not t.perpetual) t false ≡ not trigger.decl.perpetual
once_of class place None trigger is = absurd (cc)
once_of class place (Some t) trigger is = let same : trigger_of class (place, t) ≡ trigger = cc in ap (λ (u : Trigger). not u.decl.perpetual) same

module _ (by : ℕ → ℕ → Table) (tables : List Table) (alphabets : List Alphabet) (classes : List Declared) (p : Point) (o : Object) (acts : List Running)
    (are : AreOf by tables alphabets classes o acts) where
  once_is : (a : Running) (of : IsOf by tables alphabets classes o.class a) → once (checked classes) a ≡ not of.trigger.decl.perpetual
  once_is a of =
      ap (λ (c : Option Class). option_map_or (λ (t : TriggerDecl). not t.perpetual) (option_and_then (λ (c : Class). slice_get c.triggers a.trigger) c) false) (class_same a.class classes)
      ∙ once_of a.class a.trigger (option_and_then (λ (c : Class). slice_get c.triggers a.trigger) (machine_class a.class classes)) of.trigger of.declared

  abbrev firings : Kept (Unit {0}) ℕ → List Firing
  firings kept = fired_in (numbers by) (both_lists (numbers by)) o classes (grown_past (numbers by) (both_lists (numbers by)) p classes o kept)

  pub numbers_end : (kept : Kept (Unit {0}) ℕ) → kept.activations ≡ map (row_of (λ (a : Running). a.state)) acts
      → (object_after (firings kept) o).activations ≡ map activation_of (map (advanced tables alphabets (checked classes) p) acts)
  numbers_end kept is =
      let now = grown_past (numbers by) (both_lists (numbers by)) p classes o kept in
      let ended : Running → Activation = λ a. after_firings (firings kept) (activation_of a) in
      ap (map (after_firings (firings kept))) are.activations
      ∙ map-map (after_firings (firings kept)) activation_of acts
      ∙ map_alike ended (λ a. activation_of (advanced tables alphabets (checked classes) p a)) acts
      (each_both (IsOf by tables alphabets classes o.class) (λ a. (q : Running → Bool) → list_any (has q a.id) acts ≡ q a)
      (λ a. ended a ≡ activation_of (advanced tables alphabets (checked classes) p a)) acts
      (λ a of one.
      ap (λ b. record { number = a.id; class = a.class; trigger = a.trigger; args = a.args; on = a.on && not b })
      (ends_as (numbers by) o now (fires tables alphabets p) acts (triggers_of classes o.class) are.activations (numbers_agree by tables alphabets classes p o acts are kept is)
      (triggers_rise classes o.class are.rising_classes) a of.trigger of.had one
      ∙ ap (λ b. fires tables alphabets p a && b) (sym (once_is a of))))
      are.each (one_each acts are.rising))
      ∙ sym (map-map activation_of (advanced tables alphabets (checked classes) p) acts)
