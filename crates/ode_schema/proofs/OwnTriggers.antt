-- The triggers that a class has stand at their places.
use Rattle.std.proofs.Common.{◌≡◌, ◌≤◌, ℕ, zero, suc, ◌+◌, List, [], ◌∷◌, ◌++◌, map, length, drop, Bool, true, false, cond, Option, Some, None, refl, ap, sym, ◌∙◌, subst, arith, append-nil, append_assoc}
use Rattle.std.specs.Prelude.{slice_get}
use Rattle.std.specs.List.{AllByRecursion, enumerate_from, filter, find, flat_map}
use Rattle.std.specs.Option.{IfSome, IsSome, option_map, option_or, unwrap_or}
use Rattle.std.specs.Str.{bytes_eq}
use Rattle.std.proofs.lemmas.List.{map-append}
use Rattle.std.proofs.lemmas.List.Elements.{filter-append}
use Rattle.std.proofs.lemmas.List.Folds.{find-append}
use Rattle.ode_value.specs.declared.class.Class.{Class}
use Rattle.ode_value.specs.declared.member.TriggerDecl.{TriggerDecl}
use Rattle.ode_value.specs.Classes.{Trigger, trigger_of, own_triggers, triggers_of, initial_triggers, trigger_named}
use Rattle.ode_value.specs.Worlds.{Declared}
use Rattle.ode_types.specs.Checked.{AreChecked}
use Rattle.ode_interpreter.specs.declared.firing.Trigger as code
use Rattle.ode_interpreter.specs.Seen.{trigger as seen}
use Rattle.ode_laws.proofs.Each.{all-filter, all-find, all-then}
use Rattle.ode_laws.proofs.Numbers.{IsPlaced, triggers_placed}
use Rattle.ode_states.specs.Machine.{checked}
use Rattle.ode_schema.specs.Parts as parts
use Rattle.ode_schema.specs.Parts.{named_by_place, trigger_under, triggers_in}
use Rattle.ode_schema.proofs.Agree.{rise_by, trigger_by, triggers_by}

-- ---- those of one class from a place on

abbrev pub own_from : Class → ℕ → List Trigger
own_from c place = map (trigger_of c.number) (enumerate_from place (drop place c.triggers))

placed-here : (class from k : ℕ) (ts : List TriggerDecl) (t : TriggerDecl) → slice_get ts k ≡ Some t
    → map (trigger_of class) (enumerate_from from (drop k ts)) ≡ trigger_of class (from, t) ∷ map (trigger_of class) (enumerate_from (from + 1) (drop (suc k) ts))
placed-here class from k [] t at = absurd (cc)
placed-here class from zero (u ∷ ts) t at = let same : u ≡ t = cc in ap (λ v. trigger_of class (from, v) ∷ map (trigger_of class) (enumerate_from (from + 1) ts)) same
placed-here class from (suc k) (u ∷ ts) t at = placed-here class from k ts t at

pub own_goes : (c : Class) (place : ℕ) (t : TriggerDecl) → slice_get c.triggers place ≡ Some t → own_from c place ≡ trigger_of c.number (place, t) ∷ own_from c (place + 1)
own_goes c place t at =
    let next : suc place ≡ place + 1 = omega arith in
    placed-here c.number place place c.triggers t at
    ∙ ap (λ n. trigger_of c.number (place, t) ∷ map (trigger_of c.number) (enumerate_from (place + 1) (drop n c.triggers))) next

none-left : (k : ℕ) (ts : List TriggerDecl) → length ts ≤ k → drop k ts ≡ []
none-left zero [] less = refl
none-left (suc k) [] less = refl
none-left zero (t ∷ ts) less = absurd (omega arith)
none-left (suc k) (t ∷ ts) less = none-left k ts (omega arith)

pub own_ends : (c : Class) (place : ℕ) → length c.triggers ≤ place → own_from c place ≡ []
own_ends c place less = ap (λ (ts : List TriggerDecl). map (trigger_of c.number) (enumerate_from place ts)) (none-left place c.triggers less)

-- ---- the code's loops over them

abbrev initial : Trigger → Bool
initial t = t.decl.initial

module _ (c : Class) (place : ℕ) (t : TriggerDecl) (at : slice_get c.triggers place ≡ Some t) where
  abbrev here : code.Trigger
  here = record { class = c.number; place = place }

  pub initial_in : (found more all : List code.Trigger) → t.initial ≡ true → more ≡ found ++ here ∷ [] → found ++ map named_by_place (filter initial (own_from c place)) ≡ all
      → more ++ map named_by_place (filter initial (own_from c (place + 1))) ≡ all
  initial_in found more all is pushed rest =
      ap (λ (l : List code.Trigger). l ++ map named_by_place (filter initial (own_from c (place + 1)))) pushed
      ∙ append_assoc found (here ∷ []) (map named_by_place (filter initial (own_from c (place + 1))))
      ∙ ap (λ b. found ++ map named_by_place (cond b (trigger_of c.number (place, t) ∷ filter initial (own_from c (place + 1))) (filter initial (own_from c (place + 1))))) (sym is)
      ∙ ap (λ (ts : List Trigger). found ++ map named_by_place (filter initial ts)) (sym (own_goes c place t at)) ∙ rest

  pub initial_out : (found more all : List code.Trigger) → t.initial ≡ false → more ≡ found → found ++ map named_by_place (filter initial (own_from c place)) ≡ all
      → more ++ map named_by_place (filter initial (own_from c (place + 1))) ≡ all
  initial_out found more all isnt same rest =
      ap (λ (l : List code.Trigger). l ++ map named_by_place (filter initial (own_from c (place + 1)))) same
      ∙ ap (λ b. found ++ map named_by_place (cond b (trigger_of c.number (place, t) ∷ filter initial (own_from c (place + 1))) (filter initial (own_from c (place + 1))))) (sym isnt)
      ∙ ap (λ (ts : List Trigger). found ++ map named_by_place (filter initial ts)) (sym (own_goes c place t at)) ∙ rest

  module _ (name : List ℕ) where
    abbrev named : Trigger → Bool
    named u = bytes_eq u.decl.name name

    pub named_here : (o : Option Trigger) → bytes_eq t.name name ≡ true → o ≡ find named (own_from c place) → Some here ≡ option_map named_by_place o
    named_here o is rest =
        sym (ap (option_map named_by_place)
        (rest ∙ ap (find named) (own_goes c place t at) ∙ ap (λ b. cond b (Some (trigger_of c.number (place, t))) (find named (own_from c (place + 1)))) is))

    pub named_next : (o : Option Trigger) → bytes_eq t.name name ≡ false → o ≡ find named (own_from c place) → o ≡ find named (own_from c (place + 1))
    named_next o isnt rest = rest ∙ ap (find named) (own_goes c place t at) ∙ ap (λ b. cond b (Some (trigger_of c.number (place, t))) (find named (own_from c (place + 1)))) isnt

module _ (c : Class) (place : ℕ) (all_passed : length c.triggers ≤ place) where
  pub initial_done : (found all : List code.Trigger) → found ++ map named_by_place (filter initial (own_from c place)) ≡ all → found ≡ all
  initial_done found all rest =
      sym (append-nil found) ∙ ap (λ (ts : List Trigger). found ++ map named_by_place (filter initial ts)) (sym (own_ends c place all_passed)) ∙ rest

  pub named_nowhere : (name : List ℕ) (o : Option Trigger) → o ≡ find (λ (u : Trigger). bytes_eq u.decl.name name) (own_from c place) → None ≡ option_map named_by_place o
  named_nowhere name o rest =
      sym (ap (option_map named_by_place) (rest ∙ ap (find (λ (u : Trigger). bytes_eq u.decl.name name)) (own_ends c place all_passed)))

-- ---- each stands at its place

-- a trigger is the one of its class and place
abbrev pub IsThere : List Class → Trigger → Type 0
IsThere cs t = trigger_under cs t.class t.place ≡ Some t.decl

abbrev pub HasTrigger : List Class → code.Trigger → Type 0
HasTrigger cs t = IsSome (trigger_under cs t.class t.place)

there_by : (t : Trigger) (o : Option TriggerDecl) → option_map (λ u. trigger_of t.class (t.place, u)) o ≡ Some t → o ≡ Some t.decl
there_by t None h = absurd (cc)
there_by t (Some u) h = let same : trigger_of t.class (t.place, u) ≡ t = cc in ap (λ (s : Trigger). Some s.decl) same

has_by : (cs : List Class) (t : Trigger) → IsThere cs t → HasTrigger cs (named_by_place t)
has_by cs t there = subst IsSome (sym there) refl

seen_by : (cs : List Class) (t : Trigger) → IsThere cs t → seen (parts.trigger_of cs) (named_by_place t) ≡ t
seen_by cs t there = ap (λ (o : Option TriggerDecl). trigger_of t.class (t.place, unwrap_or o parts.no_trigger)) there

seen-all : (cs : List Class) (ts : List Trigger) → AllByRecursion (IsThere cs) ts → map (seen (parts.trigger_of cs)) (map named_by_place ts) ≡ ts
seen-all cs [] all = refl
seen-all cs (t ∷ ts) all =
    ap (λ u. u ∷ map (seen (parts.trigger_of cs)) (map named_by_place ts)) (seen_by cs t all.0) ∙ ap (λ us. t ∷ us) (seen-all cs ts all.1)

-- the classes as if each were written so
abbrev written : List Class → List Declared
written cs = map (λ (c : Class). record { class = c; tree = record { name = []; parent = None; members = [] } }) cs

checked-written : (cs : List Class) → checked (written cs) ≡ cs
checked-written [] = refl
checked-written (c ∷ cs) = ap (λ (ds : List Class). c ∷ ds) (checked-written cs)

module _ (cs : List Class) (checks : AreChecked cs) where
  pub all_there : (n : ℕ) → AllByRecursion (IsThere cs) (triggers_in cs n)
  all_there n =
      let ds = written cs in
      let are : checked ds ≡ cs = checked-written cs in
      subst (AllByRecursion (IsThere cs)) (sym (triggers_by cs ds are n))
      (all-then (IsPlaced ds) (IsThere cs) (λ t placed. there_by t (trigger_under cs t.class t.place) (trigger_by cs ds are t.class t.place ∙ placed))
      (triggers_of ds n) (triggers_placed ds (rise_by cs ds are checks) n))

  -- those that a new object begins with
  abbrev first_of : ℕ → List Trigger
  first_of n = filter (λ (t : Trigger). t.decl.initial) (triggers_in cs n)

  initial_there : (n : ℕ) → AllByRecursion (IsThere cs) (first_of n)
  initial_there n = all-filter (IsThere cs) (λ (t : Trigger). t.decl.initial) (triggers_in cs n) (all_there n)

  pub initial_seen : (ds : List Declared) → checked ds ≡ cs → (n : ℕ) (found : List code.Trigger) → found ≡ map named_by_place (first_of n)
      → map (seen (parts.trigger_of cs)) found ≡ initial_triggers ds n
  initial_seen ds are n found is =
      ap (map (seen (parts.trigger_of cs))) is ∙ seen-all cs (first_of n) (initial_there n)
      ∙ ap (filter (λ (t : Trigger). t.decl.initial)) (triggers_by cs ds are n)

  -- the one of a name
  abbrev named_in : ℕ → List ℕ → Option Trigger
  named_in n name = find (λ (t : Trigger). bytes_eq t.decl.name name) (triggers_in cs n)

  named_there : (n : ℕ) (name : List ℕ) (t : Trigger) → named_in n name ≡ Some t → IsThere cs t
  named_there n name t found = all-find (IsThere cs) (λ (u : Trigger). bytes_eq u.decl.name name) (triggers_in cs n) (all_there n) t found

  by_name : (o : Option Trigger) → ((t : Trigger) → o ≡ Some t → IsThere cs t) → option_map (seen (parts.trigger_of cs)) (option_map named_by_place o) ≡ o
  by_name None there = refl
  by_name (Some t) there = ap Some (seen_by cs t (there t refl))

  has_name : (o : Option Trigger) → ((t : Trigger) → o ≡ Some t → IsThere cs t) → IfSome (option_map named_by_place o) (HasTrigger cs)
  has_name None there = tt
  has_name (Some t) there = has_by cs t (there t refl)

  pub named_seen : (ds : List Declared) → checked ds ≡ cs → (n : ℕ) (name : List ℕ) (found : Option code.Trigger) → found ≡ option_map named_by_place (named_in n name)
      → option_map (seen (parts.trigger_of cs)) found ≡ trigger_named ds n name
  named_seen ds are n name found is =
      ap (option_map (seen (parts.trigger_of cs))) is ∙ by_name (named_in n name) (named_there n name)
      ∙ ap (find (λ (t : Trigger). bytes_eq t.decl.name name)) (triggers_by cs ds are n)

  pub named_declared : (n : ℕ) (name : List ℕ) (found : Option code.Trigger) → found ≡ option_map named_by_place (named_in n name) → IfSome found (HasTrigger cs)
  named_declared n name found is = subst (λ (o : Option code.Trigger). IfSome o (HasTrigger cs)) (sym is) (has_name (named_in n name) (named_there n name))

-- ---- along a family, by one class

pub initial_more : (c : Class) (family : List Class)
    → map named_by_place (filter (λ (t : Trigger). t.decl.initial) (flat_map own_triggers (c ∷ family)))
    ≡ map named_by_place (filter (λ (t : Trigger). t.decl.initial) (own_triggers c)) ++ map named_by_place (filter (λ (t : Trigger). t.decl.initial) (flat_map own_triggers family))
initial_more c family =
    let initial : Trigger → Bool = λ t. t.decl.initial in
    ap (map named_by_place) (filter-append initial (own_triggers c) (flat_map own_triggers family))
    ∙ map-append named_by_place (filter initial (own_triggers c)) (filter initial (flat_map own_triggers family))

either : {X Y : Type 0} (f : X → Y) (o p : Option X) → option_map f (option_or o p) ≡ option_or (option_map f o) (option_map f p)
either f None p = refl
either f (Some x) p = refl

pub named_more : (name : List ℕ) (c : Class) (family : List Class)
    → option_map named_by_place (find (λ (t : Trigger). bytes_eq t.decl.name name) (flat_map own_triggers (c ∷ family)))
    ≡ option_or (option_map named_by_place (find (λ (t : Trigger). bytes_eq t.decl.name name) (own_triggers c)))
    (option_map named_by_place (find (λ (t : Trigger). bytes_eq t.decl.name name) (flat_map own_triggers family)))
named_more name c family =
    let named : Trigger → Bool = λ t. bytes_eq t.decl.name name in
    ap (option_map named_by_place) (find-append named (own_triggers c) (flat_map own_triggers family))
    ∙ either named_by_place (find named (own_triggers c)) (find named (flat_map own_triggers family))

-- what is found along a family, where the first class gives this
pub named_along : (name : List ℕ) (c : Class) (rest family : List Class) (o all : Option code.Trigger)
    → all ≡ option_map named_by_place (find (λ (t : Trigger). bytes_eq t.decl.name name) (flat_map own_triggers family)) → family ≡ c ∷ rest
    → o ≡ option_map named_by_place (find (λ (t : Trigger). bytes_eq t.decl.name name) (own_triggers c))
    → all ≡ option_or o (option_map named_by_place (find (λ (t : Trigger). bytes_eq t.decl.name name) (flat_map own_triggers rest)))
named_along name c rest family o all is first own =
    is ∙ ap (λ (l : List Class). option_map named_by_place (find (λ (t : Trigger). bytes_eq t.decl.name name) (flat_map own_triggers l))) first
    ∙ named_more name c rest
    ∙ ap (λ p. option_or p (option_map named_by_place (find (λ (t : Trigger). bytes_eq t.decl.name name) (flat_map own_triggers rest)))) (sym own)

pub ruleset along = (initial_more)
