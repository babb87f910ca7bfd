-- Firings put in their places one after another stand by their triggers, and by number at each.
use Rattle.std.proofs.Common.{◌≡◌, ℕ, ◌+◌, ◌<◌, ◌≤◌, Bool, true, false, cond, List, [], ◌∷◌, ◌++◌, map, ◌&&◌, ◌||◌, ◌==◌, nat_lt, fold, refl, sym, ap, ◌∙◌, subst, arith, inl, inr, ◌⊎◌, ⊎_elim, append_assoc, append-nil}
use Rattle.std.specs.List.{AllByRecursion, filter, flat_map, list_any}
use Rattle.std.proofs.lemmas.Bool.{false≢true, and_parts, and_from, and_left, and_right, eqb-true, cases_Bool, or_cases}
use Rattle.std.proofs.lemmas.Bool.Decides.{nat_tests}
use Rattle.std.proofs.lemmas.List.{map-append}
use Rattle.std.proofs.lemmas.List.Elements.{filter-append}
use Rattle.ode_value.specs.Classes.{Trigger}
use Rattle.ode_value.specs.Firings.{is_of}
use Rattle.ode_value.specs.GoodWorlds.{RiseFrom}
use Rattle.ode_types.specs.declared.running.Running.{Running}
use Rattle.ode_states.specs.declared.fired.Fired.{Fired}
use Rattle.ode_states.specs.Advance.{comes_before, placed, fired_of, one_more}
use Rattle.ode_states.specs.Machine.{activation_of}

-- ---- lists

pub each_of : {X : Type 0} (P : X → Type 0) (xs : List X) → ((x : X) → P x) → AllByRecursion P xs
each_of P [] every = tt
each_of P (x ∷ xs) every = (every x, each_of P xs every)

pub each_as : {X : Type 0} (P Q : X → Type 0) (xs : List X) → ((x : X) → P x → Q x) → AllByRecursion P xs → AllByRecursion Q xs
each_as P Q [] leads each = tt
each_as P Q (x ∷ xs) leads each = (leads x each.0, each_as P Q xs leads each.1)

pub each_append : {X : Type 0} (P : X → Type 0) (xs ys : List X) → AllByRecursion P xs → AllByRecursion P ys → AllByRecursion P (xs ++ ys)
each_append P [] ys each more = more
each_append P (x ∷ xs) ys each more = (each.0, each_append P xs ys each.1 more)

-- ---- places

placed_behind : (xs ys : List Fired) (f : Fired) → AllByRecursion (λ g. comes_before f g ≡ false) xs → placed (xs ++ ys) f ≡ xs ++ placed ys f
placed_behind [] ys f behind = refl
placed_behind (x ∷ xs) ys f behind =
    ap (λ b. cond b (f ∷ x ∷ (xs ++ ys)) (x ∷ placed (xs ++ ys) f)) behind.0 ∙ ap (λ (l : List Fired). x ∷ l) (placed_behind xs ys f behind.1)

placed_front : (ys : List Fired) (f : Fired) → AllByRecursion (λ g. comes_before f g ≡ true) ys → placed ys f ≡ f ∷ ys
placed_front [] f before = refl
placed_front (y ∷ ys) f before = ap (λ b. cond b (f ∷ y ∷ ys) (y ∷ placed ys f)) before.0

-- ---- the order, by class, place and number

before_class : (c d t u m n : ℕ) → c < d → cond (c == d) (cond (t == u) (nat_lt m n) (nat_lt t u)) (nat_lt c d) ≡ true
before_class c d t u m n less = grind (arith, nat_tests)

before_place : (c d t u m n : ℕ) → c ≡ d → t < u → cond (c == d) (cond (t == u) (nat_lt m n) (nat_lt t u)) (nat_lt c d) ≡ true
before_place c d t u m n same less = grind (arith, nat_tests)

behind_class : (c d t u m n : ℕ) → d < c → cond (c == d) (cond (t == u) (nat_lt m n) (nat_lt t u)) (nat_lt c d) ≡ false
behind_class c d t u m n less = grind (arith, nat_tests)

behind_place : (c d t u m n : ℕ) → c ≡ d → u < t → cond (c == d) (cond (t == u) (nat_lt m n) (nat_lt t u)) (nat_lt c d) ≡ false
behind_place c d t u m n same less = grind (arith, nat_tests)

behind_number : (c d t u m n : ℕ) → c ≡ d → t ≡ u → n < m → cond (c == d) (cond (t == u) (nat_lt m n) (nat_lt t u)) (nat_lt c d) ≡ false
behind_number c d t u m n same alike less = grind (arith, nat_tests)

-- a trigger stands before another one: in a class of a smaller number, or at a smaller place of its class
abbrev pub Precedes : Trigger → Trigger → Type 0
Precedes t u = (t.class < u.class) ⊎ ((t.class ≡ u.class) × (t.place < u.place))

-- each stands before the later ones
abbrev pub Rise : List Trigger → Type 0
Rise [] = Unit {0}
Rise (t ∷ ts) = AllByRecursion (Precedes t) ts × Rise ts

pub is_of_parts : (t : Trigger) (a : Running) → is_of t (activation_of a) ≡ true → (a.class ≡ t.class) × (a.trigger ≡ t.place)
is_of_parts t a is =
    let both : ((a.class == t.class) ≡ true) × ((a.trigger == t.place) ≡ true) = and_parts (a.class == t.class) (a.trigger == t.place) is in
    (eqb-true a.class t.class both.0, eqb-true a.trigger t.place both.1)

before : (a b : Running) (t u : Trigger) → is_of t (activation_of a) ≡ true → is_of u (activation_of b) ≡ true → Precedes t u → comes_before (fired_of a) (fired_of b) ≡ true
before a b t u is_t is_u (inl less) =
    let p = is_of_parts t a is_t in let q = is_of_parts u b is_u in
    before_class a.class b.class a.trigger b.trigger a.id b.id (omega (arith, p.0, q.0, less))
before a b t u is_t is_u (inr less) =
    let p = is_of_parts t a is_t in let q = is_of_parts u b is_u in
    before_place a.class b.class a.trigger b.trigger a.id b.id (omega (arith, p.0, q.0, less.0)) (omega (arith, p.1, q.1, less.1))

behind : (a b : Running) (t u : Trigger) → is_of t (activation_of b) ≡ true → is_of u (activation_of a) ≡ true → Precedes t u → comes_before (fired_of a) (fired_of b) ≡ false
behind a b t u is_t is_u (inl less) =
    let p = is_of_parts t b is_t in let q = is_of_parts u a is_u in
    behind_class a.class b.class a.trigger b.trigger a.id b.id (omega (arith, p.0, q.0, less))
behind a b t u is_t is_u (inr less) =
    let p = is_of_parts t b is_t in let q = is_of_parts u a is_u in
    behind_place a.class b.class a.trigger b.trigger a.id b.id (omega (arith, p.0, q.0, less.0)) (omega (arith, p.1, q.1, less.1))

behind_same : (a b : Running) (t : Trigger) → is_of t (activation_of a) ≡ true → is_of t (activation_of b) ≡ true → b.id < a.id → comes_before (fired_of a) (fired_of b) ≡ false
behind_same a b t is_a is_b less =
    let p = is_of_parts t a is_a in let q = is_of_parts t b is_b in
    behind_number a.class b.class a.trigger b.trigger a.id b.id (omega (arith, p.0, q.0)) (omega (arith, p.1, q.1)) less

-- one activation is of one trigger at most
apart : (a : Running) (t u : Trigger) → is_of t (activation_of a) ≡ true → is_of u (activation_of a) ≡ true → Precedes t u → ⊥
apart a t u is_t is_u (inl less) =
    let p = is_of_parts t a is_t in let q = is_of_parts u a is_u in
    absurd (omega (arith, p.0, q.0, less))
apart a t u is_t is_u (inr less) =
    let p = is_of_parts t a is_t in let q = is_of_parts u a is_u in
    absurd (omega (arith, p.1, q.1, less.1))

pub not_later : (a : Running) (t u : Trigger) → is_of t (activation_of a) ≡ true → Precedes t u → is_of u (activation_of a) ≡ false
not_later a t u is_t later = ⊎_elim (λ is_u. absurd (apart a t u is_t is_u later)) (λ no. no) (cases_Bool (is_of u (activation_of a)))

-- what holds where some trigger is an activation's
found_later : (C : Type 0) (P : Trigger → Type 0) (a : Running) (ts : List Trigger) → ((u : Trigger) → P u → is_of u (activation_of a) ≡ true → C)
    → list_any (λ u. is_of u (activation_of a)) ts ≡ true → AllByRecursion P ts → C
found_later C P a [] found any each = absurd (false≢true any)
found_later C P a (t ∷ ts) found any each =
    ⊎_elim (λ is. found t each.0 is) (λ more. found_later C P a ts found more each.1)
    (or_cases (is_of t (activation_of a)) (list_any (λ u. is_of u (activation_of a)) ts) any)

-- ---- the firings of each trigger
cond_each : (b : Bool) (P : Fired → Type 0) (a : Running) (rest : List Running) → (b ≡ true → P (fired_of a)) → AllByRecursion P (map fired_of rest)
    → AllByRecursion P (map fired_of (cond b (a ∷ rest) rest))
cond_each true P a rest here later = (here refl, later)
cond_each false P a rest here later = later

cond_fold : (b : Bool) (fired : List Fired) (a : Running) (rest : List Running)
    → fold placed fired (map fired_of (cond b (a ∷ rest) rest)) ≡ fold placed (one_more b fired a) (map fired_of rest)
cond_fold true fired a rest = refl
cond_fold false fired a rest = refl

module _ (goes : Running → Bool) where
  abbrev pub goes_of : Trigger → Running → Bool
  goes_of t a = is_of t (activation_of a) && goes a

  abbrev pub of_trigger : List Running → Trigger → List Fired
  of_trigger acts t = map fired_of (filter (goes_of t) acts)

  abbrev pub of_all : List Trigger → List Running → List Fired
  of_all ts acts = flat_map (of_trigger acts) ts

  each_of_trigger : (P : Fired → Type 0) (t : Trigger) (acts : List Running) → AllByRecursion (λ a. is_of t (activation_of a) ≡ true → P (fired_of a)) acts
      → AllByRecursion P (of_trigger acts t)
  each_of_trigger P t [] each = tt
  each_of_trigger P t (a ∷ acts) each =
      cond_each (goes_of t a) P a (filter (goes_of t) acts) (λ is. each.0 (and_parts (is_of t (activation_of a)) (goes a) is).0) (each_of_trigger P t acts each.1)

  pushed : (acts : List Running) (a : Running) (t : Trigger) (b : Bool) → goes_of t a ≡ b → of_trigger (acts ++ a ∷ []) t ≡ of_trigger acts t ++ map fired_of (cond b (a ∷ []) [])
  pushed acts a t b is =
      ap (map fired_of) (filter-append (goes_of t) acts (a ∷ []) ∙ ap (λ c. filter (goes_of t) acts ++ cond c (a ∷ []) []) is)
      ∙ map-append fired_of (filter (goes_of t) acts) (cond b (a ∷ []) [])

  -- an activation that doesn't fire by any of these triggers
  pushed_none : (ts : List Trigger) (acts : List Running) (a : Running) → AllByRecursion (λ t. goes_of t a ≡ false) ts → of_all ts (acts ++ a ∷ []) ≡ of_all ts acts
  pushed_none [] acts a none = refl
  pushed_none (t ∷ ts) acts a none =
      ap (λ (l : List Fired). l ++ of_all ts (acts ++ a ∷ [])) (pushed acts a t false none.0 ∙ append-nil (of_trigger acts t))
      ∙ ap (λ (l : List Fired). of_trigger acts t ++ l) (pushed_none ts acts a none.1)

  before_later : (ts : List Trigger) (acts : List Running) (a : Running) (t : Trigger) → is_of t (activation_of a) ≡ true → AllByRecursion (Precedes t) ts
      → AllByRecursion (λ f. comes_before (fired_of a) f ≡ true) (of_all ts acts)
  before_later [] acts a t is later = tt
  before_later (u ∷ ts) acts a t is later =
      each_append (λ (f : Fired). comes_before (fired_of a) f ≡ true) (of_trigger acts u) (of_all ts acts)
      (each_of_trigger (λ (f : Fired). comes_before (fired_of a) f ≡ true) u acts
      (each_of (λ (b : Running). is_of u (activation_of b) ≡ true → comes_before (fired_of a) (fired_of b) ≡ true) acts (λ b is_u. before a b t u is is_u later.0)))
      (before_later ts acts a t is later.1)

  -- one more activation of the first of these triggers, and of a later one
  pushed_here : (t : Trigger) (ts : List Trigger) (acts : List Running) (a : Running) → AllByRecursion (Precedes t) ts → AllByRecursion (λ (b : Running). b.id < a.id) acts → goes a ≡ true
      → is_of t (activation_of a) ≡ true → of_all (t ∷ ts) (acts ++ a ∷ []) ≡ placed (of_all (t ∷ ts) acts) (fired_of a)
  pushed_here t ts acts a later below fires is =
      ap (λ (l : List Fired). l ++ of_all ts (acts ++ a ∷ [])) (pushed acts a t true (and_from (is_of t (activation_of a)) (goes a) is fires))
      ∙ ap (λ (l : List Fired). (of_trigger acts t ++ fired_of a ∷ []) ++ l)
      (pushed_none ts acts a (each_as (Precedes t) (λ u. goes_of u a ≡ false) ts (λ u after. and_left (is_of u (activation_of a)) (goes a) (not_later a t u is after)) later))
      ∙ append_assoc (of_trigger acts t) (fired_of a ∷ []) (of_all ts acts)
      ∙ ap (λ (l : List Fired). of_trigger acts t ++ l) (sym (placed_front (of_all ts acts) (fired_of a) (before_later ts acts a t is later)))
      ∙ sym (placed_behind (of_trigger acts t) (of_all ts acts) (fired_of a)
      (each_of_trigger (λ (f : Fired). comes_before (fired_of a) f ≡ false) t acts
      (each_as (λ (b : Running). b.id < a.id) (λ (b : Running). is_of t (activation_of b) ≡ true → comes_before (fired_of a) (fired_of b) ≡ false) acts
      (λ b less is_b. behind_same a b t is is_b less) below)))

  pushed_later : (t : Trigger) (ts : List Trigger) (acts : List Running) (a : Running) → AllByRecursion (Precedes t) ts → list_any (λ u. is_of u (activation_of a)) ts ≡ true
      → is_of t (activation_of a) ≡ false → of_all ts (acts ++ a ∷ []) ≡ placed (of_all ts acts) (fired_of a)
      → of_all (t ∷ ts) (acts ++ a ∷ []) ≡ placed (of_all (t ∷ ts) acts) (fired_of a)
  pushed_later t ts acts a later any differs rest =
      ap (λ (l : List Fired). l ++ of_all ts (acts ++ a ∷ [])) (pushed acts a t false (and_left (is_of t (activation_of a)) (goes a) differs) ∙ append-nil (of_trigger acts t))
      ∙ ap (λ (l : List Fired). of_trigger acts t ++ l) rest
      ∙ sym (placed_behind (of_trigger acts t) (of_all ts acts) (fired_of a)
      (each_of_trigger (λ (f : Fired). comes_before (fired_of a) f ≡ false) t acts
      (each_of (λ (b : Running). is_of t (activation_of b) ≡ true → comes_before (fired_of a) (fired_of b) ≡ false) acts
      (λ b is_t. found_later (comes_before (fired_of a) (fired_of b) ≡ false) (Precedes t) a ts (λ u after is_u. behind a b t u is_t is_u after) any later))))

  pushed_one : (ts : List Trigger) (acts : List Running) (a : Running) → Rise ts → list_any (λ u. is_of u (activation_of a)) ts ≡ true
      → AllByRecursion (λ (b : Running). b.id < a.id) acts → goes a ≡ true → of_all ts (acts ++ a ∷ []) ≡ placed (of_all ts acts) (fired_of a)
  pushed_one [] acts a rise any below fires = absurd (false≢true any)
  pushed_one (t ∷ ts) acts a rise any below fires =
      ⊎_elim (pushed_here t ts acts a rise.0 below fires)
      (λ no.
      let more : list_any (λ u. is_of u (activation_of a)) ts ≡ true = subst (λ b. (b || list_any (λ u. is_of u (activation_of a)) ts) ≡ true) no any in
      pushed_later t ts acts a rise.0 more no (pushed_one ts acts a rise.1 more below fires))
      (cases_Bool (is_of t (activation_of a)))

  pushed_any : (ts : List Trigger) (acts : List Running) (a : Running) → Rise ts → list_any (λ u. is_of u (activation_of a)) ts ≡ true
      → AllByRecursion (λ (b : Running). b.id < a.id) acts → of_all ts (acts ++ a ∷ []) ≡ one_more (goes a) (of_all ts acts) a
  pushed_any ts acts a rise any below =
      ⊎_elim (λ fires. pushed_one ts acts a rise any below fires ∙ ap (λ b. one_more b (of_all ts acts) a) (sym fires))
      (λ no.
      pushed_none ts acts a (each_of (λ t. goes_of t a ≡ false) ts (λ t. and_right (is_of t (activation_of a)) (goes a) no))
      ∙ ap (λ b. one_more b (of_all ts acts) a) (sym no))
      (cases_Bool (goes a))

  of_nothing : (ts : List Trigger) → of_all ts [] ≡ []
  of_nothing [] = refl
  of_nothing (t ∷ ts) = of_nothing ts

  placed_all : (ts : List Trigger) (done rest : List Running) (low : ℕ) → Rise ts → AllByRecursion (λ (b : Running). b.id < low) done
      → RiseFrom low (map (λ (a : Running). a.id) rest) → AllByRecursion (λ a. list_any (λ u. is_of u (activation_of a)) ts ≡ true) rest
      → fold placed (of_all ts done) (map fired_of (filter goes rest)) ≡ of_all ts (done ++ rest)
  placed_all ts done [] low rise below rising had = ap (of_all ts) (sym (append-nil done))
  placed_all ts done (a ∷ rest) low rise below rising had =
      let up : low ≤ a.id = rising.0 in
      cond_fold (goes a) (of_all ts done) a (filter goes rest)
      ∙ ap (λ (l : List Fired). fold placed l (map fired_of (filter goes rest)))
      (sym (pushed_any ts done a rise had.0 (each_as (λ (b : Running). b.id < low) (λ (b : Running). b.id < a.id) done (λ b less. omega arith) below)))
      ∙ placed_all ts (done ++ a ∷ []) rest (a.id + 1) rise
      (each_append (λ (b : Running). b.id < a.id + 1) done (a ∷ []) (each_as (λ (b : Running). b.id < low) (λ (b : Running). b.id < a.id + 1) done (λ b less. omega arith) below) (omega arith, tt))
      rising.1 had.1
      ∙ ap (of_all ts) (append_assoc done (a ∷ []) rest)

  -- the firings in their order are those of one trigger after another
  pub placed_by_triggers : (ts : List Trigger) (acts : List Running) → Rise ts → RiseFrom 0 (map (λ (a : Running). a.id) acts)
      → AllByRecursion (λ a. list_any (λ u. is_of u (activation_of a)) ts ≡ true) acts → fold placed [] (map fired_of (filter goes acts)) ≡ of_all ts acts
  placed_by_triggers ts acts rise rising had =
      ap (λ (l : List Fired). fold placed l (map fired_of (filter goes acts))) (sym (of_nothing ts)) ∙ placed_all ts [] acts 0 rise tt rising had
