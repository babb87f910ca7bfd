-- Activations that go on by a point are the machine's, by numbers and by the lists of points.
use Rattle.std.proofs.Common.{◌≡◌, ℕ, Bool, true, false, cond, List, [], ◌∷◌, ◌++◌, map, ◌&&◌, Option, Some, None, refl, sym, ap, ◌∙◌, subst, arith, ⊎_elim, option_map, option_and_then, map-id, length-append}
use Rattle.std.specs.List.{AllByRecursion, filter, flat_map, find, list_any}
use Rattle.std.specs.Option.{option_map_or}
use Rattle.std.proofs.lemmas.Bool.{false≢true, cases_Bool}
use Rattle.std.proofs.lemmas.List.{map-append}
use Rattle.std.proofs.lemmas.Simd.{map-map}
use Rattle.ode_value.specs.declared.event.Point.{Point}
use Rattle.ode_value.specs.Classes.{Trigger, triggers_of, watch_of}
use Rattle.ode_value.specs.Firings.{is_of, watch_by, watch_at, firing_of, changed_row, both_lists, grown_past, is_firing, fired_by, fired_in}
use Rattle.ode_value.specs.Objects.{Activation, Histories, Starts, grown, view_of}
use Rattle.ode_value.specs.Pasts.{Past, Kept, Watch, lists, numbers, stepped, StandsFor}
use Rattle.ode_value.specs.Points.{fires_on}
use Rattle.ode_value.specs.Symbols.{Alphabet, symbol, symbol_among}
use Rattle.ode_value.specs.Tables.{Table, next_state, says_yes}
use Rattle.ode_value.specs.Worlds.{Declared, Object, kept_at}
use Rattle.ode_value.proofs.PastLaws.{step_stands, step_fires}
use Rattle.ode_types.specs.declared.running.Running.{Running}
use Rattle.ode_states.specs.declared.fired.Fired.{Fired}
use Rattle.ode_states.specs.Advance.{table_of, state_after, fires, advanced, fired_of}
use Rattle.ode_states.specs.Advance.{fired_in as fired_there}
use Rattle.ode_states.specs.Machine.{activation_of, row_of, fired_as, checked, IsOf, AreOf, IsStanding}
use Rattle.ode_states.proofs.KeptLaws.{each_both, map_alike, find_passes, find_any, kept_each, numbered, found_each}
use Rattle.ode_states.proofs.PlacedLaws.{each_of, each_as, Precedes, Rise, is_of_parts, not_later, of_trigger, of_all, placed_by_triggers}
use Rattle.ode_states.proofs.TriggerLaws.{triggers_rise}

-- ---- firings, whatever is kept
pub all_seen : (ts : List Trigger) → filter (λ (t : Trigger). true) ts ≡ ts
all_seen [] = refl
all_seen (t ∷ ts) = ap (λ (l : List Trigger). t ∷ l) (all_seen ts)

map_flat : {X A B : Type 0} (f : A → B) (g : X → List A) (xs : List X) → map f (flat_map g xs) ≡ flat_map (λ x. map f (g x)) xs
map_flat f g [] = refl
map_flat {B = B} f g (x ∷ xs) = map-append f (g x) (flat_map g xs) ∙ ap (λ (l : List B). map f (g x) ++ l) (map_flat f g xs)

flat_alike : {X A : Type 0} (f g : X → List A) (xs : List X) → AllByRecursion (λ x. f x ≡ g x) xs → flat_map f xs ≡ flat_map g xs
flat_alike f g [] alike = refl
flat_alike {A = A} f g (x ∷ xs) alike = ap (λ (l : List A). l ++ flat_map f xs) alike.0 ∙ ap (λ (l : List A). g x ++ l) (flat_alike f g xs alike.1)

fired_key : (o : Object) (t : Trigger) (a : Running) → is_of t (activation_of a) ≡ true → fired_as (firing_of o t (activation_of a)) ≡ fired_of a
fired_key o t a is =
    let parts = is_of_parts t a is in
    let with_key : ℕ → ℕ → Fired = λ class place. record { activation = a.id; class = class; trigger = place; args = a.args } in
    ap (λ c. with_key c t.place) (sym parts.0) ∙ ap (with_key a.class) (sym parts.1)

kept_or_not : (b fires goes : Bool) (o : Object) (t : Trigger) (a : Running) (l : List Activation) (m : List Running)
    → map fired_as (map (firing_of o t) l) ≡ map fired_of m → (b ≡ true → fires ≡ goes) → (b ≡ true → fired_as (firing_of o t (activation_of a)) ≡ fired_of a)
    → map fired_as (map (firing_of o t) (cond (b && fires) (activation_of a ∷ l) l)) ≡ map fired_of (cond (b && goes) (a ∷ m) m)
kept_or_not false fires goes o t a l m rest alike key = rest
kept_or_not true true true o t a l m rest alike key =
    ap (λ (f : Fired). f ∷ map fired_as (map (firing_of o t) l)) (key refl) ∙ ap (λ (fs : List Fired). fired_of a ∷ fs) rest
kept_or_not true true false o t a l m rest alike key = absurd (false≢true (sym (alike refl)))
kept_or_not true false true o t a l m rest alike key = absurd (false≢true (alike refl))
kept_or_not true false false o t a l m rest alike key = rest

module _ {O A : Type 0} (past : Past O A) (o : Object) (kept : Kept O A) (goes : Running → Bool) where
  -- an activation of a trigger fires by what is kept exactly where it goes
  abbrev pub Agrees : Trigger → Running → Type 0
  Agrees t a = is_of t (activation_of a) ≡ true → is_firing past kept t (activation_of a) ≡ goes a

  fired_by_one : (t : Trigger) (acts : List Running) → AllByRecursion (Agrees t) acts
      → map fired_as (map (firing_of o t) (filter (λ x. is_of t x && is_firing past kept t x) (map activation_of acts))) ≡ of_trigger goes acts t
  fired_by_one t [] agree = refl
  fired_by_one t (a ∷ acts) agree =
      kept_or_not (is_of t (activation_of a)) (is_firing past kept t (activation_of a)) (goes a) o t a
      (filter (λ x. is_of t x && is_firing past kept t x) (map activation_of acts)) (filter (λ x. is_of t (activation_of x) && goes x) acts)
      (fired_by_one t acts agree.1) agree.0 (fired_key o t a)

  pub fired_as_placed : (acts : List Running) (ts : List Trigger) → o.activations ≡ map activation_of acts → AllByRecursion (λ t. AllByRecursion (Agrees t) acts) ts
      → map fired_as (flat_map (fired_by past o kept) (filter (λ (t : Trigger). true) ts)) ≡ of_all goes ts acts
  fired_as_placed acts ts is agree =
      ap (λ (l : List Trigger). map fired_as (flat_map (fired_by past o kept) l)) (all_seen ts)
      ∙ map_flat fired_as (fired_by past o kept) ts
      ∙ flat_alike (λ t. map fired_as (fired_by past o kept t)) (of_trigger goes acts) ts
      (each_as (λ t. AllByRecursion (Agrees t) acts) (λ t. map fired_as (fired_by past o kept t) ≡ of_trigger goes acts t) ts
      (λ t here.
      ap (λ (l : List Activation). map fired_as (map (firing_of o t) (filter (λ x. is_of t x && is_firing past kept t x) l))) is
      ∙ fired_by_one t acts here) agree)

-- ---- lists
each_across : {X Y : Type 0} (R : Y → X → Type 0) (xs : List X) (ys : List Y) → AllByRecursion (λ x. AllByRecursion (λ y. R y x) ys) xs → AllByRecursion (λ y. AllByRecursion (R y) xs) ys
each_across R [] ys each = each_of (λ y. AllByRecursion (R y) []) ys (λ y. tt)
each_across R (x ∷ xs) ys each =
    each_both (λ y. R y x) (λ y. AllByRecursion (R y) xs) (λ y. AllByRecursion (R y) (x ∷ xs)) ys (λ y here later. (here, later)) each.0 (each_across R xs ys each.1)

each_map : {X Y : Type 0} (P : Y → Type 0) (f : X → Y) (xs : List X) → AllByRecursion (λ x. P (f x)) xs → AllByRecursion P (map f xs)
each_map P f [] each = tt
each_map P f (x ∷ xs) each = (each.0, each_map P f xs each.1)

start_stays : {K : Type 0} (w : Option Watch) (k : K) → option_map_or (λ (w : Watch). k) w k ≡ k
start_stays None k = refl
start_stays (Some w) k = refl

-- an activation is of one trigger of those that rise, the one that a search finds
one_trigger : (a : Running) (trigger : Trigger) (ts : List Trigger) → Rise ts → find (λ t. is_of t (activation_of a)) ts ≡ Some trigger
    → AllByRecursion (λ t. is_of t (activation_of a) ≡ true → t ≡ trigger) ts
one_trigger a trigger [] rise found = tt
one_trigger a trigger (t ∷ ts) rise found =
    ⊎_elim
    (λ is.
    let first : Some t ≡ Some trigger = subst (λ b. cond b (Some t) (find (λ t. is_of t (activation_of a)) ts) ≡ Some trigger) is found in
    let same : t ≡ trigger = cc in (
      (λ _. same),
      each_as (Precedes t) (λ u. is_of u (activation_of a) ≡ true → u ≡ trigger) ts
          (λ u after is_u. absurd (false≢true (sym (not_later a t u is after) ∙ is_u))) rise.0,
    ))
    (λ no. (
      (λ is. absurd (false≢true (sym no ∙ is))),
      one_trigger a trigger ts rise.1 (subst (λ b. cond b (Some t) (find (λ t. is_of t (activation_of a)) ts) ≡ Some trigger) no found),
    ))
    (cases_Bool (is_of t (activation_of a)))

-- ---- by tables
module _ (by : ℕ → ℕ → Table) (tables : List Table) (alphabets : List Alphabet) (classes : List Declared) (p : Point) where
  abbrev Of : ℕ → Running → Type 0
  Of = IsOf by tables alphabets classes

  abbrev after : Running → ℕ
  after = state_after tables alphabets p

  table_is : (class : ℕ) (a : Running) (of : Of class a) → by of.trigger.class of.trigger.place ≡ table_of tables a
  table_is class a of =
      let parts = is_of_parts of.trigger a (find_passes (λ t. is_of t (activation_of a)) (triggers_of classes class) of.trigger of.had) in
      ap (λ c. by c of.trigger.place) (sym parts.0) ∙ ap (by a.class) (sym parts.1) ∙ sym of.table

  -- the state behind the point is what the watch's table gives
  state_is : (class : ℕ) (a : Running) (of : Of class a) → stepped by (watch_of of.trigger a.args) a.state p ≡ after a
  state_is class a of =
      ap (λ (t : Table). next_state t a.state (symbol of.trigger.decl.event a.args p)) (table_is class a of)
      ∙ ap (λ (rows : Alphabet). next_state (table_of tables a) a.state (symbol_among rows a.args p)) (sym of.alphabet)

  watch_is : (o : Object) (acts : List Running) → o.activations ≡ map activation_of acts → (class : ℕ) (a : Running) (of : Of class a)
      → numbered a.id (map activation_of acts) ≡ Some (activation_of a) → watch_at classes o a.id ≡ Some (watch_of of.trigger a.args)
  watch_is o acts is class a of found =
      ap (λ (l : List Activation). option_and_then (watch_by classes) (numbered a.id l)) is
      ∙ ap (option_and_then (watch_by classes)) found
      ∙ ap (option_map (λ (t : Trigger). watch_of t a.args)) of.declared

  -- its number stands afterwards for its view with the point
  pub stands_behind : (class : ℕ) (h : Histories) (starts : ℕ → Starts) (a : Running) → IsStanding by tables alphabets classes class h starts a
      → IsStanding by tables alphabets classes class (grown h p) starts (advanced tables alphabets (checked classes) p a)
  stands_behind class h starts a standing =
      let w = watch_of standing.of.trigger a.args in
      record {
        of = record {
          trigger = standing.of.trigger;
          declared = standing.of.declared;
          had = standing.of.had;
          table = standing.of.table;
          alphabet = standing.of.alphabet;
        };
        means = standing.means;
        within = record {
          whole = omega (arith, standing.within.whole, length-append h.whole (p ∷ []));
          committed = omega (arith, standing.within.committed, length-append h.committed (p ∷ []));
        };
        stands = subst (StandsFor by w (grown h p) (starts a.id)) (state_is class a standing.of)
            (step_stands by w standing.means h (starts a.id) a.state p standing.within standing.stands);
      }

  pub all_stand_behind : (class : ℕ) (acts : List Running) (h : Histories) (starts : ℕ → Starts) → AllByRecursion (IsStanding by tables alphabets classes class h starts) acts
      → AllByRecursion (IsStanding by tables alphabets classes class (grown h p) starts) (map (advanced tables alphabets (checked classes) p) acts)
  all_stand_behind class acts h starts standing =
      each_map (IsStanding by tables alphabets classes class (grown h p) starts) (advanced tables alphabets (checked classes) p) acts
      (each_as (IsStanding by tables alphabets classes class h starts) (λ a. IsStanding by tables alphabets classes class (grown h p) starts (advanced tables alphabets (checked classes) p a)) acts
      (λ a stands. stands_behind class h starts a stands) standing)

  -- the view fires the trigger exactly where the state does
  view_says : (class : ℕ) (h : Histories) (starts : ℕ → Starts) (a : Running) (standing : IsStanding by tables alphabets classes class h starts a)
      → fires_on standing.of.trigger.decl.event a.args (view_of standing.of.trigger.decl.whole (grown h p) (starts a.id)) ≡ says_yes (table_of tables a) (after a)
  view_says class h starts a standing =
      let w = watch_of standing.of.trigger a.args in
      sym (step_fires by w standing.means h (starts a.id) a.state p standing.within standing.stands)
      ∙ ap (says_yes (by w.class w.trigger)) (state_is class a standing.of)
      ∙ ap (λ (x : Table). says_yes x (after a)) (table_is class a standing.of)

  module _ (o : Object) (acts : List Running) (are : AreOf by tables alphabets classes o acts) where
    abbrev behind : List Running
    behind = map (advanced tables alphabets (checked classes) p) acts

    had_each : AllByRecursion (λ a. list_any (λ t. is_of t (activation_of a)) (triggers_of classes o.class) ≡ true) acts
    had_each =
        each_as (Of o.class) (λ a. list_any (λ t. is_of t (activation_of a)) (triggers_of classes o.class) ≡ true) acts
        (λ a of. find_any (λ t. is_of t (activation_of a)) (triggers_of classes o.class) of.trigger of.had) are.each

    watch_each : AllByRecursion (λ a. (of : Of o.class a) → watch_at classes o a.id ≡ Some (watch_of of.trigger a.args)) acts
    watch_each =
        each_as (λ a. numbered a.id (map activation_of acts) ≡ Some (activation_of a)) (λ a. (of : Of o.class a) → watch_at classes o a.id ≡ Some (watch_of of.trigger a.args)) acts
        (λ a found of. watch_is o acts are.activations o.class a of found) (found_each acts are.rising)

    -- the rows of states
    pub numbers_go_on : (kept : Kept (Unit {0}) ℕ) → kept.activations ≡ map (row_of (λ (a : Running). a.state)) acts
        → (grown_past (numbers by) (both_lists (numbers by)) p classes o kept).activations ≡ map (row_of (λ (a : Running). a.state)) behind
    numbers_go_on kept is =
        let change = changed_row (λ (number : ℕ) (w : Watch) (s : ℕ). stepped by w s p) (watch_at classes o) in
        ap (map change) is
        ∙ map-map change (row_of (λ (a : Running). a.state)) acts
        ∙ map_alike (λ a. change (row_of (λ (b : Running). b.state) a)) (row_of after) acts
        (each_both (Of o.class) (λ a. (of : Of o.class a) → watch_at classes o a.id ≡ Some (watch_of of.trigger a.args)) (λ a. change (row_of (λ (b : Running). b.state) a) ≡ row_of after a) acts
        (λ a of watch. ap (λ (w : Option Watch). (a.id, option_map_or (λ w. stepped by w a.state p) w a.state)) (watch of) ∙ ap (λ (s : ℕ). (a.id, s)) (state_is o.class a of))
        are.each watch_each)
        ∙ sym (map-map (row_of (λ (a : Running). a.state)) (advanced tables alphabets (checked classes) p) acts)

    goes_by : (t : Trigger) (kept : Kept (Unit {0}) ℕ) (a : Running) → Of o.class a → kept_at a.id kept.activations ≡ Some (after a) → is_of t (activation_of a) ≡ true
        → is_firing (numbers by) kept t (activation_of a) ≡ fires tables alphabets p a
    goes_by t kept a of found is =
        let parts = is_of_parts t a is in
        let table : by t.class t.place ≡ table_of tables a = ap (λ c. by c t.place) (sym parts.0) ∙ ap (by a.class) (sym parts.1) ∙ sym of.table in
        ap (λ (s : Option ℕ). a.on && option_map_or (λ s. says_yes (by t.class t.place) s) s false) found
        ∙ ap (λ (x : Table). a.on && says_yes x (after a)) table

    pub numbers_agree : (kept : Kept (Unit {0}) ℕ) → kept.activations ≡ map (row_of (λ (a : Running). a.state)) acts
        → AllByRecursion (λ t. AllByRecursion (Agrees (numbers by) o (grown_past (numbers by) (both_lists (numbers by)) p classes o kept) (fires tables alphabets p) t) acts) (triggers_of classes o.class)
    numbers_agree kept is =
        let now = grown_past (numbers by) (both_lists (numbers by)) p classes o kept in
        let rows : now.activations ≡ map (row_of after) acts =
        numbers_go_on kept is ∙ map-map (row_of (λ (a : Running). a.state)) (advanced tables alphabets (checked classes) p) acts in
        let found : AllByRecursion (λ a. kept_at a.id now.activations ≡ Some (after a)) acts =
        subst (λ l. AllByRecursion (λ a. kept_at a.id l ≡ Some (after a)) acts) (sym rows) (kept_each after acts are.rising) in
        each_of (λ t. AllByRecursion (Agrees (numbers by) o now (fires tables alphabets p) t) acts) (triggers_of classes o.class)
        (λ t. each_both (Of o.class) (λ a. kept_at a.id now.activations ≡ Some (after a)) (Agrees (numbers by) o now (fires tables alphabets p) t) acts
        (λ a of there is_t. goes_by t now a of there is_t) are.each found)

    -- the firings by states
    pub numbers_fire : (kept : Kept (Unit {0}) ℕ) → kept.activations ≡ map (row_of (λ (a : Running). a.state)) acts
        → map fired_as (fired_in (numbers by) (both_lists (numbers by)) o classes (grown_past (numbers by) (both_lists (numbers by)) p classes o kept))
        ≡ fired_there tables alphabets (checked classes) p acts
    numbers_fire kept is =
        let now = grown_past (numbers by) (both_lists (numbers by)) p classes o kept in
        fired_as_placed (numbers by) o now (fires tables alphabets p) acts (triggers_of classes o.class) are.activations (numbers_agree kept is)
        ∙ sym (placed_by_triggers (fires tables alphabets p) (triggers_of classes o.class) acts (triggers_rise classes o.class are.rising_classes) are.rising had_each)

    -- ---- by the lists of points
    view_fires : (h : Histories) (starts : ℕ → Starts) (kept : Kept Histories Starts) → kept.own ≡ grown h p → (a : Running) (standing : IsStanding by tables alphabets classes o.class h starts a)
        → kept_at a.id kept.activations ≡ Some (starts a.id) → (t : Trigger) → t ≡ standing.of.trigger → is_firing lists kept t (activation_of a) ≡ fires tables alphabets p a
    view_fires h starts kept own a standing found t one =
        ap (λ (u : Trigger). is_firing lists kept u (activation_of a)) one
        ∙ ap (λ (s : Option Starts). a.on && option_map_or (λ s. fires_on standing.of.trigger.decl.event a.args (view_of standing.of.trigger.decl.whole kept.own s)) s false) found
        ∙ ap (λ (g : Histories). a.on && fires_on standing.of.trigger.decl.event a.args (view_of standing.of.trigger.decl.whole g (starts a.id))) own
        ∙ ap (λ b. a.on && b) (view_says o.class h starts a standing)

    -- the rows of starts stay
    starts_stay : (starts : ℕ → Starts) (kept : Kept Histories Starts) → kept.activations ≡ map (row_of (λ (a : Running). starts a.id)) acts
        → (grown_past lists (both_lists lists) p classes o kept).activations ≡ map (row_of (λ (a : Running). starts a.id)) acts
    starts_stay starts kept is =
        let change = changed_row (λ (number : ℕ) (w : Watch) (s : Starts). s) (watch_at classes o) in
        map_alike change (λ r. r) kept.activations (each_of (λ r. change r ≡ r) kept.activations (λ r. ap (λ (s : Starts). (r.0, s)) (start_stays (watch_at classes o r.0) r.1)))
        ∙ map-id kept.activations ∙ is

    views_agree : (h : Histories) (starts : ℕ → Starts) (kept : Kept Histories Starts) → kept.own ≡ grown h p → (a : Running) → IsStanding by tables alphabets classes o.class h starts a
        → kept_at a.id kept.activations ≡ Some (starts a.id) → AllByRecursion (λ t. Agrees lists o kept (fires tables alphabets p) t a) (triggers_of classes o.class)
    views_agree h starts kept own a standing found =
        each_as (λ t. is_of t (activation_of a) ≡ true → t ≡ standing.of.trigger) (λ t. Agrees lists o kept (fires tables alphabets p) t a) (triggers_of classes o.class)
        (λ t one is. view_fires h starts kept own a standing found t (one is))
        (one_trigger a standing.of.trigger (triggers_of classes o.class) (triggers_rise classes o.class are.rising_classes) standing.of.had)

    -- the firings by views
    pub views_fire : (starts : ℕ → Starts) (kept : Kept Histories Starts) → kept.activations ≡ map (row_of (λ (a : Running). starts a.id)) acts
        → AllByRecursion (IsStanding by tables alphabets classes o.class kept.own starts) acts
        → map fired_as (fired_in lists (both_lists lists) o classes (grown_past lists (both_lists lists) p classes o kept)) ≡ fired_there tables alphabets (checked classes) p acts
    views_fire starts kept is standing =
        let now = grown_past lists (both_lists lists) p classes o kept in
        let found : AllByRecursion (λ a. kept_at a.id now.activations ≡ Some (starts a.id)) acts =
        subst (λ l. AllByRecursion (λ a. kept_at a.id l ≡ Some (starts a.id)) acts) (sym (starts_stay starts kept is)) (kept_each (λ (a : Running). starts a.id) acts are.rising) in
        fired_as_placed lists o now (fires tables alphabets p) acts (triggers_of classes o.class) are.activations
        (each_across (Agrees lists o now (fires tables alphabets p)) acts (triggers_of classes o.class)
        (each_both (IsStanding by tables alphabets classes o.class kept.own starts) (λ a. kept_at a.id now.activations ≡ Some (starts a.id))
        (λ a. AllByRecursion (λ t. Agrees lists o now (fires tables alphabets p) t a) (triggers_of classes o.class)) acts
        (λ a stands there. views_agree kept.own starts now refl a stands there) standing found))
        ∙ sym (placed_by_triggers (fires tables alphabets p) (triggers_of classes o.class) acts (triggers_rise classes o.class are.rising_classes) are.rising had_each)
