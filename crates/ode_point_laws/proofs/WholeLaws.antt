-- At an abort the activations that see whole histories go on alone, and alone they fire.
use Rattle.std.proofs.Common.{◌≡◌, ◌==◌, ℕ, ◌+◌, ◌<◌, ◌≤◌, List, [], ◌∷◌, map, Bool, true, false, cond, not, Option, Some, None, refl, sym, ap, subst, ◌∙◌, arith}
use Rattle.std.proofs.lemmas.Bool.{and_parts, eq-eqb, eqb-true, false≢true}
use Rattle.std.proofs.lemmas.Bool.Decides.{nat_tests}
use Rattle.std.proofs.lemmas.List.Folds.{list_any-append}
use Rattle.std.proofs.lemmas.Simd.{map-map}
use Rattle.std.specs.Prelude.{◌&&◌, ◌||◌, slice_get}
use Rattle.std.specs.List.{AllByRecursion, filter, find, flat_map, list_any}
use Rattle.std.specs.Option.{option_and_then, option_map, option_map_or}
use Rattle.ode_point_laws.specs.Points.{sees_whole, whole_fired}
use Rattle.ode_laws.proofs.Each.{all-filter, all-passing, flat_same}
use Rattle.ode_laws.proofs.Numbers.{IsPlaced, rise_filter, triggers_placed}
use Rattle.ode_objects.specs.Rewinding as rewinding
use Rattle.ode_objects.specs.Rewinding.{sees_in}
use Rattle.ode_states.proofs.EndLaws.{ends_as}
use Rattle.ode_states.proofs.KeptLaws.{each_both, find_any, found_each, kept_each, map_alike, numbered}
use Rattle.ode_states.proofs.MachineLaws.{Agrees, all_seen, fired_as_placed, numbers_go_on}
use Rattle.ode_states.proofs.PlacedLaws.{Precedes, Rise, each_as, goes_of, is_of_parts, of_all, of_trigger, placed_by_triggers}
use Rattle.ode_states.proofs.TriggerLaws.{triggers_rise}
use Rattle.ode_states.specs.Advance.{advanced, fired_of, fires, once, state_after, table_of}
use Rattle.ode_states.specs.Machine.{AreOf, IsOf, activation_of, checked, fired_as, row_of, state_of}
use Rattle.ode_types.specs.Families.{class_numbered}
use Rattle.ode_types.specs.declared.running.Running.{Running}
use Rattle.ode_value.specs.Classes.{Trigger, trigger_at, trigger_of, triggers_of, watch_of}
use Rattle.ode_value.specs.Firings.{after_firings, changed_row, ends_by, fired_by, fired_in, firing_of, grown_past, is_firing, is_of, object_after, watch_at, watch_by, whole_list}
use Rattle.ode_value.specs.GoodWorlds.{RiseFrom}
use Rattle.ode_value.specs.Objects.{Activation}
use Rattle.ode_value.specs.Pasts.{Kept, Watch, numbers, stepped}
use Rattle.ode_value.specs.Symbols.{Alphabet}
use Rattle.ode_value.specs.Tables.{Table, says_yes}
use Rattle.ode_value.specs.Transactions.{Firing}
use Rattle.ode_value.specs.Worlds as worlds
use Rattle.ode_value.specs.Worlds.{Declared, kept_at}
use Rattle.ode_value.specs.declared.class.Class.{Class}
use Rattle.ode_value.specs.declared.event.Point.{Point}
use Rattle.ode_value.specs.declared.member.TriggerDecl.{TriggerDecl}

-- a state by a number
abbrev row : ℕ → ℕ → ℕ × ℕ
row number state = (number, state)

-- ---- lists

head_or : {B : Type 0} → B → List B → B
head_or b [] = b
head_or b (c ∷ cs) = c

tail_of : {B : Type 0} → List B → List B
tail_of [] = []
tail_of (c ∷ cs) = cs

-- where two maps are the same, each member's are
map_each : {A B : Type 0} (f g : A → B) (xs : List A) → map f xs ≡ map g xs → AllByRecursion (λ x. f x ≡ g x) xs
unfolding head_or tail_of
map_each f g [] same = tt
map_each {A} {B} f g (x ∷ xs) same = (ap (head_or (f x)) same, map_each f g xs (ap (λ (ys : List B). tail_of ys) same))

find_kept : {X : Type 0} (p q : X → Bool) (xs : List X) (x : X) → find p xs ≡ Some x → q x ≡ true → find p (filter q xs) ≡ Some x
find_kept p q [] x is goes = absurd (cc)
find_kept {X} p q (y ∷ ys) x is goes = by_tests (p y) (q y) refl refl is (λ e. find_kept p q ys x e goes) where
  by_tests : (a b : Bool) → p y ≡ a → q y ≡ b → cond a (Some y) (find p ys) ≡ Some x → (find p ys ≡ Some x → find p (filter q ys) ≡ Some x) → find p (cond b (y ∷ filter q ys) (filter q ys)) ≡ Some x
  by_tests true true e f found more = ap (λ t. cond t (Some y) (find p (filter q ys))) e ∙ found
  by_tests true false e f found more = let same : y ≡ x = cc in absurd (false≢true (sym f ∙ ap q same ∙ goes))
  by_tests false true e f found more = ap (λ t. cond t (Some y) (find p (filter q ys))) e ∙ more found
  by_tests false false e f found more = more found

-- a test that asks for more
filter_within : {X : Type 0} (p q : X → Bool) (xs : List X) → AllByRecursion (λ x. p x ≡ true → q x ≡ true) xs → filter p (filter q xs) ≡ filter p xs
filter_within p q [] all = refl
filter_within {X} p q (x ∷ xs) all = by_tests (p x) (q x) refl refl all.0 (filter_within p q xs all.1) where
  by_tests : (a b : Bool) → p x ≡ a → q x ≡ b → (p x ≡ true → q x ≡ true) → filter p (filter q xs) ≡ filter p xs → filter p (cond b (x ∷ filter q xs) (filter q xs)) ≡ cond a (x ∷ filter p xs) (filter p xs)
  by_tests true true e f then more = ap (λ t. cond t (x ∷ filter p (filter q xs)) (filter p (filter q xs))) e ∙ ap (λ (ys : List X). x ∷ ys) more
  by_tests false true e f then more = ap (λ t. cond t (x ∷ filter p (filter q xs)) (filter p (filter q xs))) e ∙ more
  by_tests true false e f then more = absurd (false≢true (sym f ∙ then e))
  by_tests false false e f then more = more

none_flat : {X Y : Type 0} (p : Y → Bool) (f : X → List Y) (xs : List X) → AllByRecursion (λ x. list_any p (f x) ≡ false) xs → list_any p (flat_map f xs) ≡ false
none_flat p f [] all = refl
none_flat p f (x ∷ xs) all = list_any-append p (f x) (flat_map f xs) ∙ ap (λ b. b || list_any p (flat_map f xs)) all.0 ∙ none_flat p f xs all.1

rise_some : (p : Trigger → Bool) (ts : List Trigger) → Rise ts → Rise (filter p ts)
rise_some p [] rise = tt
rise_some p (t ∷ ts) rise = by_test (p t) (rise_some p ts rise.1) where
  by_test : (b : Bool) → Rise (filter p ts) → Rise (cond b (t ∷ filter p ts) (filter p ts))
  by_test true more = (all-filter (Precedes t) p ts rise.0, more)
  by_test false more = more

-- ---- one activation has a number

abbrev has : (Running → Bool) → ℕ → Running → Bool
has q n b = (b.id == n) && q b

differs : (a b : ℕ) → a < b → (b == a) ≡ false
differs a b less = grind (arith, nat_tests)

differs_back : (a b : ℕ) → a < b → (a == b) ≡ false
differs_back a b less = grind (arith, nat_tests)

none_above : (q : Running → Bool) (n low : ℕ) (acts : List Running) → n < low → RiseFrom low (map (λ (a : Running). a.id) acts) → list_any (has q n) acts ≡ false
none_above q n low [] less rise = refl
none_above q n low (b ∷ acts) less rise =
    let up : low ≤ b.id = rise.0 in
    ap (λ t. (t && q b) || list_any (has q n) acts) (differs n b.id (omega arith)) ∙ none_above q n (b.id + 1) acts (omega arith) rise.1

or_none : (b : Bool) → (b || false) ≡ b
or_none true = refl
or_none false = refl

one_each : (low : ℕ) (acts : List Running) → RiseFrom low (map (λ (a : Running). a.id) acts) → AllByRecursion (λ a. (q : Running → Bool) → list_any (has q a.id) acts ≡ q a) acts
one_each low [] rise = tt
one_each low (a ∷ acts) rise = (
  (λ q.
      ap (λ t. (t && q a) || list_any (has q a.id) acts) (eq-eqb a.id a.id refl)
      ∙ ap (λ b. q a || b) (none_above q a.id (a.id + 1) acts (omega arith) rise.1) ∙ or_none (q a)),
  behind acts (a.id + 1) (omega arith) rise.1 (one_each (a.id + 1) acts rise.1),
)
  where
    behind : (more : List Running) (from : ℕ) → a.id < from → RiseFrom from (map (λ (b : Running). b.id) more) → AllByRecursion (λ b. (q : Running → Bool) → list_any (has q b.id) acts ≡ q b) more
        → AllByRecursion (λ b. (q : Running → Bool) → list_any (has q b.id) (a ∷ acts) ≡ q b) more
    behind [] from less rises all = tt
    behind (b ∷ more) from less rises all =
        let up : from ≤ b.id = rises.0 in
        ((λ q. ap (λ t. (t && q a) || list_any (has q b.id) acts) (differs_back a.id b.id (omega arith)) ∙ all.0 q), behind more (b.id + 1) (omega arith) rises.1 all.1)

-- ---- the declaration of an activation's trigger

class_same : (classes : List Declared) (n : ℕ) → class_numbered (checked classes) n ≡ worlds.class_numbered n classes
class_same [] n = refl
class_same (d ∷ ds) n = ap (λ (c : Option Class). cond (d.class.number == n) (Some d.class) c) (class_same ds n)

abbrev decl_in : ℕ → Option Class → Option TriggerDecl
decl_in place c = option_and_then (λ (d : Class). slice_get d.triggers place) c

decl_at : (classes : List Declared) (class place : ℕ) (t : Trigger) → trigger_at classes class place ≡ Some t → decl_in place (class_numbered (checked classes) class) ≡ Some t.decl
decl_at classes class place t is = ap (decl_in place) (class_same classes class) ∙ by_decl (decl_in place (worlds.class_numbered class classes)) is where
  by_decl : (d : Option TriggerDecl) → option_map (λ u. trigger_of class (place, u)) d ≡ Some t → d ≡ Some t.decl
  by_decl None e = absurd (cc)
  by_decl (Some d) e = let same : trigger_of class (place, d) ≡ t = cc in ap (λ (u : Trigger). Some u.decl) same

sees_by : (place : ℕ) (c : Option Class) → sees_in c place ≡ rewinding.sees_whole (decl_in place c)
sees_by place None = refl
sees_by place (Some c) = refl

-- ---- the law

module _ (by : ℕ → ℕ → Table) (tables : List Table) (alphabets : List Alphabet) (classes : List Declared) (p : Point) (o : worlds.Object) (acts : List Running)
    (are : AreOf by tables alphabets classes o acts) (kept : Kept (Unit {0}) ℕ) (is : kept.activations ≡ map (row_of state_of) acts) where
  abbrev Of : Running → Type 0
  Of = IsOf by tables alphabets classes o.class

  abbrev whole : Running → Bool
  whole = sees_whole (checked classes)

  abbrev on : Running → Running
  on = advanced tables alphabets (checked classes) p

  abbrev goes : Running → Bool
  goes = fires tables alphabets p

  abbrev one_behind : Running → Running
  one_behind a = cond (whole a) (on a) a

  abbrev now : Kept (Unit {0}) ℕ
  now = grown_past (numbers by) (whole_list (numbers by)) p classes o kept

  abbrev seen : List Trigger
  seen = filter (λ (t : Trigger). t.decl.whole) (triggers_of classes o.class)

  abbrev firings : List Firing
  firings = fired_in (numbers by) (whole_list (numbers by)) o classes now

  whole_is : (a : Running) (of : Of a) → whole a ≡ of.trigger.decl.whole
  whole_is a of = sees_by a.trigger (class_numbered (checked classes) a.class) ∙ ap rewinding.sees_whole (decl_at classes a.class a.trigger of.trigger of.declared)

  once_is : (a : Running) (of : Of a) → once (checked classes) a ≡ not of.trigger.decl.perpetual
  once_is a of = ap (λ (d : Option TriggerDecl). option_map_or (λ (t : TriggerDecl). not t.perpetual) d false) (decl_at classes a.class a.trigger of.trigger of.declared)

  same_trigger : (a : Running) (of : Of a) (t : Trigger) → IsPlaced classes t → is_of t (activation_of a) ≡ true → of.trigger ≡ t
  same_trigger a of t place is_t =
      let parts = is_of_parts t a is_t in
      let both : Some of.trigger ≡ Some t =
      sym of.declared ∙ ap (λ c. trigger_at classes c a.trigger) parts.0 ∙ ap (trigger_at classes t.class) parts.1 ∙ place in
      cc

  sees_so : (a : Running) (of : Of a) (t : Trigger) → IsPlaced classes t → t.decl.whole ≡ true → is_of t (activation_of a) ≡ true → whole a ≡ true
  sees_so a of t place sees is_t = whole_is a of ∙ ap (λ (u : Trigger). u.decl.whole) (same_trigger a of t place is_t) ∙ sees

  -- ---- states

  found_all : AllByRecursion (λ a. numbered a.id (map activation_of acts) ≡ Some (activation_of a)) acts
  found_all = found_each acts are.rising

  watch_is : (a : Running) (of : Of a) → numbered a.id (map activation_of acts) ≡ Some (activation_of a) → watch_at classes o a.id ≡ Some (watch_of of.trigger a.args)
  watch_is a of found =
      ap (λ (l : List Activation). option_and_then (watch_by classes) (numbered a.id l)) are.activations
      ∙ ap (option_and_then (watch_by classes)) found
      ∙ ap (option_map (λ (t : Trigger). watch_of t a.args)) of.declared

  abbrev stepped_in : Running → Option Watch → ℕ
  stepped_in a w = option_map_or (λ (v : Watch). stepped by v a.state p) w a.state

  abbrev stepped_whole : Running → Option Watch → ℕ
  stepped_whole a w = option_map_or (λ (v : Watch). cond v.whole (stepped by v a.state p) a.state) w a.state

  -- each one's step by its watch
  steps : AllByRecursion (λ a. row a.id (stepped_in a (watch_at classes o a.id)) ≡ row_of state_of (on a)) acts
  steps =
      let change = changed_row (λ (number : ℕ) (w : Watch) (s : ℕ). stepped by w s p) (watch_at classes o) in
      map_each (λ a. row a.id (stepped_in a (watch_at classes o a.id))) (λ a. row_of state_of (on a)) acts
      (sym (map-map change (row_of state_of) acts) ∙ numbers_go_on by tables alphabets classes p o acts are (record { own = tt; activations = map (row_of state_of) acts }) refl
      ∙ map-map (row_of state_of) on acts)

  row_by : (a : Running) (b : Bool) → row a.id (cond b (on a).state a.state) ≡ row a.id (cond b (on a) a).state
  row_by a true = refl
  row_by a false = refl

  state_behind : (a : Running) → Of a → numbered a.id (map activation_of acts) ≡ Some (activation_of a) → row a.id (stepped_in a (watch_at classes o a.id)) ≡ row_of state_of (on a)
      → row a.id (stepped_whole a (watch_at classes o a.id)) ≡ row a.id (one_behind a).state
  state_behind a of found step =
      let watch = watch_is a of found in
      let stepped_so : stepped by (watch_of of.trigger a.args) a.state p ≡ (on a).state = sym (ap (stepped_in a) watch) ∙ ap (λ (row : ℕ × ℕ). row.1) step in
      ap (λ (w : Option Watch). row a.id (stepped_whole a w)) watch
      ∙ ap (λ s. row a.id (cond of.trigger.decl.whole s a.state)) stepped_so
      ∙ ap (λ b. row a.id (cond b (on a).state a.state)) (sym (whole_is a of))
      ∙ row_by a (whole a)

  rows_behind : now.activations ≡ map (λ a. row a.id (one_behind a).state) acts
  rows_behind =
      let change = changed_row (λ (number : ℕ) (w : Watch) (s : ℕ). cond w.whole (stepped by w s p) s) (watch_at classes o) in
      ap (map change) is ∙ map-map change (row_of state_of) acts
      ∙ map_alike (λ a. row a.id (stepped_whole a (watch_at classes o a.id))) (λ a. row a.id (one_behind a).state) acts
      (each_both Of (λ a. (numbered a.id (map activation_of acts) ≡ Some (activation_of a)) × (row a.id (stepped_in a (watch_at classes o a.id)) ≡ row_of state_of (on a)))
      (λ a. row a.id (stepped_whole a (watch_at classes o a.id)) ≡ row a.id (one_behind a).state) acts (λ a of both. state_behind a of both.0 both.1) are.each
      (each_both (λ a. numbered a.id (map activation_of acts) ≡ Some (activation_of a)) (λ a. row a.id (stepped_in a (watch_at classes o a.id)) ≡ row_of state_of (on a))
      (λ a. (numbered a.id (map activation_of acts) ≡ Some (activation_of a)) × (row a.id (stepped_in a (watch_at classes o a.id)) ≡ row_of state_of (on a))) acts (λ a f g. (f, g)) found_all steps))

  id_by : (a : Running) (b : Bool) → row a.id (cond b (on a) a).state ≡ row_of state_of (cond b (on a) a)
  id_by a true = refl
  id_by a false = refl

  rows_again : (more : List Running) → map (λ a. row a.id (one_behind a).state) more ≡ map (row_of state_of) (map one_behind more)
  rows_again [] = refl
  rows_again (a ∷ more) =
      ap (λ (r : ℕ × ℕ). r ∷ map (λ (b : Running). row b.id (one_behind b).state) more) (id_by a (whole a)) ∙ ap (λ (rows : List (ℕ × ℕ)). row_of state_of (one_behind a) ∷ rows) (rows_again more)

  pub whole_states : now.activations ≡ map (row_of state_of) (map one_behind acts)
  whole_states = rows_behind ∙ rows_again acts

  -- ---- firings

  kept_behind : AllByRecursion (λ a. kept_at a.id now.activations ≡ Some (one_behind a).state) acts
  kept_behind =
      subst (λ l. AllByRecursion (λ a. kept_at a.id l ≡ Some (one_behind a).state) acts) (sym rows_behind) (kept_each (λ a. (one_behind a).state) acts are.rising)

  goes_by : (t : Trigger) (a : Running) → Of a → kept_at a.id now.activations ≡ Some (one_behind a).state → IsPlaced classes t × (t.decl.whole ≡ true) → is_of t (activation_of a) ≡ true
      → is_firing (numbers by) now t (activation_of a) ≡ goes a
  goes_by t a of found its is_t =
      let parts = is_of_parts t a is_t in
      let table : by t.class t.place ≡ table_of tables a = ap (λ c. by c t.place) (sym parts.0) ∙ ap (by a.class) (sym parts.1) ∙ sym of.table in
      ap (λ (s : Option ℕ). a.on && option_map_or (λ s. says_yes (by t.class t.place) s) s false) found
      ∙ ap (λ b. a.on && says_yes (by t.class t.place) (cond b (on a) a).state) (sees_so a of t its.0 its.1 is_t)
      ∙ ap (λ (x : Table). a.on && says_yes x (state_after tables alphabets p a)) table

  seen_all : AllByRecursion (λ t. IsPlaced classes t × (t.decl.whole ≡ true)) seen
  seen_all = all-passing (IsPlaced classes) (λ (t : Trigger). t.decl.whole) (triggers_of classes o.class) (triggers_placed classes are.rising_classes o.class)

  agree : AllByRecursion (λ t. AllByRecursion (Agrees (numbers by) o now goes t) acts) seen
  agree =
      each_as (λ t. IsPlaced classes t × (t.decl.whole ≡ true)) (λ t. AllByRecursion (Agrees (numbers by) o now goes t) acts) seen
      (λ t its. each_both Of (λ a. kept_at a.id now.activations ≡ Some (one_behind a).state) (Agrees (numbers by) o now goes t) acts (λ a of found is_t. goes_by t a of found its is_t) are.each kept_behind)
      seen_all

  rise_seen : Rise seen
  rise_seen = rise_some (λ (t : Trigger). t.decl.whole) (triggers_of classes o.class) (triggers_rise classes o.class are.rising_classes)

  found_seen : (a : Running) (of : Of a) → whole a ≡ true → find (λ t. is_of t (activation_of a)) seen ≡ Some of.trigger
  found_seen a of sees = find_kept (λ t. is_of t (activation_of a)) (λ (t : Trigger). t.decl.whole) (triggers_of classes o.class) of.trigger of.had (sym (whole_is a of) ∙ sees)

  abbrev those : List Running
  those = filter whole acts

  had_seen : AllByRecursion (λ a. list_any (λ t. is_of t (activation_of a)) seen ≡ true) those
  had_seen =
      each_as (λ a. Of a × (whole a ≡ true)) (λ a. list_any (λ t. is_of t (activation_of a)) seen ≡ true) those
      (λ a both. find_any (λ t. is_of t (activation_of a)) seen both.0.trigger (found_seen a both.0 both.1)) (all-passing Of whole acts are.each)

  of_those : of_all goes seen those ≡ of_all goes seen acts
  of_those =
      flat_same (of_trigger goes those) (of_trigger goes acts) seen
      (each_as (λ t. IsPlaced classes t × (t.decl.whole ≡ true)) (λ t. of_trigger goes those t ≡ of_trigger goes acts t) seen
      (λ t its. ap (map fired_of) (filter_within (goes_of goes t) whole acts
      (each_as Of (λ a. goes_of goes t a ≡ true → whole a ≡ true) acts (λ a of goes_so. sees_so a of t its.0 its.1 (and_parts (is_of t (activation_of a)) (goes a) goes_so).0) are.each)))
      seen_all)

  pub whole_fires : map fired_as firings ≡ whole_fired tables alphabets classes p acts
  whole_fires =
      ap (λ (ts : List Trigger). map fired_as (flat_map (fired_by (numbers by) o now) ts)) (sym (all_seen seen))
      ∙ fired_as_placed (numbers by) o now goes acts seen are.activations agree
      ∙ sym of_those
      ∙ sym (placed_by_triggers goes seen those rise_seen (rise_filter (λ (a : Running). a.id) whole 0 acts are.rising) had_seen)

  -- ---- ends

  same_sight : (a b : Running) → numbered a.id (map activation_of acts) ≡ Some (activation_of a) → numbered b.id (map activation_of acts) ≡ Some (activation_of b) → (b.id == a.id) ≡ true → whole b ≡ whole a
  same_sight a b here there same =
      let both : Some (activation_of b) ≡ Some (activation_of a) = sym there ∙ ap (λ n. numbered n (map activation_of acts)) (eqb-true b.id a.id same) ∙ here in
      let one : activation_of b ≡ activation_of a = cc in
      ap (λ (q : Activation). sees_in (class_numbered (checked classes) q.class) q.trigger) one

  abbrev test : Trigger → Activation → Bool
  test t q = is_of t q && is_firing (numbers by) now t q

  none_by : (a : Running) (t : Trigger) → IsPlaced classes t × (t.decl.whole ≡ true) → (bs : List Running) → AllByRecursion Of bs → AllByRecursion (λ b. (b.id == a.id) ≡ true → whole b ≡ false) bs
      → list_any (ends_by a.id) (map (firing_of o t) (filter (test t) (map activation_of bs))) ≡ false
  none_by a t its [] each apart = refl
  none_by a t its (b ∷ bs) each apart = by_test (test t (activation_of b)) refl (b.id == a.id) refl (none_by a t its bs each.1 apart.1) where
    by_test : (u : Bool) → test t (activation_of b) ≡ u → (v : Bool) → (b.id == a.id) ≡ v → list_any (ends_by a.id) (map (firing_of o t) (filter (test t) (map activation_of bs))) ≡ false
        → list_any (ends_by a.id) (map (firing_of o t) (cond u (activation_of b ∷ filter (test t) (map activation_of bs)) (filter (test t) (map activation_of bs)))) ≡ false
    by_test false u v w more = more
    by_test true u false w more = ap (λ c. (c && not t.decl.perpetual) || list_any (ends_by a.id) (map (firing_of o t) (filter (test t) (map activation_of bs)))) w ∙ more
    by_test true u true w more =
        absurd (false≢true (sym (apart.0 w) ∙ sees_so b each.0 t its.0 its.1 (and_parts (is_of t (activation_of b)) (is_firing (numbers by) now t (activation_of b)) u).0))

  none_ends : (a : Running) → numbered a.id (map activation_of acts) ≡ Some (activation_of a) → whole a ≡ false → list_any (ends_by a.id) firings ≡ false
  none_ends a found sees =
      none_flat (ends_by a.id) (fired_by (numbers by) o now) seen
      (each_as (λ t. IsPlaced classes t × (t.decl.whole ≡ true)) (λ t. list_any (ends_by a.id) (fired_by (numbers by) o now t) ≡ false) seen
      (λ t its.
      ap (λ (l : List Activation). list_any (ends_by a.id) (map (firing_of o t) (filter (test t) l))) are.activations
      ∙ none_by a t its acts are.each
      (each_as (λ b. numbered b.id (map activation_of acts) ≡ Some (activation_of b)) (λ b. (b.id == a.id) ≡ true → whole b ≡ false) acts (λ b there same. same_sight a b found there same ∙ sees) found_all))
      seen_all)

  some_ends : (a : Running) (of : Of a) → ((q : Running → Bool) → list_any (has q a.id) acts ≡ q a) → whole a ≡ true → list_any (ends_by a.id) firings ≡ (goes a && once (checked classes) a)
  some_ends a of one sees =
      ap (λ (ts : List Trigger). list_any (ends_by a.id) (flat_map (fired_by (numbers by) o now) ts)) (sym (all_seen seen))
      ∙ ends_as (numbers by) o now goes acts seen are.activations agree rise_seen a of.trigger (found_seen a of sees) one
      ∙ ap (λ b. goes a && b) (sym (once_is a of))

  and_true : (b : Bool) → (b && true) ≡ b
  and_true true = refl
  and_true false = refl

  abbrev off_by : Running → Bool → Activation
  off_by a b = record { number = a.id; class = a.class; trigger = a.trigger; args = a.args; on = a.on && not b }

  ended : (a : Running) → Of a → numbered a.id (map activation_of acts) ≡ Some (activation_of a) → ((q : Running → Bool) → list_any (has q a.id) acts ≡ q a) → (b : Bool) → whole a ≡ b
      → after_firings firings (activation_of a) ≡ activation_of (cond b (on a) a)
  ended a of found one true sees = ap (off_by a) (some_ends a of one sees)
  ended a of found one false sees =
      ap (off_by a) (none_ends a found sees) ∙ ap (λ b. record { number = a.id; class = a.class; trigger = a.trigger; args = a.args; on = b }) (and_true a.on)

  pub whole_ends : (object_after firings o).activations ≡ map activation_of (map one_behind acts)
  whole_ends =
      ap (map (after_firings firings)) are.activations ∙ map-map (after_firings firings) activation_of acts
      ∙ map_alike (λ a. after_firings firings (activation_of a)) (λ a. activation_of (one_behind a)) acts
      (each_both Of (λ a. (numbered a.id (map activation_of acts) ≡ Some (activation_of a)) × ((q : Running → Bool) → list_any (has q a.id) acts ≡ q a))
      (λ a. after_firings firings (activation_of a) ≡ activation_of (one_behind a)) acts (λ a of both. ended a of both.0 both.1 (whole a) refl) are.each
      (each_both (λ a. numbered a.id (map activation_of acts) ≡ Some (activation_of a)) (λ a. (q : Running → Bool) → list_any (has q a.id) acts ≡ q a)
      (λ a. (numbered a.id (map activation_of acts) ≡ Some (activation_of a)) × ((q : Running → Bool) → list_any (has q a.id) acts ≡ q a)) acts (λ a f g. (f, g)) found_all (one_each 0 acts are.rising)))
      ∙ sym (map-map activation_of one_behind acts)
