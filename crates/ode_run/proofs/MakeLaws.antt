-- Lines behind what was made.
use Rattle.std.proofs.Common.{◌≡◌, ◌+◌, ◌<◌, ℕ, List, [], ◌∷◌, drop, get_or, map, Result, Option, Some, None, Err, refl, sym, ap, subst, ◌∙◌, length}
use Rattle.std.proofs.lemmas.List.{drop_more}
use Rattle.std.specs.Prelude.{is_some, pos}
use Rattle.std.specs.List.{AllByRecursion}
use Rattle.ode_activation_laws.specs.Switching.{tells_line}
use Rattle.ode_arising_laws.specs.Arising.{TakesTrigger}
use Rattle.ode_interpreter.specs.Creating.{makes_active}
use Rattle.ode_interpreter.specs.Seen.{Ends, Leaves, trigger}
use Rattle.ode_interpreter.specs.declared.firing.Trigger as code
use Rattle.ode_interpreter.specs.declared.stop.Stop.{Stop}
use Rattle.ode_interpreter.specs.declared.stop.Stop.TheVariants as stop
use Rattle.ode_laws.specs.Alike.{NumberTx, NumberWorld}
use Rattle.ode_overlay.specs.Layers.{Layer}
use Rattle.ode_overlay_laws.specs.Following.{on_live}
use Rattle.ode_run.proofs.OffLaws.{on_same}
use Rattle.ode_run.specs.Activating.{IsOfClass, Names, Takes, TakesAll}
use Rattle.ode_run.specs.Telling.{EndsThen}
use Rattle.ode_schema.specs.Parts.{trigger_of}
use Rattle.ode_value.specs.Acts.{Act, Outcome, Done, Aborted, ◌>>=◌, ◌>>◌, each, finds, found, gives, go_on, sees}
use Rattle.ode_value.specs.Changes.{class_of}
use Rattle.ode_value.specs.Classes.{Trigger, initial_triggers, trigger_named}
use Rattle.ode_value.specs.Denoting.{object_at}
use Rattle.ode_value.specs.Making.{makes, switches_on}
use Rattle.ode_value.specs.Pasts.{numbers}
use Rattle.ode_value.specs.Statements.{activates_initial, switches_on_named}
use Rattle.ode_value.specs.Tables.{Table}
use Rattle.ode_value.specs.Worlds.{Declared, Object}
use Rattle.ode_value.specs.declared.class.Class.{Class}
use Rattle.ode_value.specs.declared.reason.Reason.{Reason}
use Rattle.ode_value.specs.declared.reason.Reason.TheVariants as reason
use Rattle.ode_value.specs.declared.value.Ref.{Ref}
use Rattle.ode_value.specs.declared.value.Value.{Value}
use Rattle.ode_value.specs.declared.value.Value.TheVariants as value
use Rattle.ode_view_laws.specs.Viewing.{Beside, running, world_now}

-- ---- an act that goes on

-- where the first part is done, it ends as the next one
pub ends_next : {R S : Type 0} (next : R → Act (Unit {0}) ℕ S) (v : R) (y z : NumberTx) (outcome : Outcome (Unit {0}) ℕ S) (result : Result S Stop) → outcome ≡ next v y → Ends result z (next v y) → Ends result z outcome
ends_next {R} {S} next v y z outcome result is ends = subst (λ (o : Outcome (Unit {0}) ℕ S). Ends result z o) (sym is) ends

-- where it isn't, it ends there
stopped : {R S : Type 0} (next : R → Act (Unit {0}) ℕ S) (why : Stop) (z : NumberTx) (outcome : Outcome (Unit {0}) ℕ S) → EndsThen next (Err why) z outcome → Ends {R = S} (Err why) z outcome
stopped next stop.Memory z outcome ends = tt
stopped next stop.DiskFault z outcome ends = tt
stopped next (stop.Damaged key) z outcome ends = tt
stopped next (stop.Abort why) z outcome ends = ends

pub not_done : {R S : Type 0} (next : R → Act (Unit {0}) ℕ S) (result : Result R Stop) (other : Result S Stop) (why : Stop) (z : NumberTx) (outcome : Outcome (Unit {0}) ℕ S) → EndsThen next result z outcome
    → result ≡ Err why → other ≡ Err why → Ends other z outcome
not_done {R} {S} next result other why z outcome ends is same =
    subst (λ (q : Result S Stop). Ends q z outcome) (sym same) (stopped next why z outcome (subst (λ (q : Result R Stop). EndsThen next q z outcome) is ends))

-- and leaves what was left there
left_too : (R S : Type 0) (why : Stop) (A : Type 0) (F : Stop → Type 0) → Leaves {R = R} (Err why) A F → Leaves {R = S} (Err why) A F
left_too R S stop.Memory A F left = left
left_too R S stop.DiskFault A F left = left
left_too R S (stop.Damaged key) A F left = left
left_too R S (stop.Abort why) A F left = left

pub left_there : {R S : Type 0} (result : Result R Stop) (other : Result S Stop) (why : Stop) (A : Type 0) (F : Stop → Type 0) → Leaves result A F → result ≡ Err why → other ≡ Err why → Leaves other A F
left_there {R} {S} result other why A F left is same =
    subst (λ (q : Result S Stop). Leaves q A F) (sym same) (left_too R S why A F (subst (λ (q : Result R Stop). Leaves q A F) is left))

-- ---- a part that isn't done, and what would follow it

ends_on : {R S : Type 0} (why : Stop) (z : NumberTx) (o : Outcome (Unit {0}) ℕ R) (next : R → Act (Unit {0}) ℕ S) → Ends {R = R} (Err why) z o → Ends {R = S} (Err why) z (go_on o next)
ends_on (stop.Abort why) z o next ends = ap (λ q. go_on q next) ends
ends_on stop.Memory z o next ends = tt
ends_on stop.DiskFault z o next ends = tt
ends_on (stop.Damaged key) z o next ends = tt

pub stops_on : {R S : Type 0} (result : Result R Stop) (other : Result S Stop) (why : Stop) (z : NumberTx) (o : Outcome (Unit {0}) ℕ R) (next : R → Act (Unit {0}) ℕ S) → Ends result z o
    → result ≡ Err why → other ≡ Err why → Ends other z (go_on o next)
stops_on {R} {S} result other why z o next ends is same =
    subst (λ (r : Result S Stop). Ends r z (go_on o next)) (sym same) (ends_on why z o next (subst (λ (r : Result R Stop). Ends r z o) is ends))

-- ---- initial activations

-- of an object that is there
pub live_on : (tables : ℕ → ℕ → Table) (id : ℕ) (t : Trigger) (y : NumberTx) (class : ℕ) → IsOfClass y id class → (result : Result ℕ Stop) (z : NumberTx)
    → EndsThen tells_line result z (on_live id (activates_initial (numbers tables) id t) y) → EndsThen tells_line result z (activates_initial (numbers tables) id t y)
live_on tables id t y class of result z ends = subst (EndsThen tells_line result z) (on_same (activates_initial (numbers tables) id t) id y y (ap (λ (o : Option Object). Done (is_some o) y) of.there)) ends

-- an object of a class has the trigger that the class has
pub takes_one : (first : NumberWorld) (y : NumberTx) (id number class place : ℕ) → IsOfClass y id number → TakesTrigger first.bones.classes number class place → Takes first y id class place
takes_one first y id number class place of takes = record {
  object = of.object;
  there = of.there;
  takes = subst (λ (n : ℕ). TakesTrigger first.bones.classes n class place) (sym of.class) takes;
}

unmapped : {X Y : Type 0} (P : Y → Type 0) (f : X → Y) (xs : List X) → AllByRecursion P (map f xs) → AllByRecursion (λ x. P (f x)) xs
unmapped P f [] all = tt
unmapped P f (x ∷ xs) all = (all.0, unmapped P f xs all.1)

-- each of those that a new object of the class has
pub takes_all : (cs : List Class) (classes : List Declared) (number : ℕ) (ts : List code.Trigger) (initial : List Trigger) → map (trigger (trigger_of cs)) ts ≡ initial
    → AllByRecursion (λ (t : Trigger). TakesTrigger classes number t.class t.place) initial → TakesAll classes number ts
takes_all cs classes number ts initial is all =
    unmapped (λ (t : Trigger). TakesTrigger classes number t.class t.place) (trigger (trigger_of cs)) ts
    (subst (AllByRecursion (λ (t : Trigger). TakesTrigger classes number t.class t.place)) (sym is) all)

pub more_left : {X : Type 0} (P : X → Type 0) (d : X) (xs : List X) (i : ℕ) → i < length xs → AllByRecursion P (drop i xs) → AllByRecursion P (get_or xs i d ∷ drop (i + 1) xs)
more_left P d xs i less all = subst (AllByRecursion P) (drop_more xs i d less) all

-- one after another
pub each_next : {X Y : Type 0} (deed : Y → Act (Unit {0}) ℕ (Unit {0})) (says : X → Y) (d : X) (xs : List X) (i : ℕ) (y z : NumberTx) → i < length xs → deed (says (get_or xs i d)) y ≡ Done tt z
    → each deed (map says (drop i xs)) y ≡ each deed (map says (drop (i + 1) xs)) z
each_next deed says d xs i y z less done =
    ap (λ rs. each deed (map says rs) y) (drop_more xs i d less) ∙ ap (λ (o : Outcome (Unit {0}) ℕ (Unit {0})). go_on o (λ _. each deed (map says (drop (i + 1) xs)))) done

-- ---- a new object with its initial activations

module _ (tables : ℕ → ℕ → Table) (class : ℕ) (fields : List Value) where
  -- what follows the object itself
  abbrev behind_bare : ℕ → Act (Unit {0}) ℕ ℕ
  behind_bare id = sees (λ b. initial_triggers b.classes class) >>= λ triggers. each (activates_initial (numbers tables) id) triggers >> gives id

  active_is : (y : NumberTx) → makes_active (numbers tables) class fields y ≡ go_on (makes (numbers tables) class fields y) behind_bare
  unfolding makes_active
  active_is y = refl

  pub bare_stops : (y z : NumberTx) (result other : Result ℕ Stop) (why : Stop) → Ends result z (makes (numbers tables) class fields y) → result ≡ Err why → other ≡ Err why
      → Ends other z (makes_active (numbers tables) class fields y)
  bare_stops y z result other why ends is same =
      subst (λ (o : Outcome (Unit {0}) ℕ ℕ). Ends other z o) (sym (active_is y)) (stops_on result other why z (makes (numbers tables) class fields y) behind_bare ends is same)

  pub active_by : (y made : NumberTx) (id : ℕ) (all : List Declared) (ts : List Trigger) → made.now.bones.classes ≡ all → ts ≡ initial_triggers all class
      → makes (numbers tables) class fields y ≡ Done id made
      → makes_active (numbers tables) class fields y ≡ go_on (each (activates_initial (numbers tables) id) ts made) (λ _. gives id)
  active_by y made id all ts classes are is =
      active_is y ∙ ap (λ (o : Outcome (Unit {0}) ℕ ℕ). go_on o behind_bare) is
      ∙ ap (λ (rs : List Trigger). go_on (each (activates_initial (numbers tables) id) rs made) (λ _. gives id)) (ap (λ (ds : List Declared). initial_triggers ds class) classes ∙ sym are)

-- ---- activations by a name

-- the classes in the world now
pub classes_now : (all : List Declared) (first : NumberWorld) (x : Layer) (b : Beside) → (running all first x b).now.bones.classes ≡ all
unfolding world_now
classes_now all first x b = refl

pub named_there : (all : List Declared) (first : NumberWorld) (x : Layer) (b : Beside) (number : ℕ) (name : List ℕ) (t : Trigger)
    → trigger_named (running all first x b).now.bones.classes number name ≡ Some t → trigger_named all number name ≡ Some t
named_there all first x b number name t is = ap (λ (ds : List Declared). trigger_named ds number name) (sym (classes_now all first x b)) ∙ is

-- an object's class, where it is known
abbrev classed : NumberTx → Option Object → Outcome (Unit {0}) ℕ ℕ
classed y o = go_on (found o y) (λ q. gives q.class)

pub same_tx : (y z : NumberTx) (id class : ℕ) → class_of id y ≡ Done class z → y ≡ z
same_tx y z id class is = by_object (object_at y.now.bones id) is where
  by_object : (o : Option Object) → classed y o ≡ Done class z → y ≡ z
  by_object None e = absurd (cc e)
  by_object (Some o) e = cc e

pub of_class : (y z : NumberTx) (id class : ℕ) → class_of id y ≡ Done class z → IsOfClass z id class
of_class y z id class is = subst (λ (q : NumberTx). IsOfClass q id class) (same_tx y z id class is) (by_object (object_at y.now.bones id) refl is) where
  by_object : (o : Option Object) → object_at y.now.bones id ≡ o → classed y o ≡ Done class z → IsOfClass y id class
  by_object None there e = absurd (cc e)
  by_object (Some o) there e = record { object = o; there = there; class = cc e }

pub names_it : (y : NumberTx) (all : List Declared) (id class : ℕ) (name : List ℕ) (t : Trigger) → y.now.bones.classes ≡ all → IsOfClass y id class → Some t ≡ trigger_named all class name → Names y id name t
names_it y all id class name t classes of found = record {
  object = of.object;
  there = of.there;
  trigger = ap (λ (ds : List Declared). trigger_named ds of.object.class name) classes ∙ ap (λ (n : ℕ). trigger_named all n name) of.class ∙ sym found;
}

-- where the object isn't there
no_object : {R : Type 0} (next : Object → Act (Unit {0}) ℕ R) (id : ℕ) (y z : NumberTx) (why : Reason) → class_of id y ≡ Aborted why z → go_on (found (object_at y.now.bones id) y) next ≡ Aborted why z
no_object {R} next id y z why is = by_object (object_at y.now.bones id) is where
  by_object : (o : Option Object) → classed y o ≡ Aborted why z → go_on (found o y) next ≡ Aborted why z
  by_object None e = ap (λ (q : Outcome (Unit {0}) ℕ ℕ). go_on q (λ (n : ℕ) (t : NumberTx). go_on (found None y) next)) e
  by_object (Some o) e = absurd (cc e)

module _ (tables : ℕ → ℕ → Table) (r : Ref) (name : List ℕ) (args : List Value) where
  none_there : (y z : NumberTx) (why : Reason) → class_of r.object y ≡ Aborted why z → switches_on_named (numbers tables) r name args y ≡ Aborted why z
  unfolding switches_on_named
  none_there y z why is = no_object _ r.object y z why is

  ends_there : (why : Stop) (z y : NumberTx) → Ends {R = ℕ} (Err why) z (class_of r.object y) → Ends {R = Value} (Err why) z (switches_on_named (numbers tables) r name args y)
  ends_there (stop.Abort why) z y ends = none_there y z why ends
  ends_there stop.Memory z y ends = tt
  ends_there stop.DiskFault z y ends = tt
  ends_there (stop.Damaged key) z y ends = tt

  pub not_classed : (y z : NumberTx) (result : Result ℕ Stop) (other : Result Value Stop) (why : Stop) → Ends result z (class_of r.object y) → result ≡ Err why → other ≡ Err why
      → Ends other z (switches_on_named (numbers tables) r name args y)
  not_classed y z result other why ends is same =
      subst (λ (q : Result Value Stop). Ends q z (switches_on_named (numbers tables) r name args y)) (sym same) (ends_there why z y (subst (λ (q : Result ℕ Stop). Ends q z (class_of r.object y)) is ends))

  -- where its class has no such trigger
  abbrev behind_trigger : NumberTx → Option Trigger → Outcome (Unit {0}) ℕ Value
  behind_trigger y t = go_on (found t y) (λ (u : Trigger). switches_on (numbers tables) r.object u args >>= (λ (n : ℕ). gives (value.Int (pos n))))

  abbrev behind_object : NumberTx → Option Object → Outcome (Unit {0}) ℕ Value
  behind_object y o = go_on (found o y) (λ (q : Object). finds (λ b. trigger_named b.classes q.class name) >>= (λ (u : Trigger). switches_on (numbers tables) r.object u args >>= (λ (n : ℕ). gives (value.Int (pos n)))))

  pub none_named : (y : NumberTx) (all : List Declared) (class : ℕ) → y.now.bones.classes ≡ all → IsOfClass y r.object class → None ≡ trigger_named all class name
      → switches_on_named (numbers tables) r name args y ≡ Aborted (reason.NoObject 0) y
  unfolding switches_on_named
  none_named y all class classes of none =
      let missing : trigger_named y.now.bones.classes of.object.class name ≡ None =
      ap (λ (ds : List Declared). trigger_named ds of.object.class name) classes ∙ ap (λ (n : ℕ). trigger_named all n name) of.class ∙ sym none in
      ap (behind_object y) of.there ∙ ap (behind_trigger y) missing
