-- The classes of objects go on having the triggers of their activations.
use Rattle.std.proofs.Common.{◌==◌, ℕ, List, [], ◌∷◌, ◌++◌, Bool, true, false, cond, map, Option, Some, None, refl, sym, subst}
use Rattle.std.proofs.lemmas.List.{map-append}
use Rattle.std.specs.List.{AllByRecursion}
use Rattle.std.specs.Option.{IsSome}
use Rattle.ode_codec.specs.Standing.{StandsAs}
use Rattle.ode_laws.proofs.Each.{all-append, all-then}
use Rattle.ode_laws.specs.Alike.{NumberTx, NumberWorld}
use Rattle.ode_objects.specs.Objects.{new_active, taken_over, turned_off}
use Rattle.ode_objects.specs.declared.object.Active.{Active}
use Rattle.ode_object_laws.specs.Objects.{HasTriggers, HaveTriggers, StillHaveTriggers, TakesTrigger}
use Rattle.ode_overlay.specs.Answers.{Answer}
use Rattle.ode_overlay.specs.Layers.{Layer}
use Rattle.ode_overlay_laws.specs.Following.{Continues}
use Rattle.ode_overlay_laws.specs.Standing.{Stands, active_as}
use Rattle.ode_types.specs.declared.running.Running.{Running}
use Rattle.ode_value.specs.Classes.{Trigger}
use Rattle.ode_value.specs.Fitting.{HaveTrigger, trigger_in}
use Rattle.ode_value.specs.GoodWorlds.{IsActivation, IsGood, IsObject}
use Rattle.ode_value.specs.Language.{Language, ListWorld}
use Rattle.ode_value.specs.Objects.{Activation}
use Rattle.ode_value.specs.Tables.{Table}
use Rattle.ode_value.specs.Worlds.{Bones, Declared}
use Rattle.ode_value.specs.declared.value.Value.{Value}
use Rattle.ode_version_laws.proofs.EachLaws.{GoesOn, Holding, IsKept, Taking, done_then}
use Rattle.ode_version_laws.proofs.SumLaws.{all_numbered}
use Rattle.ode_version_laws.specs.Leaving.{IfDone}

module _ (classes : List Declared) where
  -- the class of a number has the trigger of an activation
  abbrev Had : ℕ → Activation → Type 0
  Had number a = IsSome (trigger_in classes number a)

  off_had : (number class : ℕ) (acts : List Active) → AllByRecursion (Had class) (map active_as acts) → AllByRecursion (Had class) (map active_as (map (turned_off number) acts))
  off_had number class [] all = tt
  off_had number class (a ∷ acts) all = (by_test (a.number == number), off_had number class acts all.1) where
    by_test : (b : Bool) → Had class (active_as (cond b (record a { on = false }) a))
    by_test true = all.0
    by_test false = all.0

  taken_had : (class : ℕ) (rs : List Running) (acts : List Active) → AllByRecursion (Had class) (map active_as acts) → AllByRecursion (Had class) (map active_as (taken_over rs acts))
  taken_had class [] acts all = all
  taken_had class (r ∷ rs) [] all = tt
  taken_had class (r ∷ rs) (a ∷ acts) all = (all.0, taken_had class rs acts all.1)

  more_had : (number class trigger next : ℕ) (args : List Value) (acts : List Active) → TakesTrigger classes number class trigger → AllByRecursion (Had number) (map active_as acts)
      → AllByRecursion (Had number) (map active_as (acts ++ new_active next class trigger args ∷ []))
  more_had number class trigger next args acts takes all =
      subst (AllByRecursion (Had number)) (sym (map-append active_as acts (new_active next class trigger args ∷ [])))
      (all-append (Had number) (map active_as acts) (active_as (new_active next class trigger args) ∷ []) all (takes, tt))

  abbrev pub Having : Holding
  Having next o = HasTriggers classes o

  abbrev pub Takes : Taking
  Takes o class trigger = TakesTrigger classes o.class class trigger

  pub triggers_kept : IsKept Having Takes
  triggers_kept = record {
    later = λ low next o up has. has;
    set = λ next id n fields o fit has. has;
    version = λ next id stamp v o fit has. has;
    dropped = λ next id n o more has. has;
    removed = λ next id o has. has;
    active = λ next id class trigger args o takes has. more_had o.class class trigger next args o.activations takes has;
    off = λ next id number o has. off_had number o.class o.activations has;
    states = λ next id rs o has. taken_had o.class rs o.activations has;
    new = λ next class fields fit. tt;
  }

  pub still_have : {R : Type 0} (y : NumberTx) (answer : Answer (R × Layer)) → IfDone (GoesOn Having y) answer → StillHaveTriggers classes y answer
  still_have y answer = done_then (GoesOn Having y) (λ (x : Layer). (z : NumberTx) → Stands x z → Continues y z → HaveTriggers classes z.now.bones) (λ x goes z stands on. (goes z stands on).0) answer

-- ---- good worlds

some_trigger : (b : Bones) (args : List Value) (f : Option Trigger) → HaveTrigger b args f → IsSome f
some_trigger b args None have = absurd have
some_trigger b args (Some t) have = refl

pub good_triggers : (l : Language) (tables : ℕ → ℕ → Table) (v : NumberWorld) (w : ListWorld) → IsGood l w → StandsAs tables v w → HaveTriggers v.bones.classes v.bones
good_triggers l tables v w good stands = λ id o is.
    let objects : AllByRecursion (IsObject v.bones) v.bones.objects = subst (λ (b : Bones). AllByRecursion (IsObject b) b.objects) (sym stands.bones) good.bones.objects in
    let known = all_numbered (IsObject v.bones) id v.bones.objects o objects is in
    all-then (IsActivation v.bones o.class) (λ (a : Activation). IsSome (trigger_in v.bones.classes o.class a))
    (λ a is. some_trigger v.bones a.args (trigger_in v.bones.classes o.class a) is.trigger) o.activations known.activations
