-- What holds of each object of a world, and behind a call that is done.
use Rattle.std.specs.Prelude.{◌≡◌, ◌≤◌, ℕ, List, [], true, Some}
use Rattle.std.specs.List.{AllByRecursion}
use Rattle.std.specs.Option.{IsSome}
use Rattle.ode_laws.specs.Alike.{NumberTx}
use Rattle.ode_laws.specs.Numbered.{HasNumbers}
use Rattle.ode_overlay.specs.Answers.{Answer}
use Rattle.ode_overlay.specs.Layers.{Layer}
use Rattle.ode_overlay_laws.specs.Following.{Continues}
use Rattle.ode_overlay_laws.specs.Standing.{Stands}
use Rattle.ode_value.specs.Denoting.{object_numbered}
use Rattle.ode_value.specs.Fitting.{trigger_in}
use Rattle.ode_value.specs.Objects.{Activation}
use Rattle.ode_value.specs.Worlds.{Bones, Declared, Object}
use Rattle.ode_version_laws.specs.Leaving.{IfDone}

-- the numbers of each object and of its activations were drawn
abbrev pub HaveNumbers : Bones → Type 0
HaveNumbers b = (id : ℕ) (o : Object) → object_numbered id b.objects ≡ Some o → HasNumbers b.next o

-- so it is in every transaction that goes on and for which the overlay stands, and no number was given back
abbrev pub StillHaveNumbers : {R : Type 0} → NumberTx → Answer (R × Layer) → Type 0
StillHaveNumbers y answer = IfDone (λ (x : Layer). (z : NumberTx) → Stands x z → Continues y z → HaveNumbers z.now.bones × (y.now.bones.next ≤ z.now.bones.next)) answer

-- ---- triggers

-- an activation of the trigger at a place of a class
abbrev pub activation_at : ℕ → ℕ → Activation
activation_at class place = record { number = 0; class = class; trigger = place; args = []; on = true }

-- the class of a number has the trigger at a place of a class, its own or inherited
abbrev pub TakesTrigger : List Declared → ℕ → ℕ → ℕ → Type 0
TakesTrigger classes number class place = IsSome (trigger_in classes number (activation_at class place))

-- an object's class has the trigger of each activation
abbrev pub HasTriggers : List Declared → Object → Type 0
HasTriggers classes o = AllByRecursion (λ (a : Activation). IsSome (trigger_in classes o.class a)) o.activations

-- so it is of each object
abbrev pub HaveTriggers : List Declared → Bones → Type 0
HaveTriggers classes b = (id : ℕ) (o : Object) → object_numbered id b.objects ≡ Some o → HasTriggers classes o

-- and in every transaction that goes on and for which the overlay stands
abbrev pub StillHaveTriggers : {R : Type 0} → List Declared → NumberTx → Answer (R × Layer) → Type 0
StillHaveTriggers classes y answer = IfDone (λ (x : Layer). (z : NumberTx) → Stands x z → Continues y z → HaveTriggers classes z.now.bones) answer
