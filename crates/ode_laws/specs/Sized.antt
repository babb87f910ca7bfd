-- Versions and arguments that are short enough for a record's value.
use Rattle.std.specs.Prelude.{◌≤◌}
use Rattle.std.specs.List.{AllByRecursion}
use Rattle.ode_value.specs.Acts.{Outcome, Done, Aborted}
use Rattle.ode_value.specs.Lengths.{values_length, version_size}
use Rattle.ode_value.specs.Limits.{value_limit, args_limit}
use Rattle.ode_value.specs.Objects.{Activation}
use Rattle.ode_value.specs.Transactions.{Tx}
use Rattle.ode_value.specs.Versions.{Version}
use Rattle.ode_value.specs.Worlds.{Object, Bones}

-- a version's record has a value that is short enough
abbrev pub IsShortVersion : Version → Type 0
IsShortVersion v = version_size v.stamp v.fields ≤ value_limit

-- an activation's arguments are short enough
abbrev pub IsShortActivation : Activation → Type 0
IsShortActivation a = values_length a.args ≤ args_limit

-- so are all of an object
pub record HasSizes (o : Object) : Type 0 where
  pub versions : AllByRecursion IsShortVersion o.versions
  pub activations : AllByRecursion IsShortActivation o.activations

-- and of all objects
abbrev pub AreSized : Bones → Type 0
AreSized b = AllByRecursion HasSizes b.objects

-- in both worlds of a transaction
pub record IsSized {O A : Type 0} (x : Tx O A) : Type 0 where
  pub first : AreSized x.first.bones
  pub now : AreSized x.now.bones

-- what an act reached
abbrev pub StaysSized : {O A R : Type 0} → Outcome O A R → Type 0
StaysSized (Done answer x) = IsSized x
StaysSized (Aborted reason x) = IsSized x
