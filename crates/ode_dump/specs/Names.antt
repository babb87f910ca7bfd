-- The names of classes and triggers, by their numbers. They are empty where there is none.
use Rattle.std.specs.Prelude.{ℕ, List, [], slice_get}
use Rattle.std.specs.Option.{option_and_then, option_map_or}
use Rattle.ode_types.specs.Families.{class_numbered}
use Rattle.ode_value.specs.declared.class.Class.{Class}
use Rattle.ode_value.specs.declared.member.TriggerDecl.{TriggerDecl}

-- of a class
abbrev pub class_name : List Class → ℕ → List ℕ
class_name classes class = option_map_or (λ (c : Class). c.name) (class_numbered classes class) []

-- of a trigger, by the class that declares it and its place there
abbrev pub trigger_name : List Class → ℕ → ℕ → List ℕ
trigger_name classes class place = option_map_or (λ (t : TriggerDecl). t.name) (option_and_then (λ (c : Class). slice_get c.triggers place) (class_numbered classes class)) []
