-- How many bytes the records of objects take.
use Rattle.std.specs.Prelude.{ℕ, ◌+◌, ◌-◌, List, [], min, ◌^◌, cond}
use Rattle.std.specs.List.{sum_by}
use Rattle.std.specs.Option.{option_map_or}
use Rattle.ode_objects.specs.Objects.{stamp_of, values_of}
use Rattle.ode_objects.specs.declared.object.Active.{Active}
use Rattle.ode_objects.specs.declared.object.Object.{Object}
use Rattle.ode_objects.specs.declared.object.Version.{Version}
use Rattle.ode_objects.specs.declared.tracked.First.{First}
use Rattle.ode_objects.specs.declared.tracked.First.TheVariants.{Same, Other, Absent}
use Rattle.ode_objects.specs.declared.tracked.Tracked.{Tracked}
use Rattle.ode_types.specs.Families.{class_numbered}
use Rattle.ode_value.specs.declared.class.Class.{Class}
use Rattle.ode_value.specs.declared.class.Field.{Field}
use Rattle.ode_value.specs.Fields.{born_values}
use Rattle.ode_value.specs.Lengths.{activation_length, object_length, version_length}

-- a number, or the greatest of 64 bits
abbrev pub capped : ℕ → ℕ
capped n = min (2 ^ 64 - 1) n

-- a version, by the fields of its class: those that were there at its stamp count
abbrev pub version_weight : List Field → Version → ℕ
version_weight fields v = version_length (stamp_of v.fields) (born_values (stamp_of v.fields) fields (values_of v.fields))

-- an activation that is off has no record
abbrev pub active_weight : Active → ℕ
active_weight a = cond a.on (activation_length a.args) 0

-- the fields of the class of a number
abbrev pub class_fields : List Class → ℕ → List Field
class_fields classes number = option_map_or (λ (c : Class). c.fields) (class_numbered classes number) []

-- nor has an object that isn't live
abbrev pub object_weight : List Class → Object → ℕ
object_weight classes o = cond o.live (object_length + sum_by (version_weight (class_fields classes o.class)) o.versions + sum_by active_weight o.activations) 0

-- what the records of a changed object took before, and what they take now
abbrev pub first_weight : List Class → First → ℕ
first_weight classes Same = 0
first_weight classes (Other o) = object_weight classes o
first_weight classes Absent = 0

abbrev pub weight_before : List Class → Tracked → ℕ
weight_before classes t = first_weight classes t.first

abbrev pub changed_weight : List Class → Object → First → ℕ
changed_weight classes now Same = 0
changed_weight classes now (Other o) = object_weight classes now
changed_weight classes now Absent = object_weight classes now

abbrev pub weight_after : List Class → Tracked → ℕ
weight_after classes t = changed_weight classes t.current t.first
