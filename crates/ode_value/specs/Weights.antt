-- How many bytes the records of a world take, the queue's entries not counted. Each table counts with its states' trees.
use Rattle.std.specs.Prelude.{ℕ, ◌+◌, List, map, length}
use Rattle.std.specs.List.{sum_by}
use Rattle.ode_value.specs.declared.change.Added.{Added}
use Rattle.ode_value.specs.declared.class.Field.{Field}
use Rattle.ode_value.specs.declared.member.TriggerDecl.{TriggerDecl}
use Rattle.ode_value.specs.Fields.{born_values, fields_of}
use Rattle.ode_value.specs.Lengths.{added_length, counters_length, class_length, trigger_length, object_length, version_length, activation_length, class_records}
use Rattle.ode_value.specs.Objects.{Activation}
use Rattle.ode_value.specs.PrintedClasses.{decl_text}
use Rattle.ode_value.specs.Symbols.{symbol_count}
use Rattle.ode_value.specs.TreeCount.{tree_count}
use Rattle.ode_value.specs.Worlds.{Declared, Object, Bones}
use Rattle.ode_value.specs.Versions.{Version}

-- a trigger's table
abbrev pub trigger_weight : TriggerDecl → ℕ
trigger_weight t = trigger_length (tree_count t.event) (symbol_count t.event)

-- a class, with its text and its tables
abbrev pub class_weight : Declared → ℕ
class_weight c = class_length c.class.name (length (decl_text c.tree)) + sum_by trigger_weight c.class.triggers

-- a version, by the fields of its class: those that were there at its stamp count
abbrev pub version_weight : List Field → Version → ℕ
version_weight fields v = version_length v.stamp (born_values v.stamp fields v.fields)

-- an activation
abbrev pub activation_weight : Activation → ℕ
activation_weight a = activation_length a.args

-- an object, with its versions and activations
abbrev pub object_weight : List Declared → Object → ℕ
object_weight classes o =
    object_length + sum_by (version_weight (fields_of classes o.class)) o.versions + sum_by activation_weight o.activations

-- an added field
abbrev pub added_weight : Added → ℕ
added_weight a = added_length a.name a.value

-- a world
unfoldable pub weight : Bones → ℕ
weight b =
    counters_length (length b.added) + sum_by class_weight b.classes + sum_by (object_weight b.classes) b.objects
    + sum_by added_weight b.added

-- the states and symbols of a trigger's table
abbrev pub table_size : TriggerDecl → ℕ × ℕ
table_size t = (tree_count t.event, symbol_count t.event)

-- how many records a class takes
unfoldable pub record_count : Declared → ℕ
record_count c = class_records (length (decl_text c.tree)) (map table_size c.class.triggers)
