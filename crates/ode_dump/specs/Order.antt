-- The order of a dump: of lines under the keys of their records.
use Rattle.std.specs.Prelude.{ℕ, List, ◌++◌, ◌==◌, ◌&&◌}
use Rattle.std.specs.List.{filter, flat_map}
use Rattle.ode_value.specs.Keys.{counters_kind, class_head_kind, table_head_kind, object_kind, version_kind, activation_kind, entry_kind}
use Rattle.ode_value.specs.declared.key.Key.{Key}

-- lines under keys, in the order of these
abbrev pub Lines : Type 0
Lines = List (Key × List ℕ)

-- those of a kind
abbrev pub of_kind : ℕ → Lines → Lines
of_kind kind lines = filter (λ l. l.0.kind == kind) lines

-- and of these those under this first number
abbrev pub under : ℕ → ℕ → Lines → Lines
under kind a lines = filter (λ l. (l.0.kind == kind) && (l.0.a == a)) lines

-- one behind the other
abbrev pub joined : Lines → List ℕ
joined lines = flat_map (λ l. l.1) lines

-- a class with the tables of its triggers
abbrev pub with_tables : Lines → Key × List ℕ → List ℕ
with_tables lines class = class.1 ++ joined (under table_head_kind class.0.a lines)

-- an object with its versions and its activations
abbrev pub with_parts : Lines → Key × List ℕ → List ℕ
with_parts lines object = object.1 ++ joined (under version_kind object.0.a lines) ++ joined (under activation_kind object.0.a lines)

-- the counters, the classes, the objects, the queue
abbrev pub in_order : Lines → List ℕ
in_order lines =
    joined (of_kind counters_kind lines)
    ++ flat_map (with_tables lines) (of_kind class_head_kind lines)
    ++ flat_map (with_parts lines) (of_kind object_kind lines)
    ++ joined (of_kind entry_kind lines)
