-- What becomes of the records of an object.
use Rattle.std.specs.Prelude.{ℕ, ◌≤◌, List, length, cond, ◌==◌, Option, Some, None}
use Rattle.std.specs.BTreeMap.{insert_entry}
use Rattle.std.specs.List.{All, find}
use Rattle.std.specs.Map.{values_of}
use Rattle.std.specs.Option.{IfSome, unwrap_or}
use Rattle.ode_codec.specs.declared.record.Activation.{Activation}
use Rattle.ode_codec.specs.declared.record.Record.TheVariants as of
use Rattle.ode_codec.specs.Rules.{IsCounted}
use Rattle.ode_codec.specs.Spelling.{value_of}
use Rattle.ode_keep.specs.Entries.{Changes}
use Rattle.ode_objects.specs.Objects.{has_number, is_numbered}
use Rattle.ode_objects.specs.declared.object.Active.{Active}
use Rattle.ode_objects.specs.declared.object.Fields.{Fields}
use Rattle.ode_objects.specs.declared.object.Fields.TheVariants.{Read, Written}
use Rattle.ode_objects.specs.declared.object.Object.{Object}
use Rattle.ode_objects.specs.declared.object.Version.{Version}
use Rattle.ode_objects.specs.declared.records.Becomes.{Becomes}
use Rattle.ode_objects.specs.declared.records.Becomes.TheVariants.{Is, Goes, Stays}
use Rattle.ode_value.specs.Keys.{activation_kind, key_cmp, object_kind, version_kind}
use Rattle.ode_value.specs.Limits.{value_limit}
use Rattle.ode_value.specs.declared.key.Key.{Key}

-- ---- what becomes of the record under a key

-- a record that is put has a spelling, and its value isn't too long
abbrev pub IsKeptChange : Becomes → Type 0
IsKeptChange (Is r) = IsCounted r × (length (value_of r) ≤ value_limit)
IsKeptChange Goes = Unit {0}
IsKeptChange Stays = Unit {0}

abbrev pub object_record : ℕ → Object → Becomes
object_record id o = Is (of.Object id o.class o.last)

-- fields that were written; those that were read stay
abbrev pub fields_record : ℕ → Version → Fields → Becomes
fields_record id v (Written kept) = Is (of.Version id v.number (unwrap_or v.parent 0) kept.0 kept.1)
fields_record id v (Read stamp values) = Stays

abbrev pub version_record : ℕ → Option Version → Becomes
version_record id None = Goes
version_record id (Some v) = fields_record id v v.fields

abbrev pub activation_by : ℕ → Active → Activation
activation_by id a = record { object = id; number = a.number; class = a.class; trigger = a.trigger; state = a.state; args = a.args }

-- an activation that is off goes
abbrev pub active_record : ℕ → Option Active → Becomes
active_record id None = Goes
active_record id (Some a) = cond a.on (Is (of.Activation (activation_by id a))) Goes

-- the records of an object, by their kinds
unfoldable pub part_record : Key → Object → Becomes
part_record k o =
    cond (k.kind == object_kind) (object_record k.a o)
    (cond (k.kind == version_kind) (version_record k.a (find (is_numbered k.b) o.versions))
    (cond (k.kind == activation_kind) (active_record k.a (find (has_number k.b) o.activations)) Stays))

-- those of an object that isn't live go
abbrev pub object_becomes : Key → Object → Becomes
object_becomes k o = cond o.live (part_record k o) Goes

-- ---- the changes of a batch

abbrev pub put_becomes : Key → Becomes → Changes → Changes
put_becomes k (Is r) cs = insert_entry key_cmp cs k (Some (value_of r))
put_becomes k Goes cs = insert_entry key_cmp cs k None
put_becomes k Stays cs = cs

-- no value that is put is too long
abbrev pub AreShort : Changes → Type 0
AreShort cs = All (λ (w : Option (List ℕ)). IfSome w (λ bytes. length bytes ≤ value_limit)) (values_of cs)
