-- What the text of a change of a class is, how the change answers, and when there is room for its fields.
use Rattle.std.specs.Prelude.{◌≡◌, ◌≤◌, ℕ, ◌+◌, List, Option, Some, None, Ok, Err, length, map}
use Rattle.std.specs.List.{AllByRecursion}
use Rattle.ode_change_laws.specs.Behind.{IsBehind}
use Rattle.ode_changed_laws.specs.Records.{fields_put, new_in}
use Rattle.ode_codec.specs.declared.record.Counters.{Counters}
pub use Rattle.ode_declare.specs.Declaring.{Declares}
use Rattle.ode_heap.specs.Answering.{class_of, counters_of}
use Rattle.ode_heap_laws.specs.Few.{HasFewParts}
use Rattle.ode_keep.specs.Entries.{Changes as Batch}
use Rattle.ode_value.specs.Answers.{Answer}
use Rattle.ode_value.specs.Changing.{changed_bones}
use Rattle.ode_value.specs.Language.{Language, ListWorld}
use Rattle.ode_value.specs.Limits.{weight_limit}
use Rattle.ode_value.specs.Weights.{weight}
use Rattle.ode_value.specs.Worlds.{Declared}
use Rattle.ode_value.specs.declared.change.Change.{Change}
use Rattle.ode_value.specs.declared.class.Class.{Class}
use Rattle.ode_value.specs.declared.reason.Refusal.{Refusal}

-- a change has a text
abbrev pub HasChange : Language → Change → Type 0
HasChange l c = (piece : List ℕ) × (l.change_of piece ≡ Some (Ok c))

-- the refusal, and nothing is changed; or all classes with the new fields, and the class was changed
abbrev pub Changes : Answer (List Declared) → Option Refusal → Type 0 → (List Declared → Type 0) → Type 0
Changes (Err refusal) (Some why) unchanged changed = (why ≡ refusal) × unchanged
Changes (Ok classes) None unchanged changed = changed classes
Changes _ _ unchanged changed = ⊥

-- These counters are the world's, these classes are those behind the change, with so many added fields, this batch puts the new ones, and
-- the world with them weighs these bytes, which aren't too many.
pub record IsTaken (l : Language) (w : ListWorld) (c : Change) (all : List Declared) (known : Counters) (checked : List Class) (count : ℕ) (put : Batch) (bytes : ℕ) : Type 0 where
  pub behind : IsBehind l w.bones c all
  pub few : AllByRecursion HasFewParts all
  pub counters : known ≡ counters_of w.bones
  pub classes : checked ≡ map class_of all
  pub added : count ≡ length w.bones.added + length c.fields
  pub batch : put ≡ fields_put checked (new_in checked (length w.bones.added) c)
  pub weighs : bytes ≡ weight (changed_bones w.bones c all)
  pub light : weight (changed_bones w.bones c all) ≤ weight_limit
