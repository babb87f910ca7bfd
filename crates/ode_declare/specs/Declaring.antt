-- How a declaration answers, and what it is over an opened file.
use Rattle.std.specs.Prelude.{◌≡◌, ℕ, Option, Some, None, Ok, Err}
use Rattle.ode_class_laws.specs.Declaring.{bones_with}
use Rattle.ode_class_records.specs.ClassRows.{IsStoredBy, class_rows}
use Rattle.ode_class_records.specs.Puts.{puts}
use Rattle.ode_compile.specs.declared.compiling.Compiled.{Compiled}
use Rattle.ode_declared_laws.specs.Declared.{IsDeclared}
use Rattle.ode_heap_laws.specs.Few.{HasFewParts}
use Rattle.ode_keep.specs.Entries.{Changes, Entries, applied, value_under}
use Rattle.ode_overlay.specs.After.{stands_after}
use Rattle.ode_overlay.specs.Layers.{Layer}
use Rattle.ode_value.specs.Answers.{Answer}
use Rattle.ode_value.specs.GoodWorlds.{IsClass}
use Rattle.ode_value.specs.Language.{Language, ListWorld}
use Rattle.ode_value.specs.PrintedClasses.{decl_text}
use Rattle.ode_value.specs.Tables.{Table}
use Rattle.ode_value.specs.Weights.{weight}
use Rattle.ode_value.specs.Worlds.{Declared}
use Rattle.ode_value.specs.declared.key.Key.{Key}
use Rattle.ode_value.specs.declared.reason.Refusal.{Refusal}

-- the refusal, and nothing is changed; or the class, and it was declared
abbrev pub Declares : Answer Declared → Option Refusal → Type 0 → (Declared → Type 0) → Type 0
Declares (Err refusal) (Some why) unchanged declared = (why ≡ refusal) × unchanged
Declares (Ok c) None unchanged declared = declared c
Declares _ _ unchanged declared = ⊥

-- a declared class that was compiled so, with the changes that put its records, and the bytes of the world with it
pub record IsTaken (l : Language) (w : ListWorld) (c : Declared) (made : Compiled) (changes : Changes) (bytes : ℕ) : Type 0 where
  pub declared : IsDeclared l w c made.tables made.alphabets
  pub class : c.class ≡ made.class
  pub rows : (by : ℕ → ℕ → Table) → IsStoredBy by c c.class (decl_text c.tree) made.tables → changes ≡ puts (class_rows by c)
  pub weighs : bytes ≡ weight (bones_with c w.bones)

-- changes that are these, and behind them what an overlay's transaction does
pub record IsJoined (x : Layer) (changes all : Changes) : Type 0 where
  pub more : Changes
  pub stands : (at : Entries) (q : Key) → value_under (applied more at) q ≡ stands_after x at q
  pub both : (at : Entries) (q : Key) → value_under (applied all at) q ≡ value_under (applied more (applied changes at)) q

-- a compiled class that is a declared one of a world, with parts that a record can count
pub record IsMade (l : Language) (w : ListWorld) (c : Declared) (made : Compiled) : Type 0 where
  pub is : IsClass l w.bones.added w.bones.classes c
  pub few : HasFewParts c
  pub class : c.class ≡ made.class
  pub text : decl_text c.tree ≡ made.text
