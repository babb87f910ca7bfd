-- What the reading of a language promises.
use Rattle.std.specs.Prelude.{◌≡◌, ℕ, ℤ, List, ◌++◌, codes, FitsSigned, Some, Ok}
use Rattle.std.specs.Int.{w64}
use Rattle.std.specs.List.{AllByRecursion}
use Rattle.ode_value.specs.declared.change.Change.{Change}
use Rattle.ode_value.specs.declared.statement.ClassDecl.{ClassDecl}
use Rattle.ode_value.specs.declared.statement.Sort.{Sort}
use Rattle.ode_value.specs.declared.statement.Statement.TheVariants as statement
use Rattle.ode_value.specs.declared.statement.Stmt.{Stmt}
use Rattle.ode_value.specs.declared.value.Value.{Value}
use Rattle.ode_value.specs.declared.value.Value.TheVariants as value
use Rattle.ode_value.specs.Language.{Language}
use Rattle.ode_value.specs.PrintedClasses.{decl_text}
use Rattle.ode_value.specs.References.{IsRef}
use Rattle.ode_value.specs.Text.{IsName, IsText}

-- what a literal says: a number has 64 bits, and a text holds what a text may
abbrev pub IsReadValue : Value → Type 0
IsReadValue (value.Int n) = FitsSigned w64 n
IsReadValue (value.Text t) = IsText t
IsReadValue other = Unit {0}

-- a field that a change adds
pub record IsReadField (f : List ℕ × Sort × Value) : Type 0 where
  pub name : IsName f.0
  pub value : IsReadValue f.2

-- The literals of a statement that is read are references, a class that is read is read again from its printed text, the fields that a
-- change adds have names and literals in their ranges, and instants have 64 bits.
pub record ReadsWell (l : Language) : Type 0 where
  pub literals : (piece : List ℕ) (s : Stmt) → l.statement_of piece ≡ Ok (statement.Simple s) → AllByRecursion IsRef (l.literals s)
  pub again : (piece : List ℕ) (d : ClassDecl) → l.statement_of piece ≡ Ok (statement.Class d) → l.statement_of (decl_text d ++ codes ";") ≡ Ok (statement.Class d)
  pub changes : (piece : List ℕ) (c : Change) → l.change_of piece ≡ Some (Ok c) → AllByRecursion IsReadField c.fields
  pub instants : (text : List ℕ) (t : ℤ) → l.instant_of text ≡ Some t → FitsSigned w64 t
