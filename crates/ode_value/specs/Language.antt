-- The machine over lists of points, and how its pieces are read.
use Rattle.std.specs.Prelude.{ℕ, ℤ, List, Option, Result}
use Rattle.ode_value.specs.declared.change.Added.{Added}
use Rattle.ode_value.specs.declared.change.Change.{Change}
use Rattle.ode_value.specs.declared.class.Class.{Class}
use Rattle.ode_value.specs.declared.reason.CheckError.{CheckError}
use Rattle.ode_value.specs.declared.reason.Refusal.{Refusal}
use Rattle.ode_value.specs.declared.statement.ClassDecl.{ClassDecl}
use Rattle.ode_value.specs.declared.statement.Statement.{Statement}
use Rattle.ode_value.specs.declared.statement.Stmt.{Stmt}
use Rattle.ode_value.specs.declared.value.Ref.{Ref}
use Rattle.ode_value.specs.Answers.{Answer}
use Rattle.ode_value.specs.Objects.{Histories, Starts}
use Rattle.ode_value.specs.Settling.{Settled}
use Rattle.ode_value.specs.Transactions.{Tx}
use Rattle.ode_value.specs.Worlds.{World}

-- a world of the machine over lists of points
abbrev pub ListWorld : Type 0
ListWorld = World Histories Starts

-- a transaction of it
abbrev pub ListTx : Type 0
ListTx = Tx Histories Starts

-- settled transactions, in order
abbrev pub Settlings : Type 0
Settlings = List (Settled Histories Starts)

-- How a script is read: a piece as a change of a class, where it begins as one, or as a statement, or the first refusal of its bytes;
-- the literals of a statement, in the order of the text; the checked class or statement, or the first broken rule, by the classes and by
-- the literals' classes, of a class also by the fields that were added to it; all classes checked anew for a change, by their trees and
-- all fields that were added; an instant.
pub record Language : Type 0 where
  pub change_of : List ℕ → Option (Answer Change)
  pub statement_of : List ℕ → Result Statement Refusal
  pub literals : Stmt → List Ref
  pub class_of : List Class → List Added → ClassDecl → Result Class CheckError
  pub checked : List Class → List (Ref × ℕ) → Stmt → Result Stmt CheckError
  pub changed : List ClassDecl → List Added → Change → Result (List Class) CheckError
  pub instant_of : List ℕ → Option ℤ
