-- The alphabets of classes that were checked anew, beside the tables that they had.
use Rattle.std.specs.Prelude.{◌≡◌, ◌≤◌, List}
use Rattle.std.specs.List.{AllByRecursion, AllZip}
use Rattle.ode_opening.specs.Building.{triggers_of}
use Rattle.ode_opening_tables.specs.Tables.{alphabets_of}
use Rattle.ode_value.specs.Limits.{symbol_limit}
use Rattle.ode_value.specs.Symbols.{Alphabet, size_of, symbol_count}
use Rattle.ode_value.specs.Tables.{Table}
use Rattle.ode_value.specs.declared.class.Class.{Class}
use Rattle.ode_value.specs.declared.member.TriggerDecl.{TriggerDecl}

-- a table is one over as many symbols as an alphabet has
abbrev pub IsOver : Table → Alphabet → Type 0
IsOver table a = table.symbols ≡ size_of a

abbrev pub HasFewSymbols : TriggerDecl → Type 0
HasFewSymbols t = symbol_count t.event ≤ symbol_limit

-- each trigger of these classes, in order, has few symbols and one of these tables, over as many
pub record AreOver (tables : List Table) (classes : List Class) : Type 0 where
  pub few : AllByRecursion HasFewSymbols (triggers_of classes)
  pub are : AllZip IsOver tables (alphabets_of classes)
