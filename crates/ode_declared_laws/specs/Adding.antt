-- A program with one more class.
use Rattle.std.specs.Prelude.{ℕ, List, [], ◌∷◌, ◌++◌, length}
use Rattle.ode_schema.specs.Parts.{Parts, table_by}
use Rattle.ode_value.specs.Symbols.{Alphabet}
use Rattle.ode_value.specs.Tables.{Table}
use Rattle.ode_value.specs.declared.class.Class.{Class}

-- a class behind the others, with its tables and their alphabets behind theirs
abbrev pub parts_with : Class → List Table → List Alphabet → Parts → Parts
parts_with c own alphabets p = record {
  classes = p.classes ++ c ∷ [];
  tables = p.tables ++ own;
  alphabets = p.alphabets ++ alphabets;
  maps = p.maps ++ length p.tables ∷ [];
}

-- the table of each trigger
abbrev pub tables_in : Parts → ℕ → ℕ → Table
tables_in p = table_by p.tables p.maps
