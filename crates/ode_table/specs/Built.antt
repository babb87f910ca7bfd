-- What a table that was built says of its expression.
use Rattle.std.specs.Prelude.{◌≡◌, ℕ, ◌<◌, true, List, length, map}
use Rattle.ode_value.specs.declared.event.EventExpr.{EventExpr}
use Rattle.ode_value.specs.Limits.{state_limit}
use Rattle.ode_value.specs.Points.{fires}
use Rattle.ode_value.specs.Symbols.{Alphabet, symbol_count, alphabet}
use Rattle.ode_value.specs.Tables.{Table, IsWord, run, says_yes, word_marks}
use Rattle.ode_value.specs.TreeCount.{count_over, symbol_marks}
use Rattle.ode_value.specs.Trees.{answers}
use Rattle.ode_trees.specs.declared.growth.Reached.{Reached}
use Rattle.ode_symbols.specs.Alphabets.{are_conditions_of}
use Rattle.ode_table.specs.declared.error.BuildError.{BuildError}
use Rattle.ode_table.specs.declared.error.BuildError.TheVariants.{Memory, TooManyStates}

-- the table of an expression's trees
abbrev pub table_by : EventExpr → ℕ → Reached → Table
table_by e symbols r = record { states = length r.trees; symbols = symbols; next = r.next; yes = map (answers e) r.trees }

-- The table of an expression over the symbols of another, of which all its leaves and masks are: its states are the trees that words reach,
-- and after each word that isn't empty it answers as the expression fires on the word's marks.
pub record IsBuilt (e of : EventExpr) (t : Table) : Type 0 where
  pub symbols : t.symbols ≡ symbol_count of
  pub states : t.states ≡ count_over e (symbol_marks of)
  pub answers : (word : List ℕ) → IsWord t.symbols word → says_yes t (run t 0 word) ≡ fires e (word_marks of word)

-- this alphabet is that of an expression which has all leaves of the first one, and all its masks on composite events
pub record IsOver (e of : EventExpr) (a : Alphabet) : Type 0 where
  pub alphabet_is : a ≡ alphabet of
  pub conditions : are_conditions_of e of ≡ true

-- a table is refused where words reach more trees than a trigger may have states
abbrev pub IsRefused : EventExpr → EventExpr → BuildError → Type 0
IsRefused e of Memory = Unit {0}
IsRefused e of TooManyStates = state_limit < count_over e (symbol_marks of)
