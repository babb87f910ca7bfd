-- Texts that are a body, with its statements, and how high they are.
use Rattle.std.specs.Prelude.{◌≡◌, ◌≤◌, ℕ, List, [], map}
use Rattle.ode_lex.specs.declared.token.Token.{Token}
use Rattle.ode_lex.specs.Tokens.{lexed, Tokens}
use Rattle.ode_grammar.specs.Stacks.{top}
use Rattle.ode_grammar.specs.Statements.{body}
use Rattle.ode_grammar.specs.Texts.{Derives}
use Rattle.ode_heights.specs.declared.height.Heights.{Heights}
use Rattle.ode_heights.specs.Heights.{heights, highest, none}
use Rattle.ode_terminals.specs.declared.seen.Place.{Place}
use Rattle.ode_terminals.specs.Seen.{terminal_of}
use Rattle.ode_value.specs.declared.statement.Stmt.{Stmt}
use Rattle.ode_syntax.specs.declared.trees.Trees.{Trees}
use Rattle.ode_syntax.specs.Kept.{spelled}
use Rattle.ode_syntax.specs.Trees.{no_trees, trees}

-- the text is braces with these statements in them, and of at most this height
pub record IsBodyOf (most : ℕ) (place : Place) (text : List ℕ) (statements : List Stmt) : Type 0 where
  pub tokens : List Token
  pub lexed_as : lexed text ≡ Tokens tokens
  pub made : Trees
  pub makes : Derives trees body no_trees (map (spelled place text) tokens) made
  pub same : statements ≡ top [] made.bodies
  pub high : Heights
  pub is_high : Derives heights body none (map (terminal_of place text) tokens) high
  pub within : highest high ≤ most
