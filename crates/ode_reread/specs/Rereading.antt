-- Texts with their trees, and how high they are.
use Rattle.std.specs.Prelude.{◌≡◌, ℕ, List, map}
use Rattle.ode_lex.specs.declared.token.Token.{Token}
use Rattle.ode_lex.specs.Tokens.{lexed, Tokens}
use Rattle.ode_grammar.specs.declared.reader.Start.{Start}
use Rattle.ode_grammar.specs.declared.reader.Start.TheVariants as start
use Rattle.ode_heights.specs.declared.height.TheConstants.{HEIGHT_LIMIT}
use Rattle.ode_heights.specs.Depths.{IsTextWithin}
use Rattle.ode_terminals.specs.declared.seen.Place.{Place}
use Rattle.ode_terminals.specs.declared.seen.Place.TheVariants as place
use Rattle.ode_terminals.specs.Seen.{terminal_of}
use Rattle.ode_value.specs.declared.event.EventExpr.{EventExpr}
use Rattle.ode_value.specs.declared.statement.Expr.{Expr}
use Rattle.ode_syntax.specs.declared.trees.Trees.{Trees}
use Rattle.ode_syntax.specs.Built.{event_tree, tree}
use Rattle.ode_syntax.specs.Kept.{spelled}
use Rattle.ode_syntax.specs.Trees.{Makes}

-- the text is one of this sort and of at most this height, and these are its trees
pub record IsRead (most : ℕ) (start : Start) (place : Place) (text : List ℕ) (made : Trees) : Type 0 where
  pub tokens : List Token
  pub lexed_as : lexed text ≡ Tokens tokens
  pub makes : Makes start (map (spelled place text) tokens) made
  pub within : IsTextWithin most start (map (terminal_of place text) tokens)

-- an expression, and an event expression, that a text within the limit of heights has
abbrev pub IsExprOf : List ℕ → Expr → Type 0
IsExprOf text e = (made : Trees) × IsRead HEIGHT_LIMIT start.Expr place.Anywhere text made × (e ≡ tree made.exprs)

abbrev pub IsEventOf : List ℕ → EventExpr → Type 0
IsEventOf text e = (made : Trees) × IsRead HEIGHT_LIMIT start.Event place.Class text made × (e ≡ event_tree made.events)
