-- Which trees tokens have, and where they are wrong or too high.
use Rattle.std.specs.Prelude.{◌≡◌, ◌≤◌, ◌<◌, ◌+◌, ℕ, List, map, take, length, slice_get, Option, Some, None, true, false}
use Rattle.ode_lex.specs.declared.token.Token.{Token}
use Rattle.ode_grammar.specs.declared.terminal.Terminal.{Terminal}
use Rattle.ode_grammar.specs.declared.reader.Start.{Start}
use Rattle.ode_grammar.specs.Texts.{IsText, Begins, IsExtent}
use Rattle.ode_heights.specs.declared.height.TheConstants.{HEIGHT_LIMIT}
use Rattle.ode_heights.specs.Depths.{IsTextWithin, IsTooDeepAt}
use Rattle.ode_terminals.specs.declared.seen.Place.{Place}
use Rattle.ode_terminals.specs.Seen.{terminal_of}
use Rattle.ode_syntax.specs.declared.trees.Trees.{Trees}
use Rattle.ode_syntax.specs.Kept.{spelled}
use Rattle.ode_syntax.specs.Trees.{Makes}
use Rattle.ode_eventsyn.specs.declared.error.SyntaxError.{SyntaxError}
use Rattle.ode_eventsyn.specs.declared.error.SyntaxError.TheVariants as error

-- the tokens as the grammar sees them
abbrev pub seen : Place → List ℕ → List Token → List Terminal
seen place text tokens = map (terminal_of place text) tokens

-- where a token begins, and where the text ends behind the last
abbrev pub start_of : List ℕ → Option Token → ℕ
start_of text None = length text
start_of text (Some token) = token.start

abbrev pub byte_of : List ℕ → List Token → ℕ → ℕ
byte_of text tokens i = start_of text (slice_get tokens i)

-- the tokens are a text of this sort within the limit, and these are its trees
pub record AreTree (start : Start) (place : Place) (text : List ℕ) (tokens : List Token) (made : Trees) : Type 0 where
  pub makes : Makes start (map (spelled place text) tokens) made
  pub within : IsTextWithin HEIGHT_LIMIT start (seen place text tokens)

-- ---- the longest text in front

-- so many tokens in front are a text within the limit, no text goes on behind them, and these are its trees
pub record IsLongest (start : Start) (place : Place) (text : List ℕ) (tokens : List Token) (end : ℕ) (made : Trees) : Type 0 where
  pub inside : end ≤ length tokens
  pub is_tree : AreTree start place text (take end tokens) made
  pub behind : end < length tokens → Begins start (take (end + 1) (seen place text tokens)) → ⊥

-- texts go on up to this token, and what stands before it is none
abbrev pub IsWrongAt : Start → List Terminal → ℕ → Type 0
IsWrongAt start tokens i = IsExtent start tokens (record { end = i; is_text = false })

-- the longest text in front is too high from this token on
pub record IsHighAt (start : Start) (tokens : List Terminal) (i : ℕ) : Type 0 where
  pub end : ℕ
  pub longest : IsExtent start tokens (record { end = end; is_text = true })
  pub high : IsTooDeepAt HEIGHT_LIMIT start (take end tokens) i

-- why there is no tree in front
abbrev pub IsWhy : Start → Place → List ℕ → List Token → SyntaxError → Type 0
IsWhy start place text tokens error.Memory = Unit {0}
IsWhy start place text tokens (error.NoToken at) = ⊥
IsWhy start place text tokens (error.At at) = (i : ℕ) × IsWrongAt start (seen place text tokens) i × (at ≡ byte_of text tokens i)
IsWhy start place text tokens (error.TooDeep at) = (i : ℕ) × IsHighAt start (seen place text tokens) i × (at ≡ byte_of text tokens i)

-- ---- all tokens

-- texts go on up to this token and not with it, and the tokens are none
pub record IsWrongWhole (start : Start) (tokens : List Terminal) (i : ℕ) : Type 0 where
  pub inside : i ≤ length tokens
  pub before : Begins start (take i tokens)
  pub behind : i < length tokens → Begins start (take (i + 1) tokens) → ⊥
  pub no_text : IsText start tokens → ⊥

-- the tokens are a text, and too high from this token on
pub record IsHighWhole (start : Start) (tokens : List Terminal) (i : ℕ) : Type 0 where
  pub is_text : IsText start tokens
  pub high : IsTooDeepAt HEIGHT_LIMIT start tokens i

-- why the tokens have no tree
abbrev pub IsWhyWhole : Start → Place → List ℕ → List Token → SyntaxError → Type 0
IsWhyWhole start place text tokens error.Memory = Unit {0}
IsWhyWhole start place text tokens (error.NoToken at) = ⊥
IsWhyWhole start place text tokens (error.At at) = (i : ℕ) × IsWrongWhole start (seen place text tokens) i × (at ≡ byte_of text tokens i)
IsWhyWhole start place text tokens (error.TooDeep at) = (i : ℕ) × IsHighWhole start (seen place text tokens) i × (at ≡ byte_of text tokens i)
