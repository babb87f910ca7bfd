-- Where a text is too high.
use Rattle.std.specs.Prelude.{◌≤◌, ◌<◌, ℕ, ◌+◌, List, ◌++◌, take, length}
use Rattle.ode_grammar.specs.declared.terminal.Terminal.{Terminal}
use Rattle.ode_grammar.specs.declared.reader.Start.{Start}
use Rattle.ode_grammar.specs.Grammar.{items_of}
use Rattle.ode_grammar.specs.Texts.{Derives}
use Rattle.ode_heights.specs.declared.height.Heights.{Heights}
use Rattle.ode_heights.specs.Heights.{heights, highest, none}

-- the tokens are a text of at most this height
pub record IsTextWithin (most : ℕ) (start : Start) (tokens : List Terminal) : Type 0 where
  pub made : Heights
  pub is_text : Derives heights (items_of start) none tokens made
  pub within : highest made ≤ most

-- some text of at most this height begins with these tokens
pub record BeginsWithin (most : ℕ) (start : Start) (tokens : List Terminal) : Type 0 where
  pub more : List Terminal
  pub is_text : IsTextWithin most start (tokens ++ more)

-- no text of at most this height goes on with the token at this place, though one does with what stands before it
pub record IsTooDeepAt (most : ℕ) (start : Start) (tokens : List Terminal) (at : ℕ) : Type 0 where
  pub inside : at < length tokens
  pub before : BeginsWithin most start (take at tokens)
  pub deep : BeginsWithin most start (take (at + 1) tokens) → ⊥
