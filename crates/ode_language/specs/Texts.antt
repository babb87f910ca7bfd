-- What a text is.
use Rattle.std.specs.Prelude.{◌≡◌, ℕ, List, Ok}
use Rattle.ode_value.specs.Language.{Language}
use Rattle.ode_value.specs.declared.statement.Statement.{Statement}

-- a statement has a text
abbrev pub HasText : Language → Statement → Type 0
HasText l s = (piece : List ℕ) × (l.statement_of piece ≡ Ok s)
