-- The language of scripts.
use Rattle.std.specs.Prelude.{ℕ, List, Option, Some, None, Ok, Err, cond}
use Rattle.ode_value.specs.Answers.{Answer, ◌>>=◌}
use Rattle.ode_value.specs.Language.{Language}
use Rattle.ode_value.specs.declared.change.Change.{Change}
use Rattle.ode_value.specs.declared.reason.Refusal.TheVariants as refusal
use Rattle.ode_value.specs.declared.statement.Statement.{Statement}
use Rattle.ode_lex.specs.declared.token.Token.{Token}
use Rattle.ode_lex.specs.Tokens.{Lexed, lexed, NoToken, Tokens}
use Rattle.ode_grammar.specs.declared.reader.Start.TheVariants as start
use Rattle.ode_terminals.specs.Seen.{begins_change, place_of}
use Rattle.ode_terminals.specs.declared.seen.Place.TheVariants as place
use Rattle.ode_syntax.specs.Built.{change_tree, script_tree}
use Rattle.ode_timer.specs.Dates.{instant_of}
use Rattle.ode_types.specs.Literals.{literals}
use Rattle.ode_types.specs.Static.{check_grown, check_statement}
use Rattle.ode_evolve.specs.Evolving.{change_class}
use Rattle.ode_language.specs.declared.reading.Piece.{Piece}
use Rattle.ode_language.specs.declared.reading.Piece.TheVariants as piece
use Rattle.ode_language.specs.Reading.{read}

-- the statement that tokens are
abbrev pub statement_in : List ℕ → List Token → Answer Statement
statement_in text tokens = do
  made ← read start.Statement (place_of text tokens) text tokens
  Ok (script_tree made.scripts)

-- The first refusal of a piece's bytes: what is no token, what is no text of the grammar, what is too high.
abbrev pub statement_by : List ℕ → Lexed → Answer Statement
statement_by text (NoToken at) = Err (refusal.NoToken at)
statement_by text (Tokens tokens) = statement_in text tokens

abbrev pub statement_of : List ℕ → Answer Statement
statement_of text = statement_by text (lexed text)

-- the change of a class that tokens are
abbrev pub change_in : List ℕ → List Token → Answer Change
change_in text tokens = do
  made ← read start.Change place.Change text tokens
  Ok (change_tree made.changes)

-- A piece that begins with the words `change class` is a change of a class, or has the first refusal of one.
abbrev pub change_by : List ℕ → Lexed → Option (Answer Change)
change_by text (NoToken at) = None
change_by text (Tokens tokens) = cond (begins_change text tokens) (Some (change_in text tokens)) None

abbrev pub change_of : List ℕ → Option (Answer Change)
change_of text = change_by text (lexed text)

-- a piece is a change of a class where it is to be one, and else a statement
abbrev pub as_piece : Option (Answer Change) → Answer Statement → Answer Piece
as_piece None statement = do
  s ← statement
  Ok (piece.Statement s)
as_piece (Some change) statement = do
  c ← change
  Ok (piece.Change c)

abbrev pub piece_by : List ℕ → Lexed → Answer Piece
piece_by text tokens = as_piece (change_by text tokens) (statement_by text tokens)

abbrev pub piece_of : List ℕ → Answer Piece
piece_of text = piece_by text (lexed text)

abbrev pub ode : Language
ode = record {
  change_of = change_of;
  statement_of = statement_of;
  literals = literals;
  class_of = check_grown;
  checked = check_statement;
  changed = change_class;
  instant_of = instant_of;
}
