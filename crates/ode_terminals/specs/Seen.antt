-- What the grammar sees of a token of a text.
use Rattle.std.specs.Prelude.{ℕ, ◌-◌, ◌^◌, ◌==◌, ◌||◌, ◌&&◌, Bool, false, ℤ, pos, negsuc, nat_le, cond, codes, List, [], ◌∷◌, take, drop, length, Option, None, Some}
use Rattle.std.specs.Str.{bytes_eq}
use Rattle.ode_value.specs.Limits.{choose_limit}
use Rattle.ode_timer.specs.Dates.{instant_of}
use Rattle.ode_lex.specs.declared.token.Mark.{Mark}
use Rattle.ode_lex.specs.declared.token.Mark.TheVariants as mark
use Rattle.ode_lex.specs.declared.token.Token.{Token}
use Rattle.ode_lex.specs.declared.token.TokenKind.{TokenKind}
use Rattle.ode_lex.specs.declared.token.TokenKind.TheVariants as kind
use Rattle.ode_grammar.specs.declared.terminal.Terminal.{Terminal}
use Rattle.ode_grammar.specs.declared.terminal.Terminal.TheVariants as terminal
use Rattle.ode_terminals.specs.declared.seen.Place.{Place}
use Rattle.ode_terminals.specs.declared.seen.Place.TheVariants.{Change, Class, Comparison, Query, Script}
use Rattle.ode_terminals.specs.Words.{word_terminal}

abbrev pub mark_terminal : Mark → Terminal
mark_terminal mark.OpenBrace = terminal.OpenBrace
mark_terminal mark.CloseBrace = terminal.CloseBrace
mark_terminal mark.OpenParen = terminal.OpenParen
mark_terminal mark.CloseParen = terminal.CloseParen
mark_terminal mark.Semi = terminal.Semi
mark_terminal mark.Comma = terminal.Comma
mark_terminal mark.Dot = terminal.Dot
mark_terminal mark.Colon = terminal.Colon
mark_terminal mark.Assign = terminal.Assign
mark_terminal mark.Equal = terminal.Compares
mark_terminal mark.NotEqual = terminal.Compares
mark_terminal mark.Less = terminal.Compares
mark_terminal mark.LessEqual = terminal.Compares
mark_terminal mark.Greater = terminal.Compares
mark_terminal mark.GreaterEqual = terminal.Compares
mark_terminal mark.Plus = terminal.Plus
mark_terminal mark.Minus = terminal.Minus
mark_terminal mark.Star = terminal.Times
mark_terminal mark.Slash = terminal.Times
mark_terminal mark.Percent = terminal.Times
mark_terminal mark.Not = terminal.Not
mark_terminal mark.AndAnd = terminal.AndAnd
mark_terminal mark.OrOr = terminal.OrOr
mark_terminal mark.Arrow = terminal.Arrow

-- a number by its range
abbrev pub number_terminal : ℤ → Terminal
number_terminal (pos n) =
    cond (n == 0 || nat_le (2 ^ 32) n) terminal.Number (cond (nat_le n choose_limit) terminal.Count terminal.Seconds)
number_terminal (negsuc n) = terminal.Number

-- `this` stands in no statement of a script and no query, a reference in no class, and neither in a change of one or a comparison
abbrev pub this_terminal : Place → Terminal
this_terminal Script = terminal.Stray
this_terminal Query = terminal.Stray
this_terminal Change = terminal.Stray
this_terminal Comparison = terminal.Stray
this_terminal other = terminal.Leaf

abbrev pub reference_terminal : Place → Terminal
reference_terminal Class = terminal.Stray
reference_terminal Change = terminal.Stray
reference_terminal Comparison = terminal.Stray
reference_terminal other = terminal.Leaf

-- what stands between the quotes of a text
abbrev pub between_quotes : List ℕ → List ℕ
between_quotes bytes = take (length bytes - 2) (drop 1 bytes)

abbrev pub instant_terminal : Option ℤ → Terminal
instant_terminal None = terminal.Text
instant_terminal (Some second) = terminal.Instant

-- by the token's bytes
abbrev pub seen : Place → List ℕ → TokenKind → Terminal
seen place bytes kind.Word = cond (bytes_eq bytes (codes "this")) (this_terminal place) (word_terminal bytes)
seen place bytes (kind.Number n) = number_terminal n
seen place bytes kind.Text = instant_terminal (instant_of (between_quotes bytes))
seen place bytes (kind.Reference r) = reference_terminal place
seen place bytes (kind.Mark m) = mark_terminal m

abbrev pub slice_of : List ℕ → Token → List ℕ
slice_of text token = take (token.end - token.start) (drop token.start text)

abbrev pub terminal_of : Place → List ℕ → Token → Terminal
terminal_of place text token = seen place (slice_of text token) token.kind

-- a statement that begins with `class` is a class, and any other a script's own
abbrev pub place_of : List ℕ → List Token → Place
place_of text [] = Script
place_of text (token ∷ tokens) = cond (bytes_eq (slice_of text token) (codes "class")) Class Script

-- a piece that begins with the words `change class` is a change of a class
abbrev pub begins_change : List ℕ → List Token → Bool
begins_change text (first ∷ second ∷ tokens) = bytes_eq (slice_of text first) (codes "change") && bytes_eq (slice_of text second) (codes "class")
begins_change text _ = false
