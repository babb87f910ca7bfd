-- What a token adds to the trees of the parts that were read.
use Rattle.std.specs.Prelude.{ℕ, Bool, true, false, List, [], ◌∷◌, Option, Some, None, cond, codes, drop, length, nat_le, ◌&&◌, not}
use Rattle.std.specs.List.{list_all}
use Rattle.std.specs.Str.{bytes_eq}
use Rattle.ode_value.specs.Limits.{text_limit}
use Rattle.ode_value.specs.Text.{is_bad_byte}
use Rattle.ode_value.specs.Words.{is_free}
use Rattle.ode_value.specs.declared.event.Mode.{Mode}
use Rattle.ode_value.specs.declared.event.Mode.TheVariants as mode
use Rattle.ode_value.specs.declared.statement.Expr.{Expr}
use Rattle.ode_value.specs.declared.statement.Expr.TheVariants as expr
use Rattle.ode_value.specs.declared.statement.Sort.{Sort}
use Rattle.ode_value.specs.declared.statement.Sort.TheVariants as sort
use Rattle.ode_value.specs.declared.value.Value.TheVariants as value
use Rattle.ode_lex.specs.Texts.{content}
use Rattle.ode_lex.specs.declared.token.Mark.{Mark}
use Rattle.ode_lex.specs.declared.token.Token.{Token}
use Rattle.ode_lex.specs.declared.token.TokenKind.{TokenKind}
use Rattle.ode_lex.specs.declared.token.TokenKind.TheVariants as kind
use Rattle.ode_grammar.specs.declared.terminal.Terminal.{Terminal}
use Rattle.ode_grammar.specs.declared.terminal.Terminal.TheVariants as terminal
use Rattle.ode_grammar.specs.Terminals.{named}
use Rattle.ode_terminals.specs.declared.seen.Place.{Place}
use Rattle.ode_terminals.specs.Seen.{slice_of, terminal_of}
use Rattle.ode_syntax.specs.declared.trees.Trees.{Trees}

-- a token by itself: what the grammar sees of it, its kind and its bytes
pub record Spelled : Type 0 where
  pub terminal : Terminal
  pub kind : TokenKind
  pub bytes : List ℕ

abbrev pub spelled : Place → List ℕ → Token → Spelled
spelled place text token = record { terminal = terminal_of place text token; kind = token.kind; bytes = slice_of text token }

abbrev pub is_text_byte : ℕ → Bool
is_text_byte b = not (is_bad_byte b)

abbrev pub is_text : List ℕ → Bool
is_text bytes = nat_le (length bytes) text_limit && list_all is_text_byte bytes

-- the bytes, where they are a text, and else none
abbrev pub text_of : List ℕ → List ℕ
text_of bytes = cond (is_text bytes) bytes []

abbrev pub found : Option (List ℕ × ℕ) → List ℕ
found None = []
found (Some x) = x.0

-- the content of a text in quotes, its escapes undone
unfoldable pub content_of : List ℕ → List ℕ
content_of bytes = found (content (drop 1 bytes))

-- the name that a word is
abbrev pub name_of : List ℕ → List ℕ
name_of word = cond (is_free word) word (codes "x")

abbrev pub word_leaf : List ℕ → Expr
word_leaf word =
    cond (bytes_eq word (codes "true")) (expr.Lit (value.Bool true))
    (cond (bytes_eq word (codes "false")) (expr.Lit (value.Bool false))
    (cond (bytes_eq word (codes "null")) (expr.Lit (value.Reference (record { object = 0; version = None }))) expr.This))

abbrev pub leaf_of : TokenKind → List ℕ → Expr
leaf_of kind.Word bytes = word_leaf bytes
leaf_of (kind.Number n) bytes = expr.Lit (value.Int n)
leaf_of kind.Text bytes = expr.Lit (value.Text (text_of (content_of bytes)))
leaf_of (kind.Reference r) bytes = expr.Lit (value.Reference r)
leaf_of (kind.Mark m) bytes = expr.This

abbrev pub sort_of : List ℕ → Sort
sort_of word = cond (bytes_eq word (codes "int")) sort.Int (cond (bytes_eq word (codes "bool")) sort.Bool sort.Text)

abbrev pub mode_of : List ℕ → Mode
mode_of word =
    cond (bytes_eq word (codes "deferred")) mode.Deferred
    (cond (bytes_eq word (codes "dependent")) mode.Dependent
    (cond (bytes_eq word (codes "independent")) mode.Independent mode.Immediate))

abbrev pub marks_with : TokenKind → List Mark → List Mark
marks_with (kind.Mark m) marks = m ∷ marks
marks_with other marks = marks

abbrev pub with_leaf : TokenKind → List ℕ → Trees → Trees
with_leaf k bytes v = record v { leaves = leaf_of k bytes ∷ v.leaves }

abbrev pub with_mark : TokenKind → Trees → Trees
with_mark k v = record v { marks = marks_with k v.marks }

-- by what the grammar sees, a word that isn't reserved as a name: names, leaves, operators and the words that say something of a trigger or a sort are kept
unfoldable pub kept_as : Terminal → TokenKind → List ℕ → Trees → Trees
kept_as terminal.Name k bytes v = record v { names = name_of bytes ∷ v.names }
kept_as terminal.Leaf k bytes v = with_leaf k bytes v
kept_as terminal.Number k bytes v = with_leaf k bytes v
kept_as terminal.Seconds k bytes v = with_leaf k bytes v
kept_as terminal.Count k bytes v = with_leaf k bytes v
kept_as terminal.Text k bytes v = with_leaf k bytes v
kept_as terminal.Instant k bytes v = with_leaf k bytes v
kept_as terminal.Not k bytes v = with_mark k v
kept_as terminal.Minus k bytes v = with_mark k v
kept_as terminal.Plus k bytes v = with_mark k v
kept_as terminal.Times k bytes v = with_mark k v
kept_as terminal.Compares k bytes v = with_mark k v
kept_as terminal.AndAnd k bytes v = with_mark k v
kept_as terminal.OrOr k bytes v = with_mark k v
kept_as terminal.SortWord k bytes v = record v { sorts = sort_of bytes ∷ v.sorts }
kept_as terminal.Lasting k bytes v = record v { flags = bytes_eq bytes (codes "perpetual") ∷ v.flags }
kept_as terminal.Scope k bytes v = record v { flags = bytes_eq bytes (codes "whole") ∷ v.flags }
kept_as terminal.Mode k bytes v = record v { modes = mode_of bytes ∷ v.modes }
kept_as other k bytes v = v

abbrev pub kept : Spelled → Trees → Trees
kept s v = kept_as (named s.terminal) s.kind s.bytes v
