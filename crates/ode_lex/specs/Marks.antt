-- The marks.
use Rattle.std.specs.Prelude.{ℕ, List, [], ◌∷◌, ◌++◌, length, Option, option_map, nat_eq, codes}
use Rattle.std.specs.List.{find, starts_with}
use Rattle.ode_lex.specs.declared.token.Mark.{Mark}
use Rattle.ode_lex.specs.declared.token.Mark.TheVariants.{OpenBrace, CloseBrace, OpenParen, CloseParen, Semi, Comma, Dot, Colon, Assign, Equal, NotEqual, Less, LessEqual, Greater, GreaterEqual, Plus, Minus, Star, Slash, Percent, Not, AndAnd, OrOr, Arrow}

-- how a mark is spelled
abbrev pub spelled_mark : Mark → List ℕ
spelled_mark OpenBrace = codes "{"
spelled_mark CloseBrace = codes "}"
spelled_mark OpenParen = codes "("
spelled_mark CloseParen = codes ")"
spelled_mark Semi = codes ";"
spelled_mark Comma = codes ","
spelled_mark Dot = codes "."
spelled_mark Colon = codes ":"
spelled_mark Assign = codes "="
spelled_mark Equal = codes "=="
spelled_mark NotEqual = codes "!="
spelled_mark Less = codes "<"
spelled_mark LessEqual = codes "<="
spelled_mark Greater = codes ">"
spelled_mark GreaterEqual = codes ">="
spelled_mark Plus = codes "+"
spelled_mark Minus = codes "-"
spelled_mark Star = codes "*"
spelled_mark Slash = codes "/"
spelled_mark Percent = codes "%"
spelled_mark Not = codes "!"
spelled_mark AndAnd = codes "&&"
spelled_mark OrOr = codes "||"
spelled_mark Arrow = codes "==>"

-- the marks of two bytes, and those of one
abbrev pub pair_marks : List Mark
pair_marks = Equal ∷ NotEqual ∷ LessEqual ∷ GreaterEqual ∷ AndAnd ∷ OrOr ∷ []

abbrev pub single_marks : List Mark
single_marks =
    OpenBrace ∷ CloseBrace ∷ OpenParen ∷ CloseParen ∷ Semi ∷ Comma ∷ Dot ∷ Colon ∷ Assign ∷ Less ∷ Greater
    ∷ Plus ∷ Minus ∷ Star ∷ Slash ∷ Percent ∷ Not ∷ []

-- the first of these marks that the bytes begin with, and its length
abbrev pub first_mark : List ℕ → List Mark → Option (Mark × ℕ)
first_mark bytes among =
    option_map (λ mark. (mark, length (spelled_mark mark))) (find (λ mark. starts_with nat_eq bytes (spelled_mark mark)) among)

-- the longest mark that the bytes begin with, and its length
unfoldable pub mark_at : List ℕ → Option (Mark × ℕ)
mark_at bytes = first_mark bytes (Arrow ∷ pair_marks ++ single_marks)
