-- The rows of changes of classes: what follows a token at each part.
use Rattle.std.specs.Prelude.{List, [], ◌∷◌, ◌++◌, Option, Some, None}
use Rattle.ode_grammar.specs.declared.terminal.Terminal.{Terminal}
use Rattle.ode_grammar.specs.declared.terminal.Terminal.TheVariants as terminal
use Rattle.ode_grammar.specs.declared.item.Part.TheVariants as part
use Rattle.ode_grammar.specs.declared.item.Action.TheVariants as action
use Rattle.ode_grammar.specs.declared.item.Item.{Item}
use Rattle.ode_grammar.specs.declared.item.Item.TheVariants.{Token, Part as A, Build}

-- addition := sort NAME "=" literal ";", behind its sort, and one more any number of times
abbrev pub additions : List Item
additions =
    Token terminal.Name ∷ Token terminal.Assign ∷ A part.Literal ∷ Token terminal.Semi ∷ Build action.Addition ∷ A part.Additions ∷ []

-- change := "change" "class" NAME "{" addition { addition } "}" ";"
abbrev pub change : List Item
change =
    Token terminal.Change ∷ Token terminal.Class ∷ Token terminal.Name ∷ Token terminal.OpenBrace ∷ Build action.Change ∷ A part.Sort
    ∷ additions ++ Token terminal.CloseBrace ∷ Token terminal.Semi ∷ []

abbrev pub additions_after : Terminal → Option (List Item)
additions_after terminal.SortWord = Some (Build action.Sort ∷ additions)
additions_after terminal.Ref = Some (Token terminal.Name ∷ Build action.RefSort ∷ additions)
additions_after other = None

-- literal := NUMBER | "-" NUMBER | TEXT | "true" | "false" | "null"
abbrev pub literal_after : Terminal → Option (List Item)
literal_after terminal.Leaf = Some []
literal_after terminal.Number = Some []
literal_after terminal.Seconds = Some []
literal_after terminal.Count = Some []
literal_after terminal.Text = Some []
literal_after terminal.Instant = Some []
literal_after terminal.Minus = Some (A part.Negative ∷ [])
literal_after other = None

abbrev pub negative_after : Terminal → Option (List Item)
negative_after terminal.Number = Some (Build action.Negative ∷ [])
negative_after terminal.Seconds = Some (Build action.Negative ∷ [])
negative_after terminal.Count = Some (Build action.Negative ∷ [])
negative_after other = None
