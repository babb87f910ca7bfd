-- The row of comparisons of event expressions.
use Rattle.std.specs.Prelude.{List, [], ◌∷◌, ◌++◌}
use Rattle.ode_grammar.specs.declared.terminal.Terminal.TheVariants as terminal
use Rattle.ode_grammar.specs.declared.item.Part.TheVariants as part
use Rattle.ode_grammar.specs.declared.item.Action.TheVariants as action
use Rattle.ode_grammar.specs.declared.item.Item.{Item}
use Rattle.ode_grammar.specs.declared.item.Item.TheVariants.{Token, Part as A, Build}
use Rattle.ode_grammar.specs.Events.{event}

-- comparison := "same" NAME "(" [ params ] ")" ":" event "," event ";"
abbrev pub comparison : List Item
comparison =
    Token terminal.Same ∷ Build action.DropWord ∷ Token terminal.Name ∷ Token terminal.OpenParen ∷ Build action.Params ∷ A part.Params ∷ Token terminal.Colon
    ∷ event ++ Token terminal.Comma ∷ event ++ Token terminal.Semi ∷ []
