-- The rows of queries: what follows a token at each part.
use Rattle.std.specs.Prelude.{List, [], ◌∷◌, ◌++◌, Option, Some, None}
use Rattle.ode_grammar.specs.declared.terminal.Terminal.{Terminal}
use Rattle.ode_grammar.specs.declared.terminal.Terminal.TheVariants as terminal
use Rattle.ode_grammar.specs.declared.item.Part.TheVariants as part
use Rattle.ode_grammar.specs.declared.item.Action.TheVariants as action
use Rattle.ode_grammar.specs.declared.item.Item.{Item}
use Rattle.ode_grammar.specs.declared.item.Item.TheVariants.{Token, Part as A, Build}

-- range := NAME "in" NAME, a parameter whose sort is a reference
abbrev pub range : List Item
range =
    Token terminal.Name ∷ Token terminal.In ∷ Build action.DropWord ∷ Token terminal.Name ∷ Build action.RefSort ∷ Build action.Param ∷ []

-- exprs := expr { "," expr }
abbrev pub exprs : List Item
exprs = A part.Expr ∷ Build action.Argument ∷ A part.MoreExprs ∷ []

-- query := "for" range { "," range } [ "suchthat" expr ] [ "by" exprs ] "show" exprs ";", with at most 4 ranges
abbrev pub query : List Item
query =
    Token terminal.For ∷ Build action.DropWord ∷ Build action.Params ∷ range ++ A part.SecondRange ∷ Build action.Arguments ∷ A part.SuchThat
    ∷ Build action.Arguments ∷ A part.By ∷ Token terminal.Show ∷ Build action.Arguments ∷ exprs ++ Token terminal.Semi ∷ []

-- the row of one range more, or nothing
abbrev pub more_ranges : List Item → Terminal → Option (List Item)
more_ranges row terminal.Comma = Some row
more_ranges row other = None

abbrev pub such_that_after : Terminal → Option (List Item)
such_that_after terminal.SuchThat = Some (Build action.DropWord ∷ A part.Expr ∷ Build action.Argument ∷ [])
such_that_after other = None

abbrev pub by_after : Terminal → Option (List Item)
by_after terminal.By = Some (Build action.DropWord ∷ exprs)
by_after other = None

abbrev pub more_exprs_after : Terminal → Option (List Item)
more_exprs_after terminal.Comma = Some exprs
more_exprs_after other = None
