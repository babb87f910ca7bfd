-- Which tree the text of a change of a class has.
use Rattle.std.specs.Prelude.{◌≡◌, ℕ, List}
use Rattle.ode_classyn.specs.Texts.{IsParsed, Standing}
use Rattle.ode_grammar.specs.declared.reader.Start.TheVariants as start
use Rattle.ode_syntax.specs.Built.{change_tree}
use Rattle.ode_syntax.specs.declared.trees.Trees.{Trees}
use Rattle.ode_terminals.specs.declared.seen.Place.TheVariants as place
use Rattle.ode_value.specs.declared.change.Change.{Change}

abbrev pub in_change : Standing
in_change text tokens = place.Change

abbrev pub IsChangeOf : List ℕ → Change → Type 0
IsChangeOf text change = (made : Trees) × IsParsed start.Change in_change text made × (change ≡ change_tree made.changes)
