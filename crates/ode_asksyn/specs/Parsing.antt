-- Which query and which comparison a text is.
use Rattle.std.specs.Prelude.{◌≡◌, ℕ, List, map, slice_get}
use Rattle.ode_asksyn.specs.declared.query.Query.{Query}
use Rattle.ode_classyn.specs.Texts.{IsParsed, Standing}
use Rattle.ode_grammar.specs.declared.reader.Start.TheVariants as start
use Rattle.ode_syntax.specs.declared.asked.Comparison.{Comparison}
use Rattle.ode_syntax.specs.declared.asked.QueryParts.{QueryParts}
use Rattle.ode_syntax.specs.declared.trees.Trees.{Trees}
use Rattle.ode_syntax.specs.Built.{comparison_tree, query_parts}
use Rattle.ode_terminals.specs.declared.seen.Place.TheVariants as place
use Rattle.ode_value.specs.declared.binding.Param.{Param}
use Rattle.ode_value.specs.declared.statement.Sort.{Sort}
use Rattle.ode_value.specs.declared.statement.Sort.TheVariants as sort

-- the class that a variable refers to
abbrev pub class_in : List ℕ → Sort → List ℕ
class_in name (sort.Reference class) = class
class_in name other = name

abbrev pub range_of : Param → List ℕ × List ℕ
range_of p = (p.name, class_in p.name p.sort)

abbrev pub query_with : QueryParts → Query
query_with parts = record { over = map range_of parts.over; test = slice_get parts.test 0; by = parts.by; show = parts.show }

abbrev pub query_tree : Trees → Query
query_tree made = query_with (query_parts made)

abbrev pub in_query : Standing
in_query text tokens = place.Query

abbrev pub in_comparison : Standing
in_comparison text tokens = place.Comparison

abbrev pub IsQueryOf : List ℕ → Query → Type 0
IsQueryOf text query = (made : Trees) × IsParsed start.Query in_query text made × (query ≡ query_tree made)

abbrev pub IsComparisonOf : List ℕ → Comparison → Type 0
IsComparisonOf text comparison = (made : Trees) × IsParsed start.Comparison in_comparison text made × (comparison ≡ comparison_tree made)
