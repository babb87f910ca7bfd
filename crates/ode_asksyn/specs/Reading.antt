-- The query or the comparison of a piece's bytes, or their first refusal: what is no token, what is no text of the grammar, what is too
-- high.
use Rattle.std.specs.Prelude.{ℕ, List, Err, Ok}
use Rattle.ode_asksyn.specs.declared.query.Query.{Query}
use Rattle.ode_asksyn.specs.Parsing.{in_comparison, in_query, query_tree}
use Rattle.ode_classyn.specs.Texts.{Standing}
use Rattle.ode_eventsyn.specs.declared.error.SyntaxError.{SyntaxError}
use Rattle.ode_eventsyn.specs.declared.error.SyntaxError.TheVariants as error
use Rattle.ode_grammar.specs.declared.reader.Start.{Start}
use Rattle.ode_grammar.specs.declared.reader.Start.TheVariants as start
use Rattle.ode_language.specs.declared.reading.ReadStop.{ReadStop}
use Rattle.ode_language.specs.declared.reading.ReadStop.TheVariants as stop
use Rattle.ode_language.specs.Reading.{read}
use Rattle.ode_lex.specs.Tokens.{Lexed, lexed, NoToken, Tokens}
use Rattle.ode_syntax.specs.declared.asked.Comparison.{Comparison}
use Rattle.ode_syntax.specs.declared.trees.Trees.{Trees}
use Rattle.ode_syntax.specs.Built.{comparison_tree}
use Rattle.ode_value.specs.Answers.{Answer, ◌>>=◌}
use Rattle.ode_value.specs.declared.reason.Refusal.TheVariants as refusal

-- what is made of the trees of a text of this sort
module _ {X : Type 0} (start : Start) (standing : Standing) (make : Trees → X) (text : List ℕ) where
  abbrev pub made_by : Lexed → Answer X
  made_by (NoToken at) = Err (refusal.NoToken at)
  made_by (Tokens tokens) = do
    made ← read start (standing text tokens) text tokens
    Ok (make made)

abbrev pub query_of : List ℕ → Answer Query
query_of text = made_by start.Query in_query query_tree text (lexed text)

abbrev pub comparison_of : List ℕ → Answer Comparison
comparison_of text = made_by start.Comparison in_comparison comparison_tree text (lexed text)

-- the refusal that a cause is
abbrev pub stop_of : SyntaxError → ReadStop
stop_of error.Memory = stop.Memory
stop_of (error.NoToken at) = stop.Refused (refusal.NoToken at)
stop_of (error.At at) = stop.Refused (refusal.Syntax at)
stop_of (error.TooDeep at) = stop.Refused (refusal.TooDeep at)
