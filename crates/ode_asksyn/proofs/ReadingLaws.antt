-- What the parsers answer is what reading comes to.
use Rattle.std.proofs.Common.{◌≡◌, ℕ, List, Err, Ok, sym, ◌∙◌, ap}
use Rattle.ode_asksyn.specs.declared.query.Query.{Query}
use Rattle.ode_asksyn.specs.Parsing.{in_comparison, in_query, query_tree, IsComparisonOf, IsQueryOf}
use Rattle.ode_asksyn.specs.Reading.{comparison_of, made_by, query_of, stop_of}
use Rattle.ode_classyn.specs.Texts.{IsParsed, IsWhyNot, Standing}
use Rattle.ode_eventsyn.specs.declared.error.SyntaxError.{SyntaxError}
use Rattle.ode_eventsyn.specs.declared.error.SyntaxError.TheVariants as error
use Rattle.ode_grammar.specs.declared.reader.Start.{Start}
use Rattle.ode_grammar.specs.declared.reader.Start.TheVariants as start
use Rattle.ode_language.specs.Answers.{Answers}
use Rattle.ode_language.proofs.ReadingLaws.{tree_is_read, why_says}
use Rattle.ode_lex.specs.Tokens.{lexed}
use Rattle.ode_syntax.specs.declared.asked.Comparison.{Comparison}
use Rattle.ode_syntax.specs.declared.trees.Trees.{Trees}
use Rattle.ode_syntax.specs.Built.{comparison_tree}
use Rattle.ode_value.specs.Answers.{Answer, ◌>>=◌}

module _ {X : Type 0} (s : Start) (standing : Standing) (make : Trees → X) (text : List ℕ) where
  abbrev behind : Answer Trees → Answer X
  behind a = a >>= (λ (made : Trees). Ok (make made))

  is_read : (made : Trees) (x : X) → IsParsed s standing text made → x ≡ make made → made_by s standing make text (lexed text) ≡ Ok x
  is_read made x p e = ap (made_by s standing make text) p.lexed_as ∙ (ap behind (tree_is_read s (standing text p.tokens) text p.tokens made p.is_tree) ∙ ap Ok (sym e))

  is_refused : (e : SyntaxError) → IsWhyNot s standing text e → Answers {R = X} (made_by s standing make text (lexed text)) (Err (stop_of e))
  is_refused error.Memory h = tt
  is_refused (error.NoToken n) h = ap (made_by s standing make text) h
  is_refused (error.At n) h = ap (made_by s standing make text) h.lexed_as ∙ ap behind (why_says s (standing text h.tokens) text h.tokens (error.At n) h.why)
  is_refused (error.TooDeep n) h = ap (made_by s standing make text) h.lexed_as ∙ ap behind (why_says s (standing text h.tokens) text h.tokens (error.TooDeep n) h.why)

pub query_is_read : (text : List ℕ) (query : Query) → IsQueryOf text query → query_of text ≡ Ok query
query_is_read text query p = is_read start.Query in_query query_tree text p.0 query p.1 p.2

pub query_is_refused : (text : List ℕ) (e : SyntaxError) → IsWhyNot start.Query in_query text e → Answers {R = Query} (query_of text) (Err (stop_of e))
query_is_refused text e h = is_refused start.Query in_query query_tree text e h

pub comparison_is_read : (text : List ℕ) (comparison : Comparison) → IsComparisonOf text comparison → comparison_of text ≡ Ok comparison
comparison_is_read text comparison p = is_read start.Comparison in_comparison comparison_tree text p.0 comparison p.1 p.2

pub comparison_is_refused : (text : List ℕ) (e : SyntaxError) → IsWhyNot start.Comparison in_comparison text e
    → Answers {R = Comparison} (comparison_of text) (Err (stop_of e))
comparison_is_refused text e h = is_refused start.Comparison in_comparison comparison_tree text e h
