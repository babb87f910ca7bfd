-- Which tree the text of a class or of a statement has, and why another has none.
use Rattle.std.specs.Prelude.{◌≡◌, ℕ, List}
use Rattle.ode_lex.specs.declared.token.Token.{Token}
use Rattle.ode_lex.specs.Tokens.{lexed, NoToken, Tokens}
use Rattle.ode_grammar.specs.declared.reader.Start.{Start}
use Rattle.ode_grammar.specs.declared.reader.Start.TheVariants as start
use Rattle.ode_terminals.specs.declared.seen.Place.{Place}
use Rattle.ode_terminals.specs.declared.seen.Place.TheVariants as place
use Rattle.ode_terminals.specs.Seen.{place_of}
use Rattle.ode_value.specs.declared.statement.ClassDecl.{ClassDecl}
use Rattle.ode_value.specs.declared.statement.Statement.{Statement}
use Rattle.ode_syntax.specs.declared.trees.Trees.{Trees}
use Rattle.ode_syntax.specs.Built.{class_tree, script_tree}
use Rattle.ode_eventsyn.specs.declared.error.SyntaxError.{SyntaxError}
use Rattle.ode_eventsyn.specs.declared.error.SyntaxError.TheVariants as error
use Rattle.ode_eventsyn.specs.Parsing.{AreTree, IsWhyWhole}

-- where tokens of a text stand
abbrev pub Standing : Type 0
Standing = List ℕ → List Token → Place

abbrev pub in_class : Standing
in_class text tokens = place.Class

-- the text's tokens are a text of this sort within the limit, and these are its trees
pub record IsParsed (start : Start) (standing : Standing) (text : List ℕ) (made : Trees) : Type 0 where
  pub tokens : List Token
  pub lexed_as : lexed text ≡ Tokens tokens
  pub is_tree : AreTree start (standing text tokens) text tokens made

abbrev pub IsClassOf : List ℕ → ClassDecl → Type 0
IsClassOf text class = (made : Trees) × IsParsed start.Class in_class text made × (class ≡ class_tree made.classes)

abbrev pub IsStatementOf : List ℕ → Statement → Type 0
IsStatementOf text statement = (made : Trees) × IsParsed start.Statement place_of text made × (statement ≡ script_tree made.scripts)

-- the text has tokens, and this is why they have no tree
pub record IsUnparsed (start : Start) (standing : Standing) (text : List ℕ) (e : SyntaxError) : Type 0 where
  pub tokens : List Token
  pub lexed_as : lexed text ≡ Tokens tokens
  pub why : IsWhyWhole start (standing text tokens) text tokens e

-- why a text of this sort has no tree
abbrev pub IsWhyNot : Start → Standing → List ℕ → SyntaxError → Type 0
IsWhyNot start standing text error.Memory = Unit {0}
IsWhyNot start standing text (error.NoToken at) = lexed text ≡ NoToken at
IsWhyNot start standing text (error.At at) = IsUnparsed start standing text (error.At at)
IsWhyNot start standing text (error.TooDeep at) = IsUnparsed start standing text (error.TooDeep at)

-- why a text has no tokens
abbrev pub IsUnlexed : List ℕ → SyntaxError → Type 0
IsUnlexed text error.Memory = Unit {0}
IsUnlexed text (error.NoToken at) = lexed text ≡ NoToken at
IsUnlexed text other = ⊥
