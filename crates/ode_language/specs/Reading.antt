-- Tokens read as a text: its trees, or the first token with which no text goes on, or none within the height.
use Rattle.std.specs.Prelude.{ℕ, suc, List, [], ◌∷◌, map, Bool, false, cond, nat_lt, Option, Some, None, Ok, Err}
use Rattle.std.specs.Option.{option_and_then, option_map, option_map_or}
use Rattle.ode_value.specs.Answers.{Answer}
use Rattle.ode_value.specs.declared.reason.Refusal.TheVariants as refusal
use Rattle.ode_lex.specs.declared.token.Token.{Token}
use Rattle.ode_grammar.specs.declared.item.Item.{Item}
use Rattle.ode_grammar.specs.declared.reader.Start.{Start}
use Rattle.ode_grammar.specs.declared.terminal.Terminal.{Terminal}
use Rattle.ode_grammar.specs.Grammar.{items_of}
use Rattle.ode_grammar.specs.Reading.{made_after, made_at_end, may_stop, next, reached, run}
use Rattle.ode_heights.specs.declared.height.Heights.{Heights}
use Rattle.ode_heights.specs.declared.height.TheConstants.{HEIGHT_LIMIT}
use Rattle.ode_heights.specs.Heights.{heights, highest, none}
use Rattle.ode_heights.specs.Lowest.{lowest}
use Rattle.ode_terminals.specs.declared.seen.Place.{Place}
use Rattle.ode_syntax.specs.declared.trees.Trees.{Trees}
use Rattle.ode_syntax.specs.Kept.{Spelled, spelled}
use Rattle.ode_syntax.specs.Trees.{no_trees, trees}
use Rattle.ode_eventsyn.specs.Parsing.{byte_of, seen}

-- the tokens are a text
abbrev pub is_text : Start → List Terminal → Bool
is_text start ts = option_map_or may_stop (reached (items_of start) ts) false

-- the first token with which no text goes on, or the number of all
abbrev pub wrong_at : List Item → List Terminal → ℕ
wrong_at items [] = 0
wrong_at items (t ∷ ts) = option_map_or (λ more. suc (wrong_at more ts)) (next items t) 0

-- the least high text that goes on is too high
abbrev pub is_deep : List Item → Heights → Bool
is_deep items h = nat_lt HEIGHT_LIMIT (highest (lowest items h))

-- the first token with which no text within the height goes on
abbrev pub deep_at : List Item → Heights → List Terminal → Option ℕ
deep_at items h [] = None
deep_at items h (t ∷ ts) =
    option_and_then (λ more. cond (is_deep more (made_after heights items h t)) (Some 0) (option_map suc (deep_at more (made_after heights items h t) ts))) (next items t)

-- the trees that are made of them
abbrev pub trees_of : Start → List Spelled → Trees
trees_of start ts = option_map_or (λ (r : List Item × Trees). made_at_end trees r.0 r.1) (run trees (items_of start) no_trees ts) no_trees

module _ (start : Start) (place : Place) (text : List ℕ) (tokens : List Token) where
  -- of a text: its trees, where it isn't too high
  abbrev pub read_text : Answer Trees
  read_text = option_map_or (λ i. Err (refusal.TooDeep (byte_of text tokens i))) (deep_at (items_of start) none (seen place text tokens)) (Ok (trees_of start (map (spelled place text) tokens)))

  -- of any tokens
  abbrev pub read : Answer Trees
  read = cond (is_text start (seen place text tokens)) read_text (Err (refusal.Syntax (byte_of text tokens (wrong_at (items_of start) (seen place text tokens)))))
