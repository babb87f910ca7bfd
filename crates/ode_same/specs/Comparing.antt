-- What a comparison of two event expressions comes to.
use Rattle.std.specs.Prelude.{ℕ, zero, suc, ◌+◌, Bool, cond, not, min, nat_lt, List, [], ◌∷◌, codes, is_some, Option, Some, None, option_map, Ok}
use Rattle.std.specs.Option.{option_map_or}
use Rattle.ode_value.specs.Answers.{Answer, ◌>>=◌, ◌>>◌, refuses}
use Rattle.ode_value.specs.declared.event.EventExpr.{EventExpr}
use Rattle.ode_value.specs.declared.reason.Refusal.TheVariants as refusal
use Rattle.ode_value.specs.Limits.{counted_symbols, state_limit, symbol_limit}
use Rattle.ode_value.specs.Symbols.{alphabet, symbol_count}
use Rattle.ode_same.specs.declared.verdict.Verdict.{Verdict}
use Rattle.ode_same.specs.declared.verdict.Verdict.TheVariants.{Same, Differs}
use Rattle.ode_same.specs.Differing.{either, fires_at, longest_word, states_over}
use Rattle.ode_same.specs.Texts.{verdict_text}

-- what is found at the first of these numbers at which anything is: so many, from one on
unfoldable pub first_found : {A : Type 0} → (ℕ → Option A) → ℕ → ℕ → Option A
first_found find from zero = None
first_found find from (suc more) = cond (is_some (find from)) (find from) (first_found find (from + 1) more)

-- the first word of a length, in the order of symbols, that passes a test
unfoldable pub first_word : ℕ → (List ℕ → Bool) → ℕ → Option (List ℕ)
first_word symbols test zero = cond (test []) (Some []) None
first_word symbols test (suc more) = first_found (λ s. option_map (λ word. s ∷ word) (first_word symbols (λ word. test (s ∷ word)) more)) 0 symbols

-- exactly one of two expressions fires on a word's marks
abbrev pub one_fires : EventExpr → EventExpr → List ℕ → Bool
one_fires e f word = cond (fires_at e (either e f) word) (not (fires_at f (either e f) word)) (fires_at f (either e f) word)

-- the least of the shortest words on which one alone does
unfoldable pub least_word : EventExpr → EventExpr → Option (List ℕ)
least_word e f = first_found (first_word (symbol_count (either e f)) (one_fires e f)) 1 longest_word

abbrev pub verdict_of : EventExpr → EventExpr → Verdict
verdict_of e f = option_map_or (λ word. Differs word (fires_at e (either e f) word)) (least_word e f) Same

-- there are not too many symbols, nor too many states of the first or the second
abbrev pub few_symbols : EventExpr → EventExpr → Answer (Unit {0})
few_symbols e f = refuses (nat_lt symbol_limit (symbol_count (either e f))) (refusal.TooManySymbols (codes "same") (min (symbol_count (either e f)) counted_symbols))

abbrev pub few_first : EventExpr → EventExpr → Answer (Unit {0})
few_first e f = refuses (nat_lt state_limit (states_over e (either e f))) (refusal.TooManyStates (codes "first"))

abbrev pub few_second : EventExpr → EventExpr → Answer (Unit {0})
few_second e f = refuses (nat_lt state_limit (states_over f (either e f))) (refusal.TooManyStates (codes "second"))

-- the verdict, within the limits
unfoldable pub compared : EventExpr → EventExpr → Answer Verdict
compared e f = do
  few_symbols e f
  few_first e f
  few_second e f
  Ok (verdict_of e f)

-- the text of a comparison
unfoldable pub comparison_text : EventExpr → EventExpr → Answer (List ℕ)
comparison_text e f = do
  verdict ← compared e f
  Ok (verdict_text (alphabet (either e f)) verdict)
