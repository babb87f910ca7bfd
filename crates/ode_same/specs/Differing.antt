-- When two event expressions differ, and what a comparison of them answers.
use Rattle.std.specs.Prelude.{◌≡◌, ◌≢◌, ℕ, ◌*◌, ◌<◌, ◌≤◌, Bool, true, false, List, length, min}
use Rattle.ode_value.specs.declared.event.EventExpr.{EventExpr}
use Rattle.ode_value.specs.declared.event.EventExpr.TheVariants.{Or}
use Rattle.ode_value.specs.Limits.{counted_symbols, state_limit, symbol_limit}
use Rattle.ode_value.specs.Points.{fires}
use Rattle.ode_value.specs.Symbols.{symbol_count}
use Rattle.ode_value.specs.Tables.{IsWord, word_marks}
use Rattle.ode_value.specs.TreeCount.{count_over, symbol_marks}
use Rattle.ode_walk.specs.Relation.{is_lower}
use Rattle.ode_same.specs.declared.error.SameError.{SameError}
use Rattle.ode_same.specs.declared.error.SameError.TheVariants.{Memory, TooManySymbols, TooManyStates}
use Rattle.ode_same.specs.declared.verdict.Verdict.{Verdict}
use Rattle.ode_same.specs.declared.verdict.Verdict.TheVariants.{Same, Differs}

-- the expression whose symbols tell apart what each of two expressions does
unfoldable pub either : EventExpr → EventExpr → EventExpr
either e f = Or e f

-- whether an expression fires on the marks of a word over the symbols of another one
abbrev pub fires_at : EventExpr → EventExpr → List ℕ → Bool
fires_at e of word = fires e (word_marks of word)

-- the word isn't empty, and exactly one of two expressions fires on its marks
pub record Differ (e f : EventExpr) (word : List ℕ) : Type 0 where
  pub is_word : IsWord (symbol_count (either e f)) word
  pub one_fires : fires_at e (either e f) word ≢ fires_at f (either e f) word

-- No two expressions that are compared differ on longer words alone: as many symbols as there are pairs of their states, at most.
unfoldable pub longest_word : ℕ
longest_word = state_limit * state_limit

-- two expressions differ on a word, and on no shorter one, nor on a lower one of its length
pub record IsLeast (e f : EventExpr) (word : List ℕ) : Type 0 where
  pub differ : Differ e f word
  pub shortest : (other : List ℕ) → Differ e f other → length word ≤ length other
  pub least : (other : List ℕ) → Differ e f other → length other ≡ length word → is_lower other word ≡ false
  pub limit : length word ≤ longest_word

-- what a comparison says of two expressions
abbrev pub IsVerdict : EventExpr → EventExpr → Verdict → Type 0
IsVerdict e f Same = (word : List ℕ) → Differ e f word → ⊥
IsVerdict e f (Differs word first) = IsLeast e f word × (first ≡ fires_at e (either e f) word)

-- how many states the first, or the second, of two expressions has over the symbols of both
abbrev pub states_over : EventExpr → EventExpr → ℕ
states_over e of = count_over e (symbol_marks of)

-- there are no more symbols and states than a trigger may have
pub record IsAllowed (e f : EventExpr) : Type 0 where
  pub symbols : symbol_count (either e f) ≤ symbol_limit
  pub first : states_over e (either e f) ≤ state_limit
  pub second : states_over f (either e f) ≤ state_limit

-- the first of two expressions that has too many states
abbrev pub HasTooMany : EventExpr → EventExpr → Bool → Type 0
HasTooMany e f false = state_limit < states_over e (either e f)
HasTooMany e f true = (states_over e (either e f) ≤ state_limit) × (state_limit < states_over f (either e f))

-- two expressions aren't compared where there are too many symbols, which are told up to a limit, or else too many states
abbrev pub IsCause : EventExpr → EventExpr → SameError → Type 0
IsCause e f Memory = Unit {0}
IsCause e f (TooManySymbols count) = (symbol_limit < symbol_count (either e f)) × (count ≡ min (symbol_count (either e f)) counted_symbols)
IsCause e f (TooManyStates second) = (symbol_count (either e f) ≤ symbol_limit) × HasTooMany e f second
