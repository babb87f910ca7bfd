-- What a piece says of a world, and what of it is printed.
use Rattle.std.specs.Prelude.{ℕ, List, ◌++◌, codes, true, false, Result, Ok, Err}
use Rattle.ode_asksyn.specs.Reading.{comparison_of, query_of}
use Rattle.ode_asksyn.specs.declared.query.Query.{Query}
use Rattle.ode_machine.specs.Refusals.{classes_behind, classes_in}
use Rattle.ode_query.specs.Checking.{check_query, query_refs}
use Rattle.ode_query.specs.Texts.{Unanswered, answered, rows_text, unanswered_text}
use Rattle.ode_query.specs.declared.row.Row.{Row}
use Rattle.ode_same.specs.Comparing.{comparison_text}
use Rattle.ode_syntax.specs.declared.asked.Comparison.{Comparison}
use Rattle.ode_types.specs.Comparing.{check_compared}
use Rattle.ode_value.specs.Answers.{Answer, checks}
use Rattle.ode_value.specs.Decimal.{digits_of}
use Rattle.ode_value.specs.Texts.{line, refusal_text}
use Rattle.ode_value.specs.Worlds.{Bones}
use Rattle.ode_value.specs.declared.event.EventExpr.{EventExpr}
use Rattle.ode_questions.specs.declared.asked.Asked.{Asked}
use Rattle.ode_questions.specs.declared.asked.Asked.TheVariants.{Comparisons, Queries}
use Rattle.ode_questions.specs.declared.saying.Said.{Said}
use Rattle.ode_questions.specs.declared.turned.Why.{Why}
use Rattle.ode_questions.specs.declared.turned.Why.TheVariants.{NoRows, Refusal}

-- ---- what it says

-- what is said, or why there is nothing to say
abbrev pub Told : Type 0 → Type 0
Told R = Result R Why

infixl 10 ◌>>=◌
abbrev pub ◌>>=◌ : {R S : Type 0} → Told R → (R → Told S) → Told S
Ok r >>= next = next r
Err why >>= next = Err why

-- the first refusal is why
abbrev pub refusing : {R : Type 0} → Answer R → Told R
refusing (Ok r) = Ok r
refusing (Err refusal) = Err (Refusal refusal)

-- a query with slots in place of its names: its literals in the world, then the static rules
abbrev pub checked_in : Bones → Query → Told Query
checked_in b q = do
  classes ← refusing (classes_behind b (query_refs q))
  refusing (checks (check_query (classes_in b) classes q))

-- the text of rows, or why there are none
abbrev pub rows_told : Result (List Row) Unanswered → Told (List ℕ)
rows_told (Ok rows) = Ok (rows_text rows)
rows_told (Err why) = Err (NoRows (unanswered_text why))

-- a query's bytes: no token, no text of the grammar, one that is too high, then as it is checked, and then why it has no rows
unfoldable pub query_told : Bones → List ℕ → Told (List ℕ)
query_told b text = do
  q ← refusing (query_of text)
  checked ← checked_in b q
  rows_told (answered b checked)

-- the two events of a comparison with slots in place of their names
abbrev pub events_in : Bones → Comparison → Told (EventExpr × EventExpr)
events_in b c = refusing (checks (check_compared (classes_in b) c.class c.params c.first c.second))

-- the text of the verdict on them, or the limit on symbols or states that they break
abbrev pub verdict_in : Bones → Comparison → Told (List ℕ)
verdict_in b c = do
  events ← events_in b c
  refusing (comparison_text events.0 events.1)

-- a comparison's bytes: the same, but for literals, which it hasn't
unfoldable pub comparison_told : Bones → List ℕ → Told (List ℕ)
comparison_told b text = do
  c ← refusing (comparison_of text)
  verdict_in b c

abbrev pub told : Asked → Bones → List ℕ → Told (List ℕ)
told Queries = query_told
told Comparisons = comparison_told

-- ---- what is printed

-- why, in words
abbrev pub why_text : Why → List ℕ
why_text (Refusal refusal) = refusal_text refusal
why_text (NoRows reason) = reason

-- `refused LINE REASON`
abbrev pub refused_text : ℕ → List ℕ → List ℕ
refused_text at reason = line (codes "refused " ++ digits_of at ++ codes " " ++ reason)

abbrev pub said_of : ℕ → Told (List ℕ) → Said
said_of at (Ok text) = record { text = text; refused = false }
said_of at (Err why) = record { text = refused_text at (why_text why); refused = true }

-- of a piece whose first byte is on this line
abbrev pub said : Asked → Bones → ℕ → List ℕ → Said
said asked b at text = said_of at (told asked b text)
