-- What a query and a comparison say, step by step.
use Rattle.std.proofs.Common.{◌≡◌, ◌∙◌, List, Result, Ok, Err, ℕ, ap, subst, sym}
use Rattle.ode_asksyn.specs.Reading.{comparison_of, query_of}
use Rattle.ode_asksyn.specs.declared.query.Query.{Query}
use Rattle.ode_machine.specs.Refusals.{classes_behind, classes_in}
use Rattle.ode_query.specs.Checking.{check_query, query_refs}
use Rattle.ode_query.specs.Texts.{Unanswered, answered, rows_text}
use Rattle.ode_query.specs.declared.row.Row.{Row}
use Rattle.ode_same.specs.Comparing.{comparison_text}
use Rattle.ode_syntax.specs.declared.asked.Comparison.{Comparison}
use Rattle.ode_types.specs.Comparing.{check_compared}
use Rattle.ode_value.specs.Worlds.{Bones}
use Rattle.ode_value.specs.declared.class.Class.{Class}
use Rattle.ode_value.specs.declared.event.EventExpr.{EventExpr}
use Rattle.ode_value.specs.declared.value.Ref.{Ref}
use Rattle.ode_questions.proofs.StepLaws.{answers_then, answers_turned, checking, over_ok, over_then, over_turned}
use Rattle.ode_questions.specs.Saying.{Told, ◌>>=◌, checked_in, comparison_told, events_in, query_told, refusing, rows_told, verdict_in}
use Rattle.ode_questions.specs.Steps.{Answers, AnswersOver}
use Rattle.ode_questions.specs.declared.turned.Turned.{Turned}

-- ---- a query

module _ (b : Bones) (q : Query) where
  abbrev by_classes : List (Ref × ℕ) → Told Query
  by_classes classes = checking (check_query (classes_in b) classes q)

  -- its literals are these
  abbrev by_literals : List Ref → Told Query
  by_literals refs = refusing (classes_behind b refs) >>= by_classes

  pub literals_turned : (refs : List Ref) (t : Turned) (holds : Type 0) → refs ≡ query_refs q → AnswersOver {R = List (Ref × ℕ)} (refusing (classes_behind b refs)) (Err t) holds → AnswersOver {R = Query} (checked_in b q) (Err t) holds
  literals_turned refs t holds are over =
      subst (λ (m : Told Query). AnswersOver {R = Query} m (Err t) holds) (ap by_literals are) (over_turned (refusing (classes_behind b refs)) by_classes t holds over)

  pub checked_over : (refs : List Ref) (classes : List (Ref × ℕ)) (known : List Class) (result : Result Query Turned) (holds : Type 0) → refs ≡ query_refs q → refusing (classes_behind b refs) ≡ Ok classes → known ≡ classes_in b
      → AnswersOver (checking (check_query known classes q)) result holds → AnswersOver (checked_in b q) result holds
  checked_over refs classes known result holds are is same over =
      subst (λ (m : Told Query). AnswersOver m result holds) (ap by_literals are)
      (over_then (refusing (classes_behind b refs)) by_classes classes result holds is
      (subst (λ (ks : List Class). AnswersOver (checking (check_query ks classes q)) result holds) same over))

-- the rows that it is answered
pub rows_over : (meant : Result (List Row) Unanswered) (rows slice : List Row) (text : List ℕ) (holds : Type 0) → meant ≡ Ok rows → slice ≡ rows → text ≡ rows_text slice → holds → AnswersOver (rows_told meant) (Ok text) holds
rows_over meant rows slice text holds is same told keeps =
    over_ok (rows_told meant) text holds (ap rows_told is ∙ ap (λ (rs : List Row). Ok (rows_text rs)) (sym same) ∙ ap (λ (t : List ℕ). Ok t) (sym told)) keeps

module _ (b : Bones) (text : List ℕ) where
  abbrev by_rows : Query → Told (List ℕ)
  by_rows checked = rows_told (answered b checked)

  abbrev by_check : Query → Told (List ℕ)
  by_check q = checked_in b q >>= by_rows

  pub query_unread : (t : Turned) (holds : Type 0) → AnswersOver {R = Query} (refusing (query_of text)) (Err t) holds → AnswersOver {R = List ℕ} (query_told b text) (Err t) holds
  unfolding query_told
  query_unread t holds over = over_turned (refusing (query_of text)) by_check t holds over

  pub query_unchecked : (q : Query) (t : Turned) (holds : Type 0) → refusing (query_of text) ≡ Ok q → AnswersOver {R = Query} (checked_in b q) (Err t) holds → AnswersOver {R = List ℕ} (query_told b text) (Err t) holds
  unfolding query_told
  query_unchecked q t holds is over = over_then (refusing (query_of text)) by_check q (Err t) holds is (over_turned (checked_in b q) by_rows t holds over)

  pub query_answered : (q checked : Query) (result : Result (List ℕ) Turned) (holds : Type 0) → refusing (query_of text) ≡ Ok q → checked_in b q ≡ Ok checked → AnswersOver (rows_told (answered b checked)) result holds
      → AnswersOver (query_told b text) result holds
  unfolding query_told
  query_answered q checked result holds is checks over =
      over_then (refusing (query_of text)) by_check q result holds is (over_then (checked_in b q) by_rows checked result holds checks over)

  -- ---- a comparison

  pub comparison_unread : (t : Turned) → Answers {R = Comparison} (refusing (comparison_of text)) (Err t) → Answers {R = List ℕ} (comparison_told b text) (Err t)
  unfolding comparison_told
  comparison_unread t is = answers_turned (refusing (comparison_of text)) (verdict_in b) t is

  pub comparison_read : (c : Comparison) (result : Result (List ℕ) Turned) → refusing (comparison_of text) ≡ Ok c → Answers (verdict_in b c) result → Answers (comparison_told b text) result
  unfolding comparison_told
  comparison_read c result is answers = answers_then (refusing (comparison_of text)) (verdict_in b) c result is answers

module _ (b : Bones) (c : Comparison) (known : List Class) (same : known ≡ classes_in b) where
  abbrev by_events : EventExpr × EventExpr → Told (List ℕ)
  by_events events = refusing (comparison_text events.0 events.1)

  abbrev checked_among : List Class → Told (EventExpr × EventExpr)
  checked_among ks = checking (check_compared ks c.class c.params c.first c.second)

  pub events_turned : (t : Turned) → Answers {R = EventExpr × EventExpr} (checked_among known) (Err t) → Answers {R = List ℕ} (verdict_in b c) (Err t)
  events_turned t turned = answers_turned (events_in b c) by_events t (subst (λ (ks : List Class). Answers {R = EventExpr × EventExpr} (checked_among ks) (Err t)) same turned)

  pub events_answered : (events : EventExpr × EventExpr) (result : Result (List ℕ) Turned) → checked_among known ≡ Ok events → Answers (refusing (comparison_text events.0 events.1)) result → Answers (verdict_in b c) result
  events_answered events result checks answers = answers_then (events_in b c) by_events events result (ap checked_among (sym same) ∙ checks) answers
