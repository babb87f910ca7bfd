-- What a query's answer comes to.
use Rattle.std.proofs.Common.{◌≡◌, ◌⊎◌, ◌∙◌, ⊎_elim, Bool, List, None, Option, Result, Some, Ok, Err, ℕ, ap, refl, subst, sym, true}
use Rattle.std.specs.Prelude.{IsErrOf}
use Rattle.std.specs.Option.{option_map}
use Rattle.ode_host.proofs.Calls.{rose_as}
use Rattle.ode_host.specs.Causes.{RoseIf}
use Rattle.ode_host.specs.Host.{Looks}
use Rattle.ode_host.specs.View.{View}
use Rattle.ode_query.specs.Answers.{IsAnswer, UnlessFault}
use Rattle.ode_query.specs.Texts.{Faulted, Output, TooManyRows, Unanswered, unanswered_by, unanswered_text}
use Rattle.ode_query.specs.declared.error.QueryError.{QueryError}
use Rattle.ode_query.specs.declared.error.QueryError.TheVariants as error
use Rattle.ode_query.specs.declared.row.Row.{Row}
use Rattle.ode_run_frame.specs.Knowing.{Since}
use Rattle.ode_value.specs.declared.arithmetic.Fault.{Fault}
use Rattle.ode_questions.specs.Saying.{rows_told}
use Rattle.ode_questions.specs.Steps.{AnswersOver, IsTurnedBy, TurnsFor, unread_by}
use Rattle.ode_questions.specs.declared.turned.Turned.{Turned}
use Rattle.ode_questions.specs.declared.turned.Turned.TheVariants as turned
use Rattle.ode_questions.specs.declared.turned.Why.TheVariants.{NoRows}

-- the words are those of the reason
pub in_words : (e : QueryError) (why : Unanswered) (reason : List ℕ) → unanswered_by e ≡ Some why → Some reason ≡ option_map unanswered_text (unanswered_by e) → NoRows reason ≡ NoRows (unanswered_text why)
in_words e why reason is words =
    let both : Some reason ≡ Some (unanswered_text why) = words ∙ ap (λ (o : Option Unanswered). option_map unanswered_text o) is in
    let same : reason ≡ unanswered_text why = cc (both) in
    ap NoRows same

by_error : (e x : QueryError) (t : Turned) → e ≡ x → (((why : Unanswered) → unanswered_by x ≡ Some why → TurnsFor why t) → IsTurnedBy x t) → ((why : Unanswered) → unanswered_by e ≡ Some why → TurnsFor why t) → IsTurnedBy e t
by_error e x t is of = subst (λ (y : QueryError). ((why : Unanswered) → unanswered_by y ≡ Some why → TurnsFor why t) → IsTurnedBy y t) (sym is) of

-- an error that is a reason
pub by_reason : (e : QueryError) (t : Turned) → ((count : ℕ) × (e ≡ error.TooManyRows count)) ⊎ (((fault : Fault) × (e ≡ error.Fault fault)) ⊎ (e ≡ error.Output))
    → ((why : Unanswered) → unanswered_by e ≡ Some why → TurnsFor why t) → IsTurnedBy e t
by_reason e t is turns = ⊎_elim
    (λ many. by_error e (error.TooManyRows many.0) t many.1 (λ every. every (TooManyRows many.0) refl) turns)
    (λ other. ⊎_elim
    (λ faulted. by_error e (error.Fault faulted.0) t faulted.1 (λ every. every (Faulted faulted.0) refl) turns)
    (λ long. by_error e error.Output t long (λ every. every Output refl) turns)
    other)
    is

-- ---- over records that hold a world

module _ (meant : Result (List Row) Unanswered) (holds : Type 0) where
  for_reason : (why : Unanswered) (t : Turned) → meant ≡ Err why → TurnsFor why t → holds → AnswersOver {R = List ℕ} (rows_told meant) (Err t) holds
  for_reason why (turned.Refused refused) is turns keeps = record { says = ap rows_told is ∙ ap Err (sym turns); sound = tt; keeps = keeps }
  for_reason why turned.Memory is turns keeps = record { says = tt; sound = tt; keeps = keeps }
  for_reason why turned.DiskFault is turns keeps = absurd turns
  for_reason why (turned.Damaged key) is turns keeps = absurd turns

  pub unanswered_over : (e : QueryError) (t : Turned) → IsAnswer meant (Err e) → IsTurnedBy e t → UnlessFault {X = List Row} (Err e) holds → AnswersOver {R = List ℕ} (rows_told meant) (Err t) holds
  unanswered_over error.Memory t is by keeps = subst (λ (u : Turned). AnswersOver {R = List ℕ} (rows_told meant) (Err u) holds) (sym by) (record { says = tt; sound = tt; keeps = keeps })
  unanswered_over error.DiskFault t is by keeps = subst (λ (u : Turned). AnswersOver {R = List ℕ} (rows_told meant) (Err u) holds) (sym by) (record { says = tt; sound = tt; keeps = tt })
  unanswered_over (error.Damaged key) t is by keeps = absurd is
  unanswered_over (error.TooManyRows count) t is by keeps = for_reason (TooManyRows count) t is by keeps
  unanswered_over (error.Fault fault) t is by keeps = for_reason (Faulted fault) t is by keeps
  unanswered_over error.Output t is by keeps = for_reason Output t is by keeps

-- ---- the host and the heap

module _ (a b : View) (live : Bool) (looks : Looks a b) where
  pub answered_since : (rows : List Row) → UnlessFault {X = List Row} (Ok rows) (live ≡ true) → RoseIf (IsErrOf {T = List Row} (Ok rows) error.DiskFault) a.disk_faults b.disk_faults → Since a b live None
  answered_since rows is rose = record { looks = looks; faults = rose_as _ _ a.disk_faults b.disk_faults (λ is. cc (is)) (λ is. cc (is)) rose; usable = is }

  -- an error that is no fault of the disk
  calm_since : (e : QueryError) (t : Turned) → (◌≡◌ {A = Result (List Row) QueryError} (Err e) (Err error.DiskFault) → ⊥) → (why : Unanswered) → TurnsFor why t → live ≡ true
      → RoseIf (IsErrOf {T = List Row} (Err e) error.DiskFault) a.disk_faults b.disk_faults → Since a b live (unread_by t)
  calm_since e (turned.Refused refused) none why turns is rose = record { looks = looks; faults = rose_as _ _ a.disk_faults b.disk_faults (λ fault. absurd (none fault)) (λ fault. cc (fault)) rose; usable = is }
  calm_since e turned.Memory none why turns is rose = record { looks = looks; faults = rose_as _ _ a.disk_faults b.disk_faults (λ fault. absurd (none fault)) (λ fault. cc (fault)) rose; usable = is }
  calm_since e turned.DiskFault none why turns is rose = absurd turns
  calm_since e (turned.Damaged key) none why turns is rose = absurd turns

  pub unanswered_since : (e : QueryError) (t : Turned) → IsTurnedBy e t → UnlessFault {X = List Row} (Err e) (live ≡ true) → RoseIf (IsErrOf {T = List Row} (Err e) error.DiskFault) a.disk_faults b.disk_faults
      → Since a b live (unread_by t)
  unanswered_since error.Memory t by is rose = subst (λ (u : Turned). Since a b live (unread_by u)) (sym by)
      (record { looks = looks; faults = rose_as _ _ a.disk_faults b.disk_faults (λ fault. cc (fault)) (λ fault. cc (fault)) rose; usable = is })
  unanswered_since error.DiskFault t by is rose = subst (λ (u : Turned). Since a b live (unread_by u)) (sym by)
      (record { looks = looks; faults = rose_as _ _ a.disk_faults b.disk_faults (λ fault. refl) (λ fault. refl) rose; usable = tt })
  unanswered_since (error.Damaged key) t by is rose = subst (λ (u : Turned). Since a b live (unread_by u)) (sym by)
      (record { looks = looks; faults = rose_as _ _ a.disk_faults b.disk_faults (λ fault. cc (fault)) (λ fault. cc (fault)) rose; usable = is })
  unanswered_since (error.TooManyRows count) t by is rose = calm_since (error.TooManyRows count) t (λ fault. cc (fault)) (TooManyRows count) by is rose
  unanswered_since (error.Fault fault) t by is rose = calm_since (error.Fault fault) t (λ f. cc (f)) (Faulted fault) by is rose
  unanswered_since error.Output t by is rose = calm_since error.Output t (λ fault. cc (fault)) Output by is rose
