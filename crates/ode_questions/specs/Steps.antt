-- How the steps of a piece answer.
use Rattle.std.specs.Prelude.{◌≡◌, ℕ, List, ◌++◌, Bool, ◌||◌, Option, Some, None, Result, Ok, Err, OnOk}
use Rattle.ode_heap.specs.declared.error.HeapError.{HeapError}
use Rattle.ode_heap.specs.declared.error.HeapError.TheVariants as heap
use Rattle.ode_host.specs.Host.{MayHavePrinted, Printed}
use Rattle.ode_host.specs.View.{View}
use Rattle.ode_host.specs.declared.status.Status.{Status}
use Rattle.ode_host.specs.declared.status.Status.TheVariants as status
use Rattle.ode_language.specs.declared.reading.ReadStop.{ReadStop}
use Rattle.ode_language.specs.declared.reading.ReadStop.TheVariants as read
use Rattle.ode_query.specs.Texts.{Faulted, Output, TooManyRows, Unanswered, unanswered_text}
use Rattle.ode_query.specs.declared.error.QueryError.{QueryError}
use Rattle.ode_query.specs.declared.error.QueryError.TheVariants as query
use Rattle.ode_run_frame.specs.Knowing.{IsSound, Until}
use Rattle.ode_run_frame.specs.declared.unread.Unread.{Unread}
use Rattle.ode_run_frame.specs.declared.unread.Unread.TheVariants as unread
use Rattle.ode_script.specs.Cutting.{Pieces, ending_of}
use Rattle.ode_types.specs.declared.stop.CheckStop.{CheckStop}
use Rattle.ode_types.specs.declared.stop.CheckStop.TheVariants as check
use Rattle.ode_value.specs.Keys.{counters_key}
use Rattle.ode_value.specs.Worlds.{Bones}
use Rattle.ode_value.specs.declared.key.Key.{Key}
use Rattle.ode_value.specs.declared.reason.Refusal.TheVariants.{Check}
use Rattle.ode_questions.specs.Saying.{Told, said_of}
use Rattle.ode_questions.specs.Scripts.{any_refused, pieces_text}
use Rattle.ode_questions.specs.declared.asked.Asked.{Asked}
use Rattle.ode_questions.specs.declared.saying.Said.{Said}
use Rattle.ode_questions.specs.declared.stop.Stop.{Stop}
use Rattle.ode_questions.specs.declared.stop.Stop.TheVariants as stop
use Rattle.ode_questions.specs.declared.turned.Turned.{Turned}
use Rattle.ode_questions.specs.declared.turned.Turned.TheVariants as turned
use Rattle.ode_questions.specs.declared.turned.Why.TheVariants.{NoRows, Refusal}

-- ---- where a step is turned down

abbrev pub turned_by_reading : ReadStop → Turned
turned_by_reading read.Memory = turned.Memory
turned_by_reading (read.Refused refusal) = turned.Refused (Refusal refusal)

abbrev pub turned_by_check : CheckStop → Turned
turned_by_check check.Memory = turned.Memory
turned_by_check (check.Broken broken) = turned.Refused (Refusal (Check broken))

-- no read is refused for its size
abbrev pub turned_by_heap : HeapError → Turned
turned_by_heap heap.Memory = turned.Memory
turned_by_heap heap.DiskFault = turned.DiskFault
turned_by_heap (heap.TooLarge total) = turned.Damaged counters_key
turned_by_heap (heap.Damaged key) = turned.Damaged key

-- a reason why a query has no rows; want of memory for the words may come in its place
abbrev pub TurnsFor : Unanswered → Turned → Type 0
TurnsFor why (turned.Refused refused) = refused ≡ NoRows (unanswered_text why)
TurnsFor why turned.Memory = Unit {0}
TurnsFor why turned.DiskFault = ⊥
TurnsFor why (turned.Damaged key) = ⊥

abbrev pub IsTurnedBy : QueryError → Turned → Type 0
IsTurnedBy query.Memory t = t ≡ turned.Memory
IsTurnedBy query.DiskFault t = t ≡ turned.DiskFault
IsTurnedBy (query.Damaged key) t = t ≡ turned.Damaged key
IsTurnedBy (query.TooManyRows count) t = TurnsFor (TooManyRows count) t
IsTurnedBy (query.Fault fault) t = TurnsFor (Faulted fault) t
IsTurnedBy query.Output t = TurnsFor Output t

-- ---- one step

-- what stopped the reading of records
abbrev pub unread_by : Turned → Option Unread
unread_by (turned.Refused why) = None
unread_by turned.Memory = None
unread_by turned.DiskFault = Some unread.DiskFault
unread_by (turned.Damaged key) = Some (unread.Damaged key)

abbrev pub stopped_by : {R : Type 0} → Result R Turned → Option Unread
stopped_by (Ok r) = None
stopped_by (Err t) = unread_by t

-- an answer, or why there is none, is what is meant; an error may come in its place
abbrev pub Answers : {R : Type 0} → Told R → Result R Turned → Type 0
Answers meant (Ok r) = meant ≡ Ok r
Answers meant (Err (turned.Refused why)) = meant ≡ Err why
Answers meant (Err turned.Memory) = Unit {0}
Answers meant (Err turned.DiskFault) = Unit {0}
Answers meant (Err (turned.Damaged key)) = Unit {0}

-- Over records that hold a world: what is answered is what is meant, no record is damaged, and this holds until the disk fails.
pub record AnswersOver {R : Type 0} (meant : Told R) (result : Result R Turned) (holds : Type 0) : Type 0 where
  pub says : Answers meant result
  pub sound : IsSound (stopped_by result)
  pub keeps : Until (stopped_by result) holds

-- ---- what is said of it

-- what a piece on this line comes to is said; want of memory may come in its place
abbrev pub Says : ℕ → Result (List ℕ) Turned → Result Said Stop → Type 0
Says at (Ok text) result = result ≡ Ok (said_of at (Ok text))
Says at (Err (turned.Refused why)) (Ok said) = said ≡ said_of at (Err why)
Says at (Err (turned.Refused why)) (Err error) = error ≡ stop.Memory
Says at (Err turned.Memory) result = result ≡ Err stop.Memory
Says at (Err turned.DiskFault) result = result ≡ Err stop.DiskFault
Says at (Err (turned.Damaged key)) result = result ≡ Err (stop.Damaged key)

-- it is printed, or a front of it where the print failed, or nothing where another error came; no record is damaged
abbrev pub Prints : Said → Result Bool Stop → View → View → Type 0
Prints said (Ok refused) old new = (refused ≡ said.refused) × Printed said.text old new
Prints said (Err stop.Memory) old new = new.text ≡ old.text
Prints said (Err stop.DiskFault) old new = new.text ≡ old.text
Prints said (Err stop.WriteFault) old new = MayHavePrinted said.text old new
Prints said (Err (stop.Damaged key)) old new = ⊥

-- Over records that hold a world: what a piece says is printed, and this holds then.
pub record PrintsOver (said : Said) (result : Result Bool Stop) (holds : Type 0) (old new : View) : Type 0 where
  pub prints : Prints said result old new
  pub keeps : OnOk result holds

-- ---- how far a run is

-- of these pieces those before the ones that are left were printed, and so was some piece refused
pub record SoFar (asked : Asked) (b : Bones) (whole : Pieces) (text : List ℕ) (left : Pieces) (refused : Bool) (view : View) : Type 0 where
  pub before : List ℕ
  pub split : pieces_text asked b whole ≡ before ++ pieces_text asked b left
  pub printed : view.text ≡ Some (text ++ before)
  pub refusals : any_refused asked b whole ≡ (refused || any_refused asked b left)
  pub ends : ending_of whole ≡ ending_of left

-- what a run ends with where a piece isn't answered: a status, or the key of a damaged record
abbrev pub ended_by : Stop → Result Status Key
ended_by stop.Memory = Ok status.Memory
ended_by stop.DiskFault = Ok status.DiskFault
ended_by stop.WriteFault = Ok status.WriteFault
ended_by (stop.Damaged key) = Err key
