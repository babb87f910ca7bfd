-- What a query prints, and why it has no rows.
use Rattle.std.specs.Prelude.{ℕ, List, ◌++◌, codes, length, Bool, cond, nat_le, nat_lt, Option, Some, None, Result, Ok, Err}
use Rattle.std.specs.List.{flat_map}
use Rattle.ode_asksyn.specs.declared.query.Query.{Query}
use Rattle.ode_value.specs.Decimal.{digits_of}
use Rattle.ode_value.specs.Evaluation.{reason_of}
use Rattle.ode_value.specs.Texts.{line, reason_text, value_text}
use Rattle.ode_value.specs.Worlds.{Bones}
use Rattle.ode_value.specs.declared.arithmetic.Fault.{Fault}
use Rattle.ode_value.specs.declared.value.Value.{Value}
use Rattle.ode_query.specs.Rows.{combination_count, rows}
use Rattle.ode_query.specs.declared.error.QueryError.{QueryError}
use Rattle.ode_query.specs.declared.error.QueryError.TheVariants as error
use Rattle.ode_query.specs.declared.row.Row.{Row}

-- ---- the rows

-- each value behind a blank
abbrev pub blank_value : Value → List ℕ
blank_value v = codes " " ++ value_text v

-- `row #1 80`
abbrev pub row_line : Row → List ℕ
row_line row = line (codes "row" ++ flat_map blank_value row.values)

-- `rows 1`
abbrev pub count_line : ℕ → List ℕ
count_line count = line (codes "rows " ++ digits_of count)

unfoldable pub rows_text : List Row → List ℕ
rows_text rows = flat_map row_line rows ++ count_line (length rows)

-- ---- the limits

-- the combinations of a query, and the bytes of its text
unfoldable pub combination_limit : ℕ
combination_limit = 1000000

unfoldable pub text_limit : ℕ
text_limit = 16777216

-- the text isn't too long
abbrev pub fits : List Row → Bool
fits rows = nat_le (length (rows_text rows)) text_limit

-- ---- why there are none

-- why a checked query has no rows to show
pub data Unanswered : Type 0 where
  TooManyRows : ℕ → Unanswered
  Faulted : Fault → Unanswered
  Output : Unanswered

-- rows whose text isn't too long
abbrev pub short : Result (List Row) Fault → Result (List Row) Unanswered
short (Err fault) = Err (Faulted fault)
short (Ok rows) = cond (fits rows) (Ok rows) (Err Output)

-- what a checked query is answered: too many combinations come before faults, and these before too long a text
unfoldable pub answered : Bones → Query → Result (List Row) Unanswered
answered b q = cond (nat_lt combination_limit (combination_count b q)) (Err (TooManyRows (combination_count b q))) (short (rows b q))

abbrev pub unanswered_text : Unanswered → List ℕ
unanswered_text (TooManyRows count) = codes "too many rows " ++ digits_of count
unanswered_text (Faulted fault) = reason_text (reason_of fault)
unanswered_text Output = codes "output"

-- an error that is a reason
abbrev pub unanswered_by : QueryError → Option Unanswered
unanswered_by (error.TooManyRows count) = Some (TooManyRows count)
unanswered_by (error.Fault fault) = Some (Faulted fault)
unanswered_by error.Output = Some Output
unanswered_by error.Memory = None
unanswered_by error.DiskFault = None
unanswered_by (error.Damaged key) = None
