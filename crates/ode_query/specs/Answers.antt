-- What an answer says of the rows of a query, and what its parts say.
use Rattle.std.specs.Prelude.{◌≡◌, ◌++◌, List, Result, Ok, Err}
use Rattle.ode_query.specs.Texts.{Unanswered, TooManyRows, Faulted, Output}
use Rattle.ode_query.specs.declared.error.QueryError.{QueryError}
use Rattle.ode_query.specs.declared.error.QueryError.TheVariants as error
use Rattle.ode_query.specs.declared.row.Row.{Row}
use Rattle.ode_value.specs.declared.arithmetic.Fault.{Fault}

-- over records that hold a world: what is answered is what is meant, and no record is damaged; want of memory and a fault of the disk
-- say nothing
abbrev pub IsAnswer : Result (List Row) Unanswered → Result (List Row) QueryError → Type 0
IsAnswer meant (Ok rows) = meant ≡ Ok rows
IsAnswer meant (Err (error.TooManyRows count)) = meant ≡ Err (TooManyRows count)
IsAnswer meant (Err (error.Fault fault)) = meant ≡ Err (Faulted fault)
IsAnswer meant (Err error.Output) = meant ≡ Err Output
IsAnswer meant (Err (error.Damaged key)) = ⊥
IsAnswer meant (Err error.DiskFault) = Unit {0}
IsAnswer meant (Err error.Memory) = Unit {0}

-- what holds at each answer but a fault of the disk
abbrev pub UnlessFault : {X : Type 0} → Result X QueryError → Type 0 → Type 0
UnlessFault (Err error.DiskFault) P = Unit {0}
UnlessFault _ P = P

-- ---- parts

-- the same of what a part comes to
abbrev pub Says : {X : Type 0} → Result X Fault → Result X QueryError → Type 0
Says meant (Ok x) = meant ≡ Ok x
Says meant (Err (error.Fault fault)) = meant ≡ Err fault
Says meant (Err (error.TooManyRows count)) = ⊥
Says meant (Err error.Output) = ⊥
Says meant (Err (error.Damaged key)) = ⊥
Says meant (Err error.DiskFault) = Unit {0}
Says meant (Err error.Memory) = Unit {0}

-- what a call that changes a value leaves of it
abbrev pub leaving : {X : Type 0} → X → Result (Unit {0}) QueryError → Result X QueryError
leaving new (Ok u) = Ok new
leaving new (Err error) = Err error

-- these, and then what there is, or the fault
abbrev pub behind : {X : Type 0} → List X → Result (List X) Fault → Result (List X) Fault
behind done (Ok more) = Ok (done ++ more)
behind done (Err fault) = Err fault

-- a part that isn't one value alone
abbrev pub Gives : {X : Type 0} → (X → Type 0) → Result X QueryError → Type 0
Gives P (Ok x) = P x
Gives P (Err error.DiskFault) = Unit {0}
Gives P (Err error.Memory) = Unit {0}
Gives P (Err _) = ⊥
