-- A stream that comes in pieces: what is taken of each goes on from what was taken before.
use Rattle.std.specs.Prelude.{◌≡◌, ◌+◌, ◌++◌, ℕ, List, Some}
use Rattle.ode_host.specs.View.{View}
use Rattle.ode_keep.specs.Entries.{Entries}
use Rattle.ode_standby.specs.Courses.{Course, IsStopped, IsTaken, next_of}
use Rattle.ode_standby.specs.Taking.{LeavesSome, from}
use Rattle.ode_standby.specs.declared.error.ShipError.{ShipError}

-- where a standby goes on from there
abbrev pub onward : Course → Course
onward c = from c.entries c.next c.at

-- what was taken from there on, counted with what was taken before
abbrev pub counted_on : Course → Course → Course
counted_on c d = record { entries = d.entries; next = d.next; at = d.at; applied = c.applied + d.applied; skipped = c.skipped + d.skipped }

-- All whole frames were taken of what came, and then of what was left with the next piece: so they were of both.
abbrev pub PiecesJoin : Type 0
PiecesJoin = (most : ℕ) (c d e : Course) (came rest piece left : List ℕ) → IsTaken most c d came rest → IsTaken most (onward d) e (rest ++ piece) left
    → IsTaken most c (counted_on d e) (came ++ piece) left

-- The next piece stops the standby: so both do.
abbrev pub StopsJoin : Type 0
StopsJoin = (most : ℕ) (c d e : Course) (came rest piece : List ℕ) (error : ShipError) → IsTaken most c d came rest → IsStopped most (onward d) e (rest ++ piece) error
    → IsStopped most c (counted_on d e) (came ++ piece) error

-- A stop in the next piece leaves what one in both does.
abbrev pub LeavesJoin : (List ℕ → Entries → Type 0) → View → Type 0
LeavesJoin means old = (most : ℕ) (c d : Course) (came rest piece image out : List ℕ) → IsTaken most c d came rest
    → LeavesSome means most (onward d) (rest ++ piece) old image out → LeavesSome means most c (came ++ piece) old image out

-- the records still tell the next number
abbrev pub NextIsKept : Type 0
NextIsKept = (most : ℕ) (c d : Course) (bytes rest : List ℕ) → next_of c.entries ≡ Some c.next → IsTaken most c d bytes rest → next_of d.entries ≡ Some d.next
