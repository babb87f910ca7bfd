-- What a call answers, by what there is in the records and in the overlay.
use Rattle.std.specs.Prelude.{◌≡◌, Bool, true, false, Result, Ok, Err}
use Rattle.ode_objects.specs.Heap as heap
use Rattle.ode_objects.specs.Heap.{Found, HeapError, There, Broken}
use Rattle.ode_overlay.specs.declared.error.OverlayError.{OverlayError}
use Rattle.ode_overlay.specs.declared.error.OverlayError.TheVariants.{Memory, DiskFault, Damaged}
use Rattle.ode_value.specs.Keys.{counters_key}

abbrev pub Answer : Type 0 → Type 0
Answer A = Result A OverlayError

infixl 10 ◌>>=◌
abbrev pub ◌>>=◌ : {A B : Type 0} → Answer A → (A → Answer B) → Answer B
(Ok a) >>= next = next a
(Err why) >>= next = Err why

-- what was found in the records
abbrev pub from_records : {A : Type 0} → Found A → Answer A
from_records (There a) = Ok a
from_records (Broken k) = Err (Damaged k)

-- an error of the heap
abbrev pub from_heap : HeapError → OverlayError
from_heap heap.Memory = Memory
from_heap heap.DiskFault = DiskFault
from_heap (heap.TooLarge total) = Damaged counters_key
from_heap (heap.Damaged k) = Damaged k

-- what a call answers, seen by view, is this; want of memory and a fault of the disk may come in its place
abbrev pub Gives : {X A : Type 0} → (X → A) → Result X OverlayError → Answer A → Type 0
Gives view (Ok x) answer = answer ≡ Ok (view x)
Gives view (Err Memory) answer = Unit {0}
Gives view (Err DiskFault) answer = Unit {0}
Gives view (Err why) answer = answer ≡ Err why

abbrev pub Answers : {A : Type 0} → Result A OverlayError → Answer A → Type 0
Answers result answer = Gives (λ a. a) result answer

-- the same of a call that leaves this
abbrev pub Leaves : {A X : Type 0} → Result A OverlayError → X → Answer (A × X) → Type 0
Leaves (Ok a) x answer = answer ≡ Ok (a, x)
Leaves (Err Memory) x answer = Unit {0}
Leaves (Err DiskFault) x answer = Unit {0}
Leaves (Err why) x answer = answer ≡ Err why

-- whether the heap may be used
abbrev pub is_usable : {X : Type 0} → Result X OverlayError → Bool
is_usable (Err DiskFault) = false
is_usable _ = true

-- what holds at each answer but a fault of the disk
abbrev pub UnlessFault : {X : Type 0} → Result X OverlayError → Type 0 → Type 0
UnlessFault (Err DiskFault) P = Unit {0}
UnlessFault _ P = P
