-- What a call answers, by what it finds in the records.
use Rattle.std.specs.Prelude.{◌≡◌, Bool, true, false, Result, Ok, Err}
use Rattle.ode_value.specs.declared.key.Key.{Key}
use Rattle.ode_keep.specs.declared.error.KeepError.{KeepError}
use Rattle.ode_keep.specs.declared.error.KeepError.TheVariants as keep
use Rattle.ode_heap.specs.declared.error.HeapError.{HeapError}
use Rattle.ode_heap.specs.declared.error.HeapError.TheVariants.{Memory, DiskFault, TooLarge, Damaged}

-- what is found, or the key of a record that isn't what it is to be
pub data Found (X : Type 0) : Type 0 where
  There : X → Found X
  Broken : Key → Found X

infixl 10 ◌>>=◌
abbrev pub ◌>>=◌ : {X Y : Type 0} → Found X → (X → Found Y) → Found Y
(There x) >>= next = next x
(Broken k) >>= next = Broken k

-- an answer is what is found; want of memory and a fault of the disk may come in its place
abbrev pub Answers : {X : Type 0} → Result X HeapError → Found X → Type 0
Answers (Ok x) found = found ≡ There x
Answers (Err (Damaged k)) found = found ≡ Broken k
Answers (Err (TooLarge total)) found = ⊥
Answers (Err DiskFault) found = Unit {0}
Answers (Err Memory) found = Unit {0}

-- whether the keeper may be used
abbrev pub is_usable : {X : Type 0} → Result X HeapError → Bool
is_usable (Err DiskFault) = false
is_usable _ = true

-- what holds at each answer but a fault of the disk
abbrev pub UnlessFault : {X : Type 0} → Result X HeapError → Type 0 → Type 0
UnlessFault (Err DiskFault) P = Unit {0}
UnlessFault _ P = P

-- what a keeper's error comes to at a key that was handed to it
abbrev pub error_at : Key → KeepError → HeapError
error_at k keep.Memory = Memory
error_at k keep.DiskFault = DiskFault
error_at k (keep.TooLarge total) = TooLarge total
error_at k (keep.Damaged page) = Damaged k

-- what holds of the key that is named where something is damaged
abbrev pub OnDamaged : {A : Type 0} → Result A HeapError → (Key → Type 0) → Type 0
OnDamaged (Err (Damaged k)) P = P k
OnDamaged _ P = Unit {0}
