-- Reading from the front of bytes: a value and the bytes behind it, or none.
use Rattle.std.specs.Prelude.{◌≡◌, ℕ, ℤ, List, [], ◌∷◌, Bool, true, false, length, take, drop, Option, Some, None, Result, Ok, Err, nat_lt, ◌==◌, ◌&&◌, ◌||◌, if◌then◌else◌}
use Rattle.std.specs.Int.{Width, w32, w64, byte_len, cast_signed, from_be_bytes}
use Rattle.ode_codec.specs.declared.outside.OutsideGrammar.{OutsideGrammar}
use Rattle.ode_codec.specs.declared.outside.Unread.{Unread}
use Rattle.ode_codec.specs.declared.outside.Unread.TheVariants.{Memory, Outside}
use Rattle.ode_codec.specs.declared.record.TheConstants.{REFERENCE_SORT}

abbrev pub Reading : Type 0 → Type 0
Reading X = List ℕ → Option (X × List ℕ)

infixl 10 ◌>>=◌
abbrev pub ◌>>=◌ : {A B : Type 0} → Option A → (A → Option B) → Option B
(Some x) >>= next = next x
None >>= next = None

-- what a function answers, seen by view, is what is read, unless there was no memory
abbrev pub Fails : {Y : Type 0} → Unread → Option Y → Type 0
Fails Memory read = Unit {0}
Fails Outside read = read ≡ None

abbrev pub Gives : {X Y : Type 0} → (X → Y) → Result X Unread → Option Y → Type 0
Gives view (Ok x) read = read ≡ Some (view x)
Gives view (Err e) read = Fails e read

-- what a function that takes no memory answers, seen by view, is what is read
abbrev pub Finds : {X Y : Type 0} → (X → Y) → Result X OutsideGrammar → Option Y → Type 0
Finds view (Ok x) read = read ≡ Some (view x)
Finds view (Err e) read = read ≡ None

-- the bytes behind what is read
abbrev pub behind : {X : Type 0} → Option (X × List ℕ) → Option (List ℕ)
behind read = read >>= λ x. Some x.1

-- whether something is read, and no more
abbrev pub passed : {X : Type 0} → Option X → Option (Unit {0})
passed read = read >>= λ _. Some tt

-- a byte, and a number of several bytes
abbrev pub byte_in : List ℕ → Option (ℕ × List ℕ)
byte_in [] = None
byte_in (b ∷ bytes) = Some (b, bytes)

abbrev pub number_in : Width → List ℕ → Option (ℕ × List ℕ)
number_in w bytes = if nat_lt (length bytes) (byte_len w) then None else Some (from_be_bytes w (take (byte_len w) bytes), drop (byte_len w) bytes)

-- a number of four bytes above 0
unfoldable pub some_in : List ℕ → Option (ℕ × List ℕ)
some_in bytes = number_in w32 bytes >>= λ n. if n.0 == 0 then None else Some n

-- a number with a sign
abbrev pub int_in : List ℕ → Option (ℤ × List ℕ)
int_in bytes = number_in w64 bytes >>= λ n. Some (cast_signed w64 n.0, n.1)

-- 0 or 1
abbrev pub truth_of : ℕ → Option Bool
truth_of b = if b == 0 then Some false else if b == 1 then Some true else None

abbrev pub truth_in : List ℕ → Option (Bool × List ℕ)
truth_in bytes = byte_in bytes >>= λ b. truth_of b.0 >>= λ t. Some (t, b.1)

-- one behind the other
abbrev pub both : {X Y : Type 0} → (List ℕ → Option (X × List ℕ)) → (List ℕ → Option (Y × List ℕ)) → List ℕ → Option ((X × Y) × List ℕ)
both first second bytes = first bytes >>= λ x. second x.1 >>= λ y. Some ((x.0, y.0), y.1)

-- so many bytes that pass a test
abbrev pub part_of : (List ℕ → Bool) → ℕ → List ℕ → Option (List ℕ × List ℕ)
part_of test n bytes = if nat_lt (length bytes) n then None else if test (take n bytes) then Some (take n bytes, drop n bytes) else None

-- where a test passes
abbrev pub holding : Bool → Option (Unit {0})
holding b = if b then Some tt else None

-- where no byte is left
abbrev pub ended : List ℕ → Option (Unit {0})
ended bytes = holding (length bytes == 0)

-- a sort as it is stored; of a reference there may be a class
abbrev pub is_sort : ℕ → ℕ → Bool
is_sort sort class = sort == REFERENCE_SORT || nat_lt sort REFERENCE_SORT && class == 0

-- a number of a key, where it fits 4 bytes, or 2
abbrev pub fit : ℕ → ℕ → Option ℕ
fit limit n = if nat_lt n limit then Some n else None
