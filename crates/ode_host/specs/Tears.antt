-- What a stop leaves of a disk, as a plan says.
use Rattle.std.specs.Prelude.{◌≡◌, ◌≤◌, ℕ, ◌+◌, ◌-◌, List, [], ◌∷◌, length, take, replicate, nat_lt, if◌then◌else◌, Option, Some, None, Contains, ◌⊎◌}
use Rattle.ode_host.specs.declared.stop.Torn.{Torn}
use Rattle.ode_host.specs.declared.stop.Torn.TheVariants.{Nothing, Whole, Front, Fill}
use Rattle.ode_host.specs.Host.{written_over}

-- what stays of one write
abbrev pub torn_over : Torn → List ℕ → ℕ × List ℕ → List ℕ
torn_over Nothing image write = image
torn_over Whole image write = written_over image write.0 write.1
torn_over (Front n) image write = (if nat_lt 0 n then written_over image write.0 (take n write.1) else image)
torn_over (Fill byte) image write = written_over image write.0 (replicate (length write.1) byte)

-- how it goes on behind this many bytes: of a front less is left
abbrev pub torn_behind : Torn → ℕ → Torn
torn_behind Nothing bytes = Nothing
torn_behind Whole bytes = Whole
torn_behind (Front n) bytes = Front (n - bytes)
torn_behind (Fill byte) bytes = Fill byte

-- how many bytes are pending
abbrev pub pending_bytes : List (ℕ × List ℕ) → ℕ
pending_bytes [] = 0
pending_bytes (write ∷ pending) = pending_bytes pending + length write.1

-- what stays of all that are pending, the newest first
abbrev pub torn_image : Torn → List ℕ → List (ℕ × List ℕ) → List ℕ
torn_image torn synced [] = synced
torn_image torn synced (write ∷ pending) = torn_over (torn_behind torn (pending_bytes pending)) (torn_image torn synced pending) write

-- how a plan tears: where it has no stop, all that was written stays
abbrev pub tear_of : Option (ℕ × Torn) → Torn
tear_of None = Whole
tear_of (Some stop) = stop.1

-- the call of this number is the stop
abbrev pub IsStop : Option (ℕ × Torn) → ℕ → Type 0
IsStop None number = ⊥
IsStop (Some stop) number = number ≡ stop.0

-- the call of this number is the stop or comes after it
abbrev pub IsFromStop : Option (ℕ × Torn) → ℕ → Type 0
IsFromStop None number = ⊥
IsFromStop (Some stop) number = stop.0 ≤ number

-- the call of this number fails by a plan with these numbers for its kind, and with this stop
abbrev pub IsPlanned : List ℕ → Option (ℕ × Torn) → ℕ → Type 0
IsPlanned planned stop number = Contains planned number ⊎ IsFromStop stop number
