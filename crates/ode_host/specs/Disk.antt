-- A disk in memory, and what a stop may leave of it.
use Rattle.std.specs.Prelude.{◌≡◌, ℕ, List, [], ◌∷◌, length}
use Rattle.ode_host.specs.Host.{Torn, written_over}

-- The bytes as they read, as the last sync left them, and the writes since then: an offset and bytes, the newest first.
pub record Disk : Type 0 where
  pub image : List ℕ
  pub synced : List ℕ
  pub pending : List (ℕ × List ℕ)

-- nothing is pending
abbrev pub settled : List ℕ → Disk
settled image = record { image = image; synced = image; pending = [] }

abbrev pub written_on : Disk → ℕ → List ℕ → Disk
written_on disk at bytes = record { image = written_over disk.image at bytes; synced = disk.synced; pending = (at, bytes) ∷ disk.pending }

-- what writes that a stop cuts short may leave
abbrev pub MayHold : List ℕ → List (ℕ × List ℕ) → List ℕ → Type 0
MayHold synced [] image = image ≡ synced
MayHold synced (write ∷ pending) image = (before : List ℕ) × MayHold synced pending before × Torn write.0 (length write.1) before image
