-- What a settling leaves of the records.
use Rattle.std.specs.Prelude.{◌≡◌, ◌⊎◌, ℕ, List, ◌++◌, take}
use Rattle.ode_keep.specs.Entries.{Changes, Entries, applied}

-- what an image stands for
abbrev pub Meaning : Type 1
Meaning = List ℕ → Entries → Type 0

-- A settling is at one of its moments: the image stands for the records before it and nothing of its text is printed, or for those
-- after it and a front of the text is printed.
abbrev pub LeavesBatch : Meaning → Entries → Changes → List ℕ → List ℕ → List ℕ → List ℕ → Type 0
LeavesBatch means entries changes text said image out =
    (means image entries × (out ≡ text)) ⊎ (means image (applied changes entries) × (n : ℕ) × (out ≡ text ++ take n said))
