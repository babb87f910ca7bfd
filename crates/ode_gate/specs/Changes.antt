-- The header of a file is changed: what a stop leaves.
use Rattle.std.specs.Prelude.{◌≡◌, ◌≢◌, ◌≤◌, ◌+◌, ◌⊎◌, List, ℕ, IsSome, Some, length, drop}
use Rattle.ode_host.specs.View.{View}
use Rattle.ode_gate.specs.declared.header.Header.{Header}
use Rattle.ode_gate.specs.declared.places.TheConstants.{SLOT_LEN, SLOTS_END}
use Rattle.ode_gate.specs.Headers.{IsHeader, next_generation}
use Rattle.ode_gate.specs.Slots.{Counts}

-- in this image one header counts, and another may be written beside it
pub record MayReplace (image : List ℕ) (older h : Header) : Type 0 where
  pub long : SLOTS_END ≤ length image
  pub counts : Counts image older
  pub rules : IsHeader h
  pub beside : h.slot ≢ older.slot
  pub next : h.generation ≡ next_generation older.generation

-- all behind the slots is as it was
pub record IsSameBehind (image c : List ℕ) : Type 0 where
  pub long : length c ≡ length image
  pub behind : drop SLOTS_END c ≡ drop SLOTS_END image

-- the old header counts or the new one, all behind the slots is as it was, and so is the text
pub record LeavesHeader (image : List ℕ) (older h : Header) (old : View) (c o : List ℕ) : Type 0 where
  pub counts : Counts c older ⊎ Counts c h
  pub same : IsSameBehind image c
  pub text : old.text ≡ Some o

-- a new image stands in which the new header counts
pub record IsChanged (image : List ℕ) (h : Header) (next : List ℕ) : Type 0 where
  pub counts : Counts next h
  pub same : IsSameBehind image next

-- at most so many bytes were written
abbrev pub WritesAtMost : ℕ → View → View → Type 0
WritesAtMost most old new = IsSome old.image → new.written ≤ old.written + most

-- the bytes of a header's change: a slot, its gate shut, and the gate, opened
abbrev pub header_change_length : ℕ
header_change_length = SLOT_LEN + 1
