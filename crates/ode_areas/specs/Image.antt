-- The map of a file of two areas: what its header, its snapshot and its journal make together.
use Rattle.std.specs.Prelude.{◌≡◌, ◌⊎◌, ℕ, ◌+◌, List, length, take, drop}
use Rattle.ode_gate.specs.declared.header.Header.{Header}
use Rattle.ode_gate.specs.Headers.{IsOfAreas}
use Rattle.ode_gate.specs.Slots.{Counts}
use Rattle.ode_journal.specs.Frames.{IsJournal}
use Rattle.ode_journal.specs.Histories.{ArePayloads, IsBadFrom, in_turn}
use Rattle.ode_keep.specs.Entries.{Changes, Entries, applied}
use Rattle.ode_keep.specs.Snapshots.{IsBrokenSnapshot, IsSnapshot}
use Rattle.ode_keep.specs.Payloads.{IsPayload}

-- the bytes of the body, as far as the file has them
abbrev pub body_of : Header → List ℕ → List ℕ
body_of header image = take header.body_len (drop header.body_at image)

-- under this header: the records of the snapshot, after the changes of each frame behind it
pub record HasMap (header : Header) (image : List ℕ) (entries : Entries) : Type 0 where
  pub body : Entries
  pub snapshot : IsSnapshot body (body_of header image)
  pub frames : List (List ℕ)
  pub journal : IsJournal header.journal_at header.journal_end frames image
  pub batches : List Changes
  pub payloads : ArePayloads IsPayload batches frames
  pub map : entries ≡ in_turn applied batches body

-- the snapshot is broken at this place of the file
pub record IsBadBody (header : Header) (image : List ℕ) (at : ℕ) : Type 0 where
  pub behind : ℕ
  pub place : at ≡ header.body_at + behind
  pub broken : IsBrokenSnapshot header.body_len behind (body_of header image)

-- the snapshot is whole, and the journal is bad at this place
pub record IsBadJournal (header : Header) (image : List ℕ) (at : ℕ) : Type 0 where
  pub body : Entries
  pub snapshot : IsSnapshot body (body_of header image)
  pub whole : length (body_of header image) ≡ header.body_len
  pub journal : IsBadFrom IsPayload header.journal_at header.journal_end at image

-- under this header the first thing that is wrong stands at this place
abbrev pub IsBadAt : Header → List ℕ → ℕ → Type 0
IsBadAt header image at = IsBadBody header image at ⊎ IsBadJournal header image at

-- the image stands for these records
pub record AreasMean (image : List ℕ) (entries : Entries) : Type 0 where
  pub header : Header
  pub counts : Counts image header
  pub areas : IsOfAreas header
  pub has : HasMap header image entries
