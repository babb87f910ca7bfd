-- A journal that stands on a disk, and what a stop leaves while a frame is added.
use Rattle.std.specs.Prelude.{◌≡◌, ◌⊎◌, ℕ, ◌+◌, ◌-◌, List, [], ◌∷◌, ◌++◌, length, take, drop, Some}
use Rattle.ode_host.specs.View.{View}
use Rattle.ode_host.specs.Host.{Stands}
use Rattle.ode_journal.specs.declared.journal.Journal.{Journal}
use Rattle.ode_journal.specs.Frames.{IsJournal, gate_behind}
use Rattle.ode_journal.specs.declared.frame.TheConstants.{FRAME_BYTES, FRAME_HEAD}

-- the bytes that a frame takes, its own gate among them
abbrev pub need_of : List ℕ → ℕ
need_of payload = length payload + FRAME_BYTES

-- the bytes from the last gate on
abbrev pub room_of : Journal → ℕ
room_of journal = journal.end - journal.at

-- one frame more
abbrev pub longer_by : Journal → List ℕ → Journal
longer_by journal payload = record { at = journal.at + FRAME_HEAD + length payload; end = journal.end }

-- this file stands on the disk, and in it, from `start` on, a journal of these frames
pub record JournalStands (start : ℕ) (frames : List (List ℕ)) (file : List ℕ) (journal : Journal) (view : View) : Type 0 where
  pub stands : Stands file view
  pub has : IsJournal start journal.end frames file
  pub place : journal.at ≡ gate_behind start frames

-- outside this range two files are the same
pub record SameOutside (start end : ℕ) (old new : List ℕ) : Type 0 where
  pub before : take start new ≡ take start old
  pub behind : drop end new ≡ drop end old

-- The frames are there, or these and the new one. The rest of the file and the text are as they were.
pub record IsBeforeOrAfter (start end : ℕ) (frames : List (List ℕ)) (payload file : List ℕ) (old : View) (image out : List ℕ) : Type 0 where
  pub whole : IsJournal start end frames image ⊎ IsJournal start end (frames ++ payload ∷ []) image
  pub outside : SameOutside start end file image
  pub text : old.text ≡ Some out
