-- How entries come to the queue, wait there and run, over settled transactions of which each begins in the world of the one before it.
use Rattle.std.specs.Prelude.{◌≡◌, ◌≢◌, ◌⊎◌, ◌+◌, ◌<◌, ◌≤◌, ℕ, List, [], ◌∷◌, ◌++◌, map, length, Option, None}
use Rattle.std.specs.List.{AllByRecursion, enumerate_from}
use Rattle.std.specs.Option.{MatchOption}
use Rattle.ode_value.specs.Draining.{entry_settled}
use Rattle.ode_value.specs.GoodWorlds.{RiseFrom}
use Rattle.ode_value.specs.Language.{ListWorld, Settlings}
use Rattle.ode_value.specs.Objects.{Histories, Starts}
use Rattle.ode_value.specs.Pasts.{lists}
use Rattle.ode_value.specs.Settling.{Settled}
use Rattle.ode_value.specs.Worlds.{Entry, Bones, kept_at}

-- the numbers in the queue rise, and are below the next one
pub record HasNumberedQueue (b : Bones) : Type 0 where
  pub rising : RiseFrom 0 (map (λ (q : ℕ × Entry). q.0) b.queue)
  pub given : AllByRecursion (λ (q : ℕ × Entry). q.0 < b.next_entry) b.queue

-- ---- one transaction

-- New entries stand behind those that stay, all of one generation, numbered one after the other from the earlier next number on.
pub record AddsEntries (old new : Bones) (stay : List (ℕ × Entry)) (generation : ℕ) : Type 0 where
  pub entries : List Entry
  pub queue : new.queue ≡ stay ++ enumerate_from old.next_entry entries
  pub next : new.next_entry ≡ old.next_entry + length entries
  pub generations : AllByRecursion (λ (e : Entry). e.generation ≡ generation) entries

-- a transaction is that of the entry at the front of the queue, before these others
pub record IsRunOf (q : ℕ × Entry) (rest : List (ℕ × Entry)) (old : ListWorld) (s : Settled Histories Starts) : Type 0 where
  pub front : old.bones.queue ≡ q ∷ rest
  pub own : s ≡ entry_settled lists old q

-- That of an entry: it is gone from the front, all others stay, and new ones are of the next generation.
pub record RunsEntry (old : ListWorld) (s : Settled Histories Starts) : Type 0 where
  pub entry : ℕ × Entry
  pub rest : List (ℕ × Entry)
  pub is_run : IsRunOf entry rest old s
  pub adds : AddsEntries old.bones s.0.bones rest (entry.1.generation + 1)

-- Any other: all entries stay, and new ones are of the first generation, as behind a script or the clock.
abbrev pub KeepsEntries : ListWorld → Settled Histories Starts → Type 0
KeepsEntries old s = AddsEntries old.bones s.0.bones old.bones.queue 1

-- each transaction is one or the other
abbrev pub MoveQueue : ListWorld → Settlings → Type 0
MoveQueue w [] = Unit {0}
MoveQueue w (s ∷ settled) = (KeepsEntries w s ⊎ RunsEntry w s) × MoveQueue s.0 settled

-- ---- all transactions

-- the entry that waits under a number
abbrev pub entry_at : ℕ → Bones → Option Entry
entry_at number b = kept_at number b.queue

-- none waits under it any more
abbrev pub IsGone : ℕ → Settlings → Type 0
IsGone number settled = AllByRecursion (λ (s : Settled Histories Starts). entry_at number s.0.bones ≡ None) settled

-- a transaction is that of an entry, at the front of the queue
abbrev pub Runs : ℕ × Entry → ListWorld → Settled Histories Starts → Type 0
Runs q old s = (rest : List (ℕ × Entry)) × IsRunOf q rest old s

-- An entry waits behind each transaction that isn't its own. Behind its own its number is gone for good.
abbrev pub RunsOnce : ℕ × Entry → ListWorld → Settlings → Type 0
RunsOnce q w [] = Unit {0}
RunsOnce q w (s ∷ settled) =
    MatchOption (entry_at q.0 s.0.bones) (Runs q w s × IsGone q.0 settled) (λ e. (e ≡ q.1) × (s ≢ entry_settled lists w q) × RunsOnce q s.0 settled)

-- A number that isn't given yet: it stays so until an entry gets it, which runs once.
abbrev pub IsGivenOnce : ℕ → Settlings → Type 0
IsGivenOnce number [] = Unit {0}
IsGivenOnce number (s ∷ settled) =
    MatchOption (entry_at number s.0.bones) ((s.0.bones.next_entry ≤ number) × IsGivenOnce number settled) (λ e. RunsOnce (number, e) s.0 settled)

-- A number of the queue, from a world on: the entry that waits under it runs once; where none does, it was given and is gone for good,
-- or is given once.
abbrev pub IsUsedOnce : ℕ → ListWorld → Settlings → Type 0
IsUsedOnce number w settled =
    MatchOption (entry_at number w.bones)
    ((number < w.bones.next_entry → IsGone number settled) × (w.bones.next_entry ≤ number → IsGivenOnce number settled))
    (λ e. RunsOnce (number, e) w settled)
