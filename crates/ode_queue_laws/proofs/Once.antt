-- Each entry runs once, and no number is used twice.
use Rattle.std.proofs.Common.{◌≡◌, ◌≢◌, inl, inr, ℕ, ◌+◌, ◌<◌, ◌≤◌, Bool, true, false, cond, List, [], ◌∷◌, ◌==◌, Option, Some, None, refl, sym, ap, ◌∙◌, subst, arith}
use Rattle.std.specs.Option.{MatchOption}
use Rattle.std.proofs.lemmas.Bool.{eqb-true}
use Rattle.ode_value.specs.Draining.{entry_settled}
use Rattle.ode_value.specs.Language.{ListWorld, Settlings}
use Rattle.ode_value.specs.Objects.{Histories, Starts}
use Rattle.ode_value.specs.Pasts.{lists}
use Rattle.ode_value.specs.Posting.{waiting}
use Rattle.ode_value.specs.Settling.{Settled}
use Rattle.ode_value.specs.Transactions.{Queue}
use Rattle.ode_value.specs.Worlds.{Entry, kept_at}
use Rattle.ode_queue_laws.specs.Entries.{IsRunOf, MoveQueue, entry_at, IsGone, Runs, RunsOnce, IsGivenOnce, IsUsedOnce}
use Rattle.ode_queue_laws.proofs.Lookups.{AreBelow, HaveRisen, none_below, some_is_below, rise_from, next_up, old_found, new_found, filter_gone}
use Rattle.ode_queue_laws.proofs.Moves.{Moves, IsNumbered, entry_leaves, moves_numbered}

-- ---- what a transaction does to what is found under a number

moves_up : (w : ListWorld) (s : Settled Histories Starts) → Moves w s → w.bones.next_entry ≤ s.0.bones.next_entry
moves_up w s (inl keeps) = next_up w.bones s.0.bones w.bones.queue 1 keeps
moves_up w s (inr runs) = next_up w.bones s.0.bones runs.rest (runs.entry.1.generation + 1) runs.adds

-- a number that is found behind the front
rest_found : (n : ℕ) (q : ℕ × Entry) (rest : List (ℕ × Entry)) → kept_at n (q ∷ rest) ≡ None → kept_at n rest ≡ None
rest_found n q rest none = by_test (q.0 == n) none where
  by_test : (b : Bool) → cond b (Some q.1) (kept_at n rest) ≡ None → kept_at n rest ≡ None
  by_test true e = absurd (cc)
  by_test false e = e

-- one that was given and isn't found stays so
gone_next : (n : ℕ) (w : ListWorld) (s : Settled Histories Starts) → Moves w s → n < w.bones.next_entry → entry_at n w.bones ≡ None → entry_at n s.0.bones ≡ None
gone_next n w s (inl keeps) given none = old_found w.bones s.0.bones w.bones.queue 1 keeps n given ∙ none
gone_next n w s (inr runs) given none =
    old_found w.bones s.0.bones runs.rest (runs.entry.1.generation + 1) runs.adds n given
    ∙ rest_found n runs.entry runs.rest (sym (ap (λ (qs : List (ℕ × Entry)). kept_at n qs) runs.is_run.front) ∙ none)

-- behind an entry's own transaction its number isn't found
own_gone : (w : ListWorld) (q : ℕ × Entry) → q.0 < w.bones.next_entry → entry_at q.0 (entry_settled lists w q).0.bones ≡ None
own_gone w q given =
    old_found w.bones (entry_settled lists w q).0.bones (waiting (Queue q.0 q.1.generation) w.bones.queue) (q.1.generation + 1) (entry_leaves w q) q.0 given ∙ filter_gone q.0 w.bones.queue

-- a transaction behind which it is found isn't its own
other : (w : ListWorld) (s : Settled Histories Starts) (q : ℕ × Entry) → q.0 < w.bones.next_entry → entry_at q.0 s.0.bones ≡ Some q.1 → s ≢ entry_settled lists w q
other w s q given some is =
    let none : entry_at q.0 s.0.bones ≡ None = ap (λ (t : Settled Histories Starts). entry_at q.0 t.0.bones) is ∙ own_gone w q given in
    absurd (cc)

-- of an entry that waits: it stays, or this is its own transaction
pub data Next (q : ℕ × Entry) (w : ListWorld) (s : Settled Histories Starts) : Type 0 where
  Waits : entry_at q.0 s.0.bones ≡ Some q.1 → Next q w s
  Ran : Runs q w s → entry_at q.0 s.0.bones ≡ None → Next q w s

next_of : (w : ListWorld) (s : Settled Histories Starts) (n : ℕ) (e : Entry) → IsNumbered w → Moves w s → n < w.bones.next_entry → entry_at n w.bones ≡ Some e → Next (n, e) w s
next_of w s n e numbered (inl keeps) given some = Waits (old_found w.bones s.0.bones w.bones.queue 1 keeps n given ∙ some)
next_of w s n e numbered (inr runs) given some =
    by_test (runs.entry.0 == n) (eqb-true runs.entry.0 n) (sym (ap (λ (qs : List (ℕ × Entry)). kept_at n qs) runs.is_run.front) ∙ some)
  where
    new : entry_at n s.0.bones ≡ kept_at n runs.rest
    new = old_found w.bones s.0.bones runs.rest (runs.entry.1.generation + 1) runs.adds n given

    risen : HaveRisen (runs.entry ∷ runs.rest)
    risen = subst HaveRisen runs.is_run.front numbered.rising

    by_test : (b : Bool) → (b ≡ true → runs.entry.0 ≡ n) → cond b (Some runs.entry.1) (kept_at n runs.rest) ≡ Some e → Next (n, e) w s
    by_test true same is =
        let number : runs.entry.0 ≡ n = same refl in
        let entry : runs.entry.1 ≡ e = cc in
        let it : runs.entry ≡ (n, e) = ap (λ m. (m, runs.entry.1)) number ∙ ap (λ f. (n, f)) entry in
        Ran (runs.rest, subst (λ (q : ℕ × Entry). IsRunOf q runs.rest w s) it runs.is_run) (new ∙ none_below (runs.entry.0 + 1) n runs.rest (omega arith) (rise_from (runs.entry.0 + 1) runs.rest risen.1))
    by_test false same is = Waits (new ∙ is)

-- ---- over all transactions

gone : (n : ℕ) (w : ListWorld) (settled : Settlings) → MoveQueue w settled → n < w.bones.next_entry → entry_at n w.bones ≡ None → IsGone n settled
gone n w [] moves given none = tt
gone n w (s ∷ settled) moves given none =
    let up : w.bones.next_entry ≤ s.0.bones.next_entry = moves_up w s moves.0 in
    let next : entry_at n s.0.bones ≡ None = gone_next n w s moves.0 given none in
    (next, gone n s.0 settled moves.1 (omega arith) next)

runs_once : (n : ℕ) (e : Entry) (w : ListWorld) (settled : Settlings) → IsNumbered w → MoveQueue w settled → n < w.bones.next_entry → entry_at n w.bones ≡ Some e → RunsOnce (n, e) w settled
runs_once n e w [] numbered moves given some = tt
runs_once n e w (s ∷ settled) numbered moves given some = by_next (next_of w s n e numbered moves.0 given some) (λ found. runs_once n e s.0 settled (moves_numbered w s numbered moves.0) moves.1 later found) where
  later : n < s.0.bones.next_entry
  later = let up : w.bones.next_entry ≤ s.0.bones.next_entry = moves_up w s moves.0 in omega arith

  by_next : Next (n, e) w s → (entry_at n s.0.bones ≡ Some e → RunsOnce (n, e) s.0 settled) → RunsOnce (n, e) w (s ∷ settled)
  by_next (Waits found) rest =
      subst (λ m. MatchOption m (Runs (n, e) w s × IsGone n settled) (λ f. (f ≡ e) × (s ≢ entry_settled lists w (n, e)) × RunsOnce (n, e) s.0 settled)) (sym found) (refl, other w s (n, e) given found, rest found)
  by_next (Ran runs none) rest =
      subst (λ m. MatchOption m (Runs (n, e) w s × IsGone n settled) (λ f. (f ≡ e) × (s ≢ entry_settled lists w (n, e)) × RunsOnce (n, e) s.0 settled)) (sym none) (runs, gone n s.0 settled moves.1 later none)

given_once : (n : ℕ) (w : ListWorld) (settled : Settlings) → IsNumbered w → MoveQueue w settled → w.bones.next_entry ≤ n → IsGivenOnce n settled
given_once n w [] numbered moves free = tt
given_once n w (s ∷ settled) numbered moves free = by_found (entry_at n s.0.bones) refl (given_once n s.0 settled next moves.1) where
  next : IsNumbered s.0
  next = moves_numbered w s numbered moves.0

  still : Moves w s → entry_at n s.0.bones ≡ None → s.0.bones.next_entry ≤ n
  still (inl keeps) none = new_found w.bones s.0.bones w.bones.queue 1 keeps n numbered.given free none
  still (inr runs) none =
      let all : AreBelow w.bones.next_entry (runs.entry ∷ runs.rest) = subst (AreBelow w.bones.next_entry) runs.is_run.front numbered.given in
      new_found w.bones s.0.bones runs.rest (runs.entry.1.generation + 1) runs.adds n all.1 free none

  by_found : (m : Option Entry) → entry_at n s.0.bones ≡ m → (s.0.bones.next_entry ≤ n → IsGivenOnce n settled) → MatchOption m ((s.0.bones.next_entry ≤ n) × IsGivenOnce n settled) (λ e. RunsOnce (n, e) s.0 settled)
  by_found None none rest = let free_now : s.0.bones.next_entry ≤ n = still moves.0 none in (free_now, rest free_now)
  by_found (Some e) found rest = runs_once n e s.0 settled next moves.1 (some_is_below s.0.bones.next_entry n s.0.bones.queue e next.given found) found

pub used_once : (n : ℕ) (w : ListWorld) (settled : Settlings) → IsNumbered w → MoveQueue w settled → IsUsedOnce n w settled
used_once n w settled numbered moves = by_found (entry_at n w.bones) refl where
  by_found : (m : Option Entry) → entry_at n w.bones ≡ m → MatchOption m ((n < w.bones.next_entry → IsGone n settled) × (w.bones.next_entry ≤ n → IsGivenOnce n settled)) (λ e. RunsOnce (n, e) w settled)
  by_found None none = (λ given. gone n w settled moves given none, λ free. given_once n w settled numbered moves free)
  by_found (Some e) found = runs_once n e w settled numbered moves (some_is_below w.bones.next_entry n w.bones.queue e numbered.given found) found
