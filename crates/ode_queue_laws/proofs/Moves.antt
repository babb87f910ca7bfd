-- A settled transaction keeps the entries, or runs the one at the front; so does each of a drain.
use Rattle.std.proofs.Common.{◌≡◌, ◌⊎◌, inl, inr, ℕ, zero, suc, ◌+◌, Bool, true, false, cond, List, [], ◌∷◌, ◌++◌, refl, ap, ◌∙◌, subst}
use Rattle.std.specs.Prelude.{nat_lt, take}
use Rattle.std.specs.List.{AllByRecursion}
use Rattle.ode_value.specs.Draining.{runs_entry, entry_settled, front, drain, with_drain, world_after}
use Rattle.ode_value.specs.Language.{ListWorld, Settlings}
use Rattle.ode_value.specs.Limits.{number_limit}
use Rattle.ode_value.specs.Objects.{Histories, Starts}
use Rattle.ode_value.specs.Pasts.{lists}
use Rattle.ode_value.specs.Posting.{waiting}
use Rattle.ode_value.specs.Settling.{Settled}
use Rattle.ode_value.specs.Transactions.{Queue}
use Rattle.ode_value.specs.Worlds.{Entry}
use Rattle.ode_laws.proofs.SideCompleting.{entry_alike}
use Rattle.ode_queue_laws.specs.Entries.{HasNumberedQueue, AddsEntries, RunsEntry, KeepsEntries, MoveQueue}
use Rattle.ode_queue_laws.proofs.Collecting.{Leaves, collected_by, transaction_leaves}
use Rattle.ode_queue_laws.proofs.Lookups.{AreBelow, HaveRisen, rise_rest, without_front, adds_numbered}

-- ---- one transaction

abbrev pub Moves : ListWorld → Settled Histories Starts → Type 0
Moves w s = KeepsEntries w s ⊎ RunsEntry w s

abbrev pub IsNumbered : ListWorld → Type 0
IsNumbered w = HasNumberedQueue w.bones

-- that of an entry of the queue leaves what waits beside it
pub entry_leaves : (w : ListWorld) (q : ℕ × Entry) → Leaves (Queue q.0 q.1.generation) w.bones (entry_settled lists w q).0.bones
entry_leaves w q = transaction_leaves (Queue q.0 q.1.generation) w.bones lists 1 (runs_entry lists q.1) w refl (λ cs. entry_alike (collected_by (Queue q.0 q.1.generation) w.bones lists cs) 0 q.1)

-- at the front it runs
front_moves : (w : ListWorld) (q : ℕ × Entry) (rest : List (ℕ × Entry)) → IsNumbered w → w.bones.queue ≡ q ∷ rest → Moves w (entry_settled lists w q)
front_moves w q rest numbered is = inr (record {
  entry = q;
  rest = rest;
  is_run = record { front = is; own = refl };
  adds = subst (λ (qs : List (ℕ × Entry)). AddsEntries w.bones (entry_settled lists w q).0.bones qs (q.1.generation + 1))
      (ap (waiting (Queue q.0 q.1.generation)) is ∙ without_front q rest (subst HaveRisen is numbered.rising)) (entry_leaves w q);
})

-- the queue stays numbered
pub moves_numbered : (w : ListWorld) (s : Settled Histories Starts) → IsNumbered w → Moves w s → IsNumbered s.0
moves_numbered w s numbered (inl keeps) = adds_numbered w.bones s.0.bones w.bones.queue 1 keeps numbered.rising numbered.given
moves_numbered w s numbered (inr runs) =
    let all : AreBelow w.bones.next_entry (runs.entry ∷ runs.rest) = subst (AreBelow w.bones.next_entry) runs.is_run.front numbered.given in
    adds_numbered w.bones s.0.bones runs.rest (runs.entry.1.generation + 1) runs.adds (rise_rest runs.entry runs.rest (subst HaveRisen runs.is_run.front numbered.rising)) all.1

-- ---- transactions one after the other

pub after_numbered : (w : ListWorld) (settled : Settlings) → IsNumbered w → MoveQueue w settled → IsNumbered (world_after w settled)
after_numbered w [] numbered moves = numbered
after_numbered w (s ∷ settled) numbered moves = after_numbered s.0 settled (moves_numbered w s numbered moves.0) moves.1

pub all_numbered : (w : ListWorld) (settled : Settlings) → IsNumbered w → MoveQueue w settled → AllByRecursion (λ (s : Settled Histories Starts). HasNumberedQueue s.0.bones) settled
all_numbered w [] numbered moves = tt
all_numbered w (s ∷ settled) numbered moves = let next : IsNumbered s.0 = moves_numbered w s numbered moves.0 in (next, all_numbered s.0 settled next moves.1)

pub append_moves : (w : ListWorld) (settled more : Settlings) → MoveQueue w settled → MoveQueue (world_after w settled) more → MoveQueue w (settled ++ more)
append_moves w [] more moves rest = rest
append_moves w (s ∷ settled) more moves rest = (moves.0, append_moves s.0 settled more moves.1 rest)

pub take_moves : (k : ℕ) (w : ListWorld) (settled : Settlings) → MoveQueue w settled → MoveQueue w (take k settled)
take_moves zero w settled moves = tt
take_moves (suc k) w [] moves = tt
take_moves (suc k) w (s ∷ settled) moves = (moves.0, take_moves k s.0 settled moves.1)

pub drain_moves : (most : ℕ) (w : ListWorld) → IsNumbered w → MoveQueue w (drain lists most w)
unfolding drain
drain_moves zero w numbered = tt
drain_moves (suc most) w numbered = by_queue w.bones.queue refl (λ s moves. (moves, drain_moves most s.0 (moves_numbered w s numbered moves))) where
  by_room : (q : ℕ × Entry) (rest : List (ℕ × Entry)) → w.bones.queue ≡ q ∷ rest → (b : Bool) → ((s : Settled Histories Starts) → Moves w s → MoveQueue w (s ∷ drain lists most s.0))
      → MoveQueue w (cond b (entry_settled lists w q ∷ drain lists most (entry_settled lists w q).0) [])
  by_room q rest is true later = later (entry_settled lists w q) (front_moves w q rest numbered is)
  by_room q rest is false later = tt

  by_queue : (qs : List (ℕ × Entry)) → w.bones.queue ≡ qs → ((s : Settled Histories Starts) → Moves w s → MoveQueue w (s ∷ drain lists most s.0)) → MoveQueue w (front lists qs w (λ s. s ∷ drain lists most s.0))
  by_queue [] is later = tt
  by_queue (q ∷ qs) is later = by_room q qs is (nat_lt w.bones.transaction number_limit) later

pub with_drain_moves : (w : ListWorld) (most : ℕ) (s : Settled Histories Starts) → IsNumbered w → Moves w s → MoveQueue w (with_drain lists most s)
with_drain_moves w most s numbered moves = (moves, drain_moves most s.0 (moves_numbered w s numbered moves))
