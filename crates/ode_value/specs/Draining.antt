-- Firings that wait run as transactions of their own.
use Rattle.std.specs.Prelude.{ℕ, zero, suc, List, [], ◌∷◌, cond, nat_lt}
use Rattle.ode_value.specs.Pasts.{Past}
use Rattle.ode_value.specs.Worlds.{Entry, World}
use Rattle.ode_value.specs.Acts.{Deed, ◌>>=◌, ◌>>◌, reads, finds, when}
use Rattle.ode_value.specs.Changes.{is_live}
use Rattle.ode_value.specs.Classes.{Trigger, trigger_at}
use Rattle.ode_value.specs.Executing.{first_actions}
use Rattle.ode_value.specs.Limits.{number_limit}
use Rattle.ode_value.specs.Posting.{runs, touches}
use Rattle.ode_value.specs.Settling.{Settled, transaction}
use Rattle.ode_value.specs.Transactions.{Firing, Queue}

-- the firing of an entry, of which the activation is no longer known
abbrev pub firing_in : Entry → Trigger → Firing
firing_in e t = record { object = e.object; activation = 0; trigger = t; args = e.args }

-- the world that settled transactions leave
abbrev pub world_after : {O A : Type 0} → World O A → List (Settled O A) → World O A
world_after w [] = w
world_after w (s ∷ settled) = world_after s.0 settled

module _ {O A : Type 0} (past : Past O A) where
  -- the work of an entry: its object is touched where it is there, and its action runs
  abbrev pub runs_entry : Entry → Deed O A
  runs_entry e = do
    live ← reads (is_live e.object)
    when live (touches past (first_actions past) e.object)
    t ← finds (λ b. trigger_at b.classes e.class e.trigger)
    runs (first_actions past) (firing_in e t)

  -- the transaction of an entry
  abbrev pub entry_settled : World O A → ℕ × Entry → Settled O A
  entry_settled w q = transaction past (Queue q.0 q.1.generation) (runs_entry q.1) w

  -- that of the front of the queue, where a number is left for it, and what comes behind it
  abbrev pub front : List (ℕ × Entry) → World O A → (Settled O A → List (Settled O A)) → List (Settled O A)
  front [] w rest = []
  front (q ∷ queue) w rest = cond (nat_lt w.bones.transaction number_limit) (rest (entry_settled w q)) []

  -- at most so many entries
  unfoldable pub drain : ℕ → World O A → List (Settled O A)
  drain zero w = []
  drain (suc most) w = front w.bones.queue w (λ s. s ∷ drain most s.0)

  -- a settled transaction, and the drain behind it
  abbrev pub with_drain : ℕ → Settled O A → List (Settled O A)
  with_drain most s = s ∷ drain most s.0
