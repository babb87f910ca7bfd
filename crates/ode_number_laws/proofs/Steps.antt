-- The numbers of what a run settles follow one another.
use Rattle.std.proofs.Common.{◌≡◌, ◌+◌, ◌-◌, ℕ, zero, suc, Bool, true, false, cond, List, [], ◌∷◌, ◌++◌, map, length, Option, Some, None, Ok, Err, refl, subst}
use Rattle.std.specs.Prelude.{ℤ, is_some, nat_lt}
use Rattle.ode_machine.specs.Commands.{Step, after, bones_now, carried, changes, command, commits, does_change, does_class, does_clock, does_simple, ends_open, finish, goes_on, read_piece, settles, states}
use Rattle.ode_machine.specs.Refusals.{changed_in, checked_in, declared_in, placed, placed_change, ticks_in}
use Rattle.ode_machine.specs.Runs.{Item, answered, ending_items, followed_by, item_of, pieces_items, trace, worlds}
use Rattle.ode_machine.specs.Sessions.{Session, closed}
use Rattle.ode_machine.specs.Works.{Rest, changes_class, clock_run, declares, move, tick, ticks, then_rest}
use Rattle.ode_number_laws.proofs.Firsts.{Began, StillBegan, aborts_number, changes_began, commits_number, declares_began, entry_began, statement_began, ticks_began, transaction_number}
use Rattle.ode_number_laws.specs.Counting.{CountUp}
use Rattle.ode_script.specs.Cutting.{Ended, Ending, Pieces, Then, pieces}
use Rattle.ode_script.specs.Cutting as cutting
use Rattle.ode_timer.specs.Due.{behind}
use Rattle.ode_value.specs.Acts.{Aborted, Done, Outcome, nothing}
use Rattle.ode_value.specs.Answers.{Answer, ◌>>=◌}
use Rattle.ode_value.specs.Denoting.{object_at}
use Rattle.ode_value.specs.Draining.{drain, entry_settled, front, runs_entry, with_drain, world_after}
use Rattle.ode_value.specs.Executing.{commands}
use Rattle.ode_value.specs.Language.{Language, ListTx, ListWorld, Settlings}
use Rattle.ode_value.specs.Limits.{drain_limit, number_limit}
use Rattle.ode_value.specs.Objects.{Histories, Starts}
use Rattle.ode_value.specs.Pasts.{lists}
use Rattle.ode_value.specs.Settling.{Settled, abort, transaction}
use Rattle.ode_value.specs.Transactions.{Clock, Queue, Script, begun}
use Rattle.ode_value.specs.Worlds.{Declared, Entry, Position}
use Rattle.ode_value.specs.declared.change.Change.{Change}
use Rattle.ode_value.specs.declared.reason.Reason.TheVariants.{Asked, End}
use Rattle.ode_value.specs.declared.statement.Statement.{Statement}
use Rattle.ode_value.specs.declared.statement.Statement.TheVariants as statement
use Rattle.ode_value.specs.declared.statement.Stmt.{Stmt}

-- ---- settled transactions

-- each takes the next number
abbrev CountsUp : ListWorld → Settlings → Type 0
CountsUp w [] = Unit {0}
CountsUp w (s ∷ settled) = (s.0.bones.transaction ≡ w.bones.transaction + 1) × CountsUp s.0 settled

both_count : (w : ListWorld) (a b : Settlings) → CountsUp w a → CountsUp (world_after w a) b → CountsUp w (a ++ b)
both_count w [] b first second = second
both_count w (s ∷ a) b first second = (first.0, both_count s.0 a b first.1 second)

drain_counts : (most : ℕ) (w : ListWorld) → CountsUp w (drain lists most w)
unfolding drain
drain_counts zero w = tt
drain_counts (suc most) w = by_queue w.bones.queue (λ v. drain_counts most v) where
  by_number : (b : Bool) (s : Settled Histories Starts) → s.0.bones.transaction ≡ w.bones.transaction + 1 → CountsUp s.0 (drain lists most s.0) → CountsUp w (cond b (s ∷ drain lists most s.0) [])
  by_number true s one rest = (one, rest)
  by_number false s one rest = tt

  by_queue : (queue : List (ℕ × Entry)) → ((v : ListWorld) → CountsUp v (drain lists most v)) → CountsUp w (front lists queue w (λ s. s ∷ drain lists most s.0))
  by_queue [] rest = tt
  by_queue (q ∷ queue) rest =
      by_number (nat_lt w.bones.transaction number_limit) (entry_settled lists w q)
      (transaction_number w (Queue q.0 q.1.generation) (runs_entry lists q.1) (entry_began w (begun (Queue q.0 q.1.generation) w) refl q.1))
      (rest (entry_settled lists w q).0)

drained : (most : ℕ) (w : ListWorld) (s : Settled Histories Starts) → s.0.bones.transaction ≡ w.bones.transaction + 1 → CountsUp w (with_drain lists most s)
drained most w s one = (one, drain_counts most s.0)

-- ---- the clock

then_counts : (rest : Rest lists) → ((most : ℕ) (w : ListWorld) → CountsUp w (rest most w)) → (most : ℕ) (w : ListWorld) (settled : Settlings) → CountsUp w settled → CountsUp w (then_rest lists rest most w settled)
then_counts rest later most w settled first =
    both_count w settled (rest (most - (length settled - 1)) (world_after w settled)) first (later (most - (length settled - 1)) (world_after w settled))

tick_counts : (p : Position) (rest : Rest lists) → ((most : ℕ) (w : ListWorld) → CountsUp w (rest most w)) → (most : ℕ) (w : ListWorld) (b : Bool)
    → CountsUp w (cond b (then_rest lists rest most w (with_drain lists most (tick lists p w))) (rest most w))
tick_counts p rest later most w true =
    then_counts rest later most w (with_drain lists most (tick lists p w))
    (drained most w (tick lists p w) (transaction_number w (Clock p) (ticks lists p) (ticks_began w (begun (Clock p) w) refl p)))
tick_counts p rest later most w false = later most w

clock_counts : (ps : List Position) (last : Position) (most : ℕ) (w : ListWorld) → CountsUp w (clock_run lists ps last most w)
clock_counts [] last most w = drained most w (move lists last w) (transaction_number w (Clock last) nothing refl)
clock_counts (p ∷ ps) last most w = tick_counts p (clock_run lists ps last) (clock_counts ps last) most w (is_some (object_at w.bones p.object))

-- ---- steps

-- an open transaction began with its world
abbrev IsOpen : ListWorld → Option ListTx → Type 0
IsOpen w None = Unit {0}
IsOpen w (Some x) = Began w x

record IsFine (s : Session) : Type 0 where
  open_tx : IsOpen s.world s.open_tx

-- what a step settles takes the next numbers, and its session goes on behind it
record StepCounts (w : ListWorld) (step : Step) : Type 0 where
  counts : CountsUp w step.1
  world : step.0.world ≡ world_after w step.1
  fine : IsFine step.0

abbrev AnswerCounts : ListWorld → Answer Step → Type 0
AnswerCounts w (Ok step) = StepCounts w step
AnswerCounts w (Err refusal) = Unit {0}

answers_on : {X : Type 0} (w : ListWorld) (a : Answer X) (next : X → Answer Step) → ((x : X) → AnswerCounts w (next x)) → AnswerCounts w (a >>= next)
answers_on w (Ok x) next later = later x
answers_on w (Err refusal) next later = tt

after_counts : (w : ListWorld) (settled : Settlings) → CountsUp w settled → StepCounts w (after w settled)
after_counts w settled counts = record { counts = counts; world = refl; fine = record { open_tx = tt } }

settles_counts : (w : ListWorld) (s : Settled Histories Starts) → s.0.bones.transaction ≡ w.bones.transaction + 1 → StepCounts w (settles s)
settles_counts w s one = record { counts = drained drain_limit w s one; world = refl; fine = record { open_tx = tt } }

nothing_counts : (s : Session) → IsFine s → StepCounts s.world (s, [])
nothing_counts s fine = record { counts = tt; world = refl; fine = fine }

ends_counts : (s : Session) → IsFine s → (how : ListTx → Settled Histories Starts) → ((x : ListTx) → Began s.world x → (how x).0.bones.transaction ≡ s.world.bones.transaction + 1)
    → StepCounts s.world (ends_open s s.open_tx how)
ends_counts s fine how one = by_open s.open_tx fine.open_tx where
  by_open : (o : Option ListTx) → IsOpen s.world o → StepCounts s.world (ends_open s o how)
  by_open None began = nothing_counts s fine
  by_open (Some x) began = settles_counts s.world (how x) (one x began)

goes_counts : (w : ListWorld) (p : Outcome Histories Starts (Unit {0})) → StillBegan w p → StepCounts w (goes_on w p)
goes_counts w (Done answer x) began = record { counts = tt; world = refl; fine = record { open_tx = began } }
goes_counts w (Aborted reason x) began = settles_counts w (abort lists reason x) (aborts_number w reason x began)

simple_counts : (s : Session) → IsFine s → (t : Stmt) → StepCounts s.world (does_simple s s.open_tx t)
simple_counts s fine t = by_open s.open_tx fine.open_tx where
  by_open : (o : Option ListTx) → IsOpen s.world o → StepCounts s.world (does_simple s o t)
  by_open None began =
      settles_counts s.world (transaction lists Script (commands lists t) s.world)
      (transaction_number s.world Script (commands lists t) (statement_began s.world (begun Script s.world) refl t))
  by_open (Some x) began = goes_counts s.world (commands lists t x) (statement_began s.world x began t)

class_counts : (w : ListWorld) (c : Declared) → StepCounts w (does_class w c)
class_counts w c = settles_counts w (transaction lists Script (declares c) w) (transaction_number w Script (declares c) (declares_began w (begun Script w) refl c))

change_counts : (w : ListWorld) (classes : List Declared) (c : Change) → StepCounts w (does_change w classes c)
change_counts w classes c =
    settles_counts w (transaction lists Script (changes_class lists classes c) w)
    (transaction_number w Script (changes_class lists classes c) (changes_began w (begun Script w) refl classes c))

clock_step : (w : ListWorld) (t : ℤ × List Position) → StepCounts w (does_clock w t)
clock_step w t = after_counts w (clock_run lists t.1 (behind t.0) drain_limit w) (clock_counts t.1 (behind t.0) drain_limit w)

finish_counts : (s : Session) → IsFine s → StepCounts s.world (finish s)
finish_counts s fine = ends_counts s fine (abort lists End) (λ x began. aborts_number s.world End x began)

module _ (l : Language) where
  carried_counts : (s : Session) → IsFine s → (t : Statement) → AnswerCounts s.world (carried l s t)
  carried_counts s fine statement.Empty = nothing_counts s fine
  carried_counts s fine statement.Begin = record { counts = tt; world = refl; fine = record { open_tx = refl } }
  carried_counts s fine statement.Commit = ends_counts s fine commits (λ x began. commits_number s.world x began)
  carried_counts s fine statement.Abort = ends_counts s fine (abort lists Asked) (λ x began. aborts_number s.world Asked x began)
  carried_counts s fine (statement.Class d) = answers_on s.world (declared_in l s.world.bones d) _ (λ c. class_counts s.world c)
  carried_counts s fine (statement.Clock text) = answers_on s.world (ticks_in l s.world.bones text) _ (λ t. clock_step s.world t)
  carried_counts s fine (statement.Simple t) = answers_on s.world (checked_in l (bones_now s s.open_tx) t) _ (λ c. simple_counts s fine c)

  states_counts : (s : Session) → IsFine s → (t : Statement) → AnswerCounts s.world (states l s t)
  states_counts s fine t = answers_on s.world (placed s t) _ (λ u. carried_counts s fine t)

  changes_counts : (s : Session) → IsFine s → (c : Change) → AnswerCounts s.world (changes l s c)
  changes_counts s fine c = answers_on s.world (placed_change s) _ (λ u. answers_on s.world (changed_in l s.world.bones c) _ (λ classes. change_counts s.world classes c))

  piece_counts : (s : Session) → IsFine s → (piece : List ℕ) (read : Option (Answer Change)) → AnswerCounts s.world (read_piece l s piece read)
  piece_counts s fine piece None = answers_on s.world (l.statement_of piece) _ (λ t. states_counts s fine t)
  piece_counts s fine piece (Some read) = answers_on s.world read _ (λ c. changes_counts s fine c)

  command_counts : (s : Session) → IsFine s → (piece : List ℕ) → AnswerCounts s.world (command l s piece)
  command_counts s fine piece = piece_counts s fine piece (l.change_of piece)

  -- ---- runs

  settled_up : (w : ListWorld) (settled : Settlings) → CountsUp w settled → CountUp w.bones.transaction (worlds (map item_of settled))
  settled_up w [] counts = tt
  settled_up w (s ∷ settled) counts = (counts.0, settled_up s.0 settled counts.1)

  items_up : (w : ListWorld) (settled : Settlings) (items : List Item) → CountsUp w settled → CountUp (world_after w settled).bones.transaction (worlds items) → CountUp w.bones.transaction (worlds (map item_of settled ++ items))
  items_up w [] items counts rest = rest
  items_up w (s ∷ settled) items counts rest = (counts.0, items_up s.0 settled items counts.1 rest)

  step_up : (w : ListWorld) (step : Step) (items : List Item) → StepCounts w step → CountUp step.0.world.bones.transaction (worlds items) → CountUp w.bones.transaction (worlds (map item_of step.1 ++ items))
  step_up w step items is rest = items_up w step.1 items is.counts (subst (λ (v : ListWorld). CountUp v.bones.transaction (worlds items)) is.world rest)

  ending_up : (s : Session) → IsFine s → (ending : Ending) → CountUp s.world.bones.transaction (worlds (ending_items l s ending))
  ending_up s fine cutting.End = settled_up s.world (finish s).1 (finish_counts s fine).counts
  ending_up s fine cutting.LongStatement = tt
  ending_up s fine cutting.LongScript = tt

  pieces_up : (ps : Pieces) (s : Session) → IsFine s → CountUp s.world.bones.transaction (worlds (pieces_items l ps s))
  unfolding pieces_items
  pieces_up (Ended ending) s fine = ending_up s fine ending
  pieces_up (Then line text rest) s fine = by_answer (command l s text) (command_counts s fine text) (pieces_up rest) where
    by_answer : (a : Answer Step) → AnswerCounts s.world a → ((t : Session) → IsFine t → CountUp t.world.bones.transaction (worlds (pieces_items l rest t)))
        → CountUp s.world.bones.transaction (worlds (followed_by l (answered s line a) (pieces_items l rest)))
    by_answer (Err refusal) counts later = later s fine
    by_answer (Ok step) counts later = step_up s.world step (pieces_items l rest step.0) counts (later step.0 counts.fine)

  pub run_counts : (w : ListWorld) (script : List ℕ) → CountUp w.bones.transaction (worlds (trace l w script))
  run_counts w script =
      step_up w (after w (drain lists drain_limit w)) (pieces_items l (pieces script) (closed (world_after w (drain lists drain_limit w)))) (after_counts w (drain lists drain_limit w) (drain_counts drain_limit w))
      (pieces_up (pieces script) (closed (world_after w (drain lists drain_limit w))) (record { open_tx = tt }))
