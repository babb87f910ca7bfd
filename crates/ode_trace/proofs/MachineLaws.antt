-- What a piece comes to: its world, its text, and whether it is refused.
use Rattle.std.proofs.Common.{◌≡◌, ℕ, ℤ, List, ◌++◌, Option, Some, None, Ok, Err, refl, sym}
use Rattle.ode_ends.proofs.ItemLaws.{world_is}
use Rattle.ode_engine.specs.Serving.{session_after, settlings}
use Rattle.ode_machine.specs.Commands.{Step, carried, command, does_clock, does_simple, ends_open, finish, goes_on, settles}
use Rattle.ode_machine.specs.Refusals.{changed_in, checked_in, declared_in, placed, placed_change, ticks_in}
use Rattle.ode_machine.specs.Runs.{answered, ending_items, final, opening, piece_stretch, pieces_items, stretch_of}
use Rattle.ode_machine.specs.Sessions.{Session}
use Rattle.ode_machine.specs.Works.{changes_class, clock_run, declares}
use Rattle.ode_script.specs.Cutting.{Ending, Pieces, Then, Ended}
use Rattle.ode_timer.specs.Due.{behind}
use Rattle.ode_transact.specs.Items.{items_of}
use Rattle.ode_value.specs.Acts.{Outcome, Done, Aborted}
use Rattle.ode_value.specs.Answers.{Answer, ◌>>=◌, ◌>>◌}
use Rattle.ode_value.specs.Draining.{drain}
use Rattle.ode_value.specs.Executing.{commands}
use Rattle.ode_value.specs.Language.{Language, ListTx, ListWorld}
use Rattle.ode_value.specs.Limits.{drain_limit}
use Rattle.ode_value.specs.Objects.{Histories, Starts}
use Rattle.ode_value.specs.Pasts.{lists}
use Rattle.ode_value.specs.Settling.{Settled, abort, transaction}
use Rattle.ode_value.specs.Transactions.{Script}
use Rattle.ode_value.specs.Worlds.{Position}
use Rattle.ode_value.specs.declared.change.Change.{Change}
use Rattle.ode_value.specs.declared.reason.Reason.TheVariants as reason
use Rattle.ode_value.specs.declared.statement.Statement.{Statement}
use Rattle.ode_value.specs.declared.statement.Statement.TheVariants as statement
use Rattle.ode_value.specs.declared.statement.Stmt.{Stmt}
use Rattle.ode_machine.specs.Commands as machine

-- ---- the session behind a step

-- its world is the last one that was settled
abbrev EndsThere : Session → Step → Type 0
EndsThere session step = step.0.world ≡ final session.world (items_of step.1)

abbrev EndsAnswer : Session → Answer Step → Type 0
EndsAnswer session (Ok step) = EndsThere session step
EndsAnswer session (Err refusal) = Unit {0}

bind_ends : {A : Type 0} (session : Session) (a : Answer A) (next : A → Answer Step) → ((x : A) → EndsAnswer session (next x)) → EndsAnswer session (a >>= next)
bind_ends session (Ok x) next ends = ends x
bind_ends session (Err refusal) next ends = tt

settles_ends : (session : Session) (s : Settled Histories Starts) → EndsThere session (settles s)
settles_ends session s = sym (world_is s.0 (drain lists drain_limit s.0))

goes_ends : (session : Session) (outcome : Outcome Histories Starts (Unit {0})) → EndsThere session (goes_on session.world outcome)
goes_ends session (Done answer x) = refl
goes_ends session (Aborted why x) = settles_ends session (abort lists why x)

simple_ends : (session : Session) (tx : Option ListTx) (s : Stmt) → EndsThere session (does_simple session tx s)
simple_ends session None s = settles_ends session (transaction lists Script (commands lists s) session.world)
simple_ends session (Some x) s = goes_ends session (commands lists s x)

open_ends : (session : Session) (tx : Option ListTx) (how : ListTx → Settled Histories Starts) → EndsThere session (ends_open session tx how)
open_ends session None how = refl
open_ends session (Some x) how = settles_ends session (how x)

clock_ends : (session : Session) (ticks : ℤ × List Position) → EndsThere session (does_clock session.world ticks)
clock_ends session (t, ps) = sym (world_is session.world (clock_run lists ps (behind t) drain_limit session.world))

module _ (l : Language) (session : Session) where
  carried_ends : (s : Statement) → EndsAnswer session (carried l session s)
  carried_ends statement.Empty = refl
  carried_ends statement.Begin = refl
  carried_ends statement.Commit = open_ends session session.open_tx machine.commits
  carried_ends statement.Abort = open_ends session session.open_tx (abort lists reason.Asked)
  carried_ends (statement.Class d) =
      bind_ends session (declared_in l session.world.bones d) (λ c. Ok (machine.does_class session.world c)) (λ c. settles_ends session (transaction lists Script (declares c) session.world))
  carried_ends (statement.Clock text) =
      bind_ends session (ticks_in l session.world.bones text) (λ ticks. Ok (does_clock session.world ticks)) (λ ticks. clock_ends session ticks)
  carried_ends (statement.Simple s) =
      bind_ends session (checked_in l (machine.bones_now session session.open_tx) s) (λ checked. Ok (does_simple session session.open_tx checked)) (λ checked. simple_ends session session.open_tx checked)

  states_ends : (s : Statement) → EndsAnswer session (machine.states l session s)
  states_ends s = bind_ends session (placed session s) (λ _. carried l session s) (λ _. carried_ends s)

  changes_ends : (c : Change) → EndsAnswer session (machine.changes l session c)
  changes_ends c =
      bind_ends session (placed_change session) (λ _. changed_in l session.world.bones c >>= (λ classes. Ok (machine.does_change session.world classes c)))
      (λ _. bind_ends session (changed_in l session.world.bones c) (λ classes. Ok (machine.does_change session.world classes c))
      (λ classes. settles_ends session (transaction lists Script (changes_class lists classes c) session.world)))

  piece_answers : (piece : List ℕ) (change : Option (Answer Change)) → EndsAnswer session (machine.read_piece l session piece change)
  piece_answers piece None = bind_ends session (l.statement_of piece) (machine.states l session) states_ends
  piece_answers piece (Some read) = bind_ends session read (machine.changes l session) changes_ends

  command_ends : (piece : List ℕ) → EndsAnswer session (command l session piece)
  command_ends piece = piece_answers piece (l.change_of piece)

answered_ends : (session : Session) (line : ℕ) (answer : Answer Step) → EndsAnswer session answer → (answered session line answer).0.world ≡ final session.world (answered session line answer).1
answered_ends session line (Ok step) ends = ends
answered_ends session line (Err refusal) ends = refl

by_answer : (session : Session) (answer : Answer Step) → EndsAnswer session answer → (session_after session answer).world ≡ final session.world (items_of (settlings answer))
by_answer session (Ok step) ends = ends
by_answer session (Err refusal) ends = refl

pub piece_ends : (l : Language) (session : Session) (line : ℕ) (piece : List ℕ) → (piece_stretch l session line piece).0.world ≡ final session.world (piece_stretch l session line piece).1
piece_ends l session line piece = answered_ends session line (command l session piece) (command_ends l session piece)

-- of the session that an answer leaves
pub answer_ends : (l : Language) (session : Session) (piece : List ℕ) → (session_after session (command l session piece)).world ≡ final session.world (items_of (settlings (command l session piece)))
answer_ends l session piece = by_answer session (command l session piece) (command_ends l session piece)

pub finish_ends : (session : Session) → (finish session).0.world ≡ final session.world (stretch_of (finish session)).1
finish_ends session = open_ends session session.open_tx (abort lists reason.End)

pub opening_ends : (l : Language) (w : ListWorld) → (opening l w).0.world ≡ final w (opening l w).1
opening_ends l w = sym (world_is w (drain lists drain_limit w))

-- ---- the items of pieces

pub pieces_then : (l : Language) (line : ℕ) (piece : List ℕ) (rest : Pieces) (session : Session)
    → pieces_items l (Then line piece rest) session ≡ (piece_stretch l session line piece).1 ++ pieces_items l rest (piece_stretch l session line piece).0
unfolding pieces_items
pieces_then l line piece rest session = refl

pub pieces_ended : (l : Language) (how : Ending) (session : Session) → pieces_items l (Ended how) session ≡ ending_items l session how
unfolding pieces_items
pieces_ended l how session = refl
