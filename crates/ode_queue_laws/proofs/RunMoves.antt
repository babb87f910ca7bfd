-- Each settled transaction of runs keeps the entries, or runs the one at the front.
use Rattle.std.proofs.Common.{◌≡◌, inl, ℕ, zero, suc, ◌+◌, ◌-◌, ◌<◌, Bool, true, false, cond, List, [], ◌∷◌, ◌++◌, map, length, Option, Some, None, Ok, Err, refl, sym, ap, ◌∙◌, subst}
use Rattle.std.specs.Prelude.{nat_le, is_some, take}
use Rattle.std.specs.List.{AllByRecursion}
use Rattle.ode_value.specs.declared.change.Change.{Change}
use Rattle.ode_value.specs.declared.reason.Reason.TheVariants.{Asked, End, Output}
use Rattle.ode_value.specs.declared.statement.Statement.{Statement}
use Rattle.ode_value.specs.declared.statement.Statement.TheVariants as statement
use Rattle.ode_value.specs.declared.statement.Stmt.{Stmt}
use Rattle.ode_value.specs.Acts.{Outcome, Done, Aborted, go_on, nothing, does, with_line}
use Rattle.ode_value.specs.Answers.{Answer}
use Rattle.ode_value.specs.Completing.{completes}
use Rattle.ode_value.specs.Denoting.{object_at}
use Rattle.ode_value.specs.Draining.{drain, with_drain, world_after}
use Rattle.ode_value.specs.Executing.{commands}
use Rattle.ode_value.specs.GoodWorlds.{IsEntry, IsGood}
use Rattle.ode_value.specs.Language.{ListWorld, ListTx, Settlings, Language}
use Rattle.ode_value.specs.Limits.{output_limit, drain_limit}
use Rattle.ode_value.specs.Objects.{Histories, Starts}
use Rattle.ode_value.specs.Pasts.{lists}
use Rattle.ode_value.specs.Settling.{Settled, abort, settle, transaction}
use Rattle.ode_value.specs.Texts.{class_line}
use Rattle.ode_value.specs.Transactions.{Script, Clock, begun}
use Rattle.ode_value.specs.Worlds.{Declared, Entry, Position}
use Rattle.ode_timer.specs.Due.{behind}
use Rattle.ode_machine.specs.Commands.{Step, after, settles, goes_on, does_simple, ends_open, commits, does_class, does_change, does_clock, carried, changes, states, read_piece, command, finish, bones_now}
use Rattle.ode_machine.specs.Refusals.{placed, placed_change, changed_in, checked_in, declared_in, ticks_in}
use Rattle.ode_machine.specs.Sessions.{Session, closed, opened}
use Rattle.ode_machine.specs.Works.{changes_class, declares, ticks, tick, move, then_rest, clock_run}
use Rattle.ode_script.specs.Cutting.{Pieces, Then, Ended, Ending, pieces}
use Rattle.ode_script.specs.Cutting as cutting
use Rattle.ode_machine.specs.Runs.{Item, Settles, Refuses, item_of, answered, ending_items, followed_by, pieces_items, trace, world_at}
use Rattle.ode_laws.proofs.Each.{all-then}
use Rattle.ode_laws.proofs.SideActs.{done_alike}
use Rattle.ode_laws.proofs.SideCompleting.{completes_alike}
use Rattle.ode_laws.proofs.SideStatements.{commands_alike}
use Rattle.ode_laws.proofs.Sides.{EndsBy}
use Rattle.ode_run_laws.proofs.Ticks.{ticks_alike}
use Rattle.ode_queue_laws.specs.Entries.{HasNumberedQueue, IsUsedOnce, MoveQueue}
use Rattle.ode_queue_laws.specs.Stops.{StoppedRun, settled_by}
use Rattle.ode_run_laws.specs.Settled.{settled_of}
use Rattle.ode_queue_laws.proofs.ChangeMoves.{change_moves}
use Rattle.ode_queue_laws.proofs.Collecting.{Leaves, Collecting, begun_collecting, collected_by, Stays, abort_leaves, settle_leaves, transaction_leaves}
use Rattle.ode_queue_laws.proofs.Moves.{Moves, IsNumbered, after_numbered, all_numbered, append_moves, take_moves, drain_moves, with_drain_moves}
use Rattle.ode_queue_laws.proofs.Once.{used_once}

-- ---- the clock

tick_moves : (p : Position) (w : ListWorld) → Moves w (tick lists p w)
tick_moves p w = inl (transaction_leaves (Clock p) w.bones lists 1 (ticks lists p) w refl (λ cs. ticks_alike (collected_by (Clock p) w.bones lists cs) p))

move_moves : (p : Position) (w : ListWorld) → Moves w (move lists p w)
move_moves p w = inl (transaction_leaves (Clock p) w.bones lists 0 nothing w refl (λ cs. done_alike (collected_by (Clock p) w.bones lists cs) 0 tt))

clock_moves : (ps : List Position) (last : Position) (most : ℕ) (w : ListWorld) → IsNumbered w → MoveQueue w (clock_run lists ps last most w)
clock_moves [] last most w numbered = with_drain_moves w most (move lists last w) numbered (move_moves last w)
clock_moves (p ∷ ps) last most w numbered = by_live (is_some (object_at w.bones p.object)) (clock_moves ps last) where
  by_live : (b : Bool) → ((more : ℕ) (v : ListWorld) → IsNumbered v → MoveQueue v (clock_run lists ps last more v))
      → MoveQueue w (cond b (then_rest lists (clock_run lists ps last) most w (with_drain lists most (tick lists p w))) (clock_run lists ps last most w))
  by_live true rest =
      let moves : MoveQueue w (with_drain lists most (tick lists p w)) = with_drain_moves w most (tick lists p w) numbered (tick_moves p w) in
      append_moves w (with_drain lists most (tick lists p w)) (clock_run lists ps last (most - (length (with_drain lists most (tick lists p w)) - 1)) (world_after w (with_drain lists most (tick lists p w)))) moves
      (rest (most - (length (with_drain lists most (tick lists p w)) - 1)) (world_after w (with_drain lists most (tick lists p w))) (after_numbered w (with_drain lists most (tick lists p w)) numbered moves))
  by_live false rest = rest most w numbered

-- ---- a class

abbrev printable : Bool → ListTx → Outcome Histories Starts (Unit {0})
printable b x = cond b (Done tt x) (Aborted Output x)

abbrev declared_tx : Declared → ListWorld → ListTx
declared_tx c w = record (begun Script w) { now = record w { bones = record w.bones { classes = w.bones.classes ++ c ∷ [] } } }

module _ (c : Declared) (w : ListWorld) where
  declared_collecting : Collecting Script w.bones (declared_tx c w)
  declared_collecting = record { is_from = refl; first = refl; collected = tt }

  printed_collecting : Collecting Script w.bones (with_line (class_line c.class.name) (declared_tx c w))
  printed_collecting = record { is_from = refl; first = refl; collected = tt }

  by_room : (b : Bool) → Leaves Script w.bones (settle lists (go_on (go_on (printable b (declared_tx c w)) (λ _. does (with_line (class_line c.class.name)))) (λ _. completes lists))).0.bones
  by_room true =
      settle_leaves Script w.bones lists (w.bones.classes ++ c ∷ []) (completes lists (with_line (class_line c.class.name) (declared_tx c w)))
      (completes_alike (collected_by Script w.bones lists (w.bones.classes ++ c ∷ [])) 0 (with_line (class_line c.class.name) (declared_tx c w)) (with_line (class_line c.class.name) (declared_tx c w)) (refl, refl, printed_collecting))
  by_room false = abort_leaves Script w.bones lists Output (declared_tx c w) declared_collecting

  class_moves : Moves w (transaction lists Script (declares c) w)
  unfolding transaction
  class_moves = inl (by_room (nat_le (length (declared_tx c w).text + length (class_line c.class.name)) output_limit))

-- ---- sessions

-- a transaction that is open is from a script, over its session's world
abbrev IsOpen : ListWorld → Option ListTx → Type 0
IsOpen w None = Unit {0}
IsOpen w (Some x) = Collecting Script w.bones x

pub record IsFine (s : Session) : Type 0 where
  pub numbered : IsNumbered s.world
  pub open_tx : IsOpen s.world s.open_tx

-- a step from a session: what it settles moves the queue, and the session behind it stands on the last world
pub record GoesWell (s : Session) (step : Step) : Type 0 where
  pub moves : MoveQueue s.world step.1
  pub world : step.0.world ≡ world_after s.world step.1
  pub fine : IsFine step.0

after_well : (s : Session) (settled : Settlings) → IsFine s → MoveQueue s.world settled → GoesWell s (after s.world settled)
after_well s settled fine moves = record { moves = moves; world = refl; fine = record { numbered = after_numbered s.world settled fine.numbered moves; open_tx = tt } }

settles_well : (s : Session) (t : Settled Histories Starts) → IsFine s → Moves s.world t → GoesWell s (settles t)
settles_well s t fine moves = after_well s (with_drain lists drain_limit t) fine (with_drain_moves s.world drain_limit t fine.numbered moves)

-- nothing is settled, and the world stays
stays_well : (s t : Session) → t.world ≡ s.world → IsFine t → GoesWell s (t, [])
stays_well s t is fine = record { moves = tt; world = is; fine = fine }

commit_well : (s : Session) (x : ListTx) → IsFine s → Collecting Script s.world.bones x → GoesWell s (settles (commits x))
commit_well s x fine held =
    settles_well s (commits x) fine
    (inl (settle_leaves Script s.world.bones lists x.now.bones.classes (completes lists x) (completes_alike (collected_by Script s.world.bones lists x.now.bones.classes) 0 x x (refl, refl, held))))

ends_well : (s : Session) → IsFine s → (how : ListTx → Settled Histories Starts) → ((x : ListTx) → Collecting Script s.world.bones x → GoesWell s (settles (how x))) → GoesWell s (ends_open s s.open_tx how)
ends_well s fine how well = by_open s.open_tx fine.open_tx where
  by_open : (o : Option ListTx) → IsOpen s.world o → GoesWell s (ends_open s o how)
  by_open None is = stays_well s s refl fine
  by_open (Some x) is = well x is

-- a statement in an open transaction
goes_well : (s : Session) → IsFine s → (cs : List Declared) (p : Outcome Histories Starts (Unit {0})) → EndsBy (Stays Script s.world.bones lists cs) (Stays Script s.world.bones lists cs) p p → GoesWell s (goes_on s.world p)
goes_well s fine cs (Done r x) h = stays_well s (opened s.world x) refl (record { numbered = fine.numbered; open_tx = h.1.2 })
goes_well s fine cs (Aborted r x) h = settles_well s (abort lists r x) fine (inl (abort_leaves Script s.world.bones lists r x h.1.2))

simple_well : (s : Session) → IsFine s → (t : Stmt) → GoesWell s (does_simple s s.open_tx t)
simple_well s fine t = by_open s.open_tx fine.open_tx where
  by_open : (o : Option ListTx) → IsOpen s.world o → GoesWell s (does_simple s o t)
  by_open None is =
      settles_well s (transaction lists Script (commands lists t) s.world) fine
      (inl (transaction_leaves Script s.world.bones lists 0 (commands lists t) s.world refl (λ cs. commands_alike (collected_by Script s.world.bones lists cs) 0 t)))
  by_open (Some x) is =
      goes_well s fine x.now.bones.classes (commands lists t x) (commands_alike (collected_by Script s.world.bones lists x.now.bones.classes) 0 t x x (refl, refl, is))

-- goes on with an answer
abbrev then_answer : {X Y : Type 0} → Answer X → (X → Answer Y) → Answer Y
then_answer (Ok x) next = next x
then_answer (Err refusal) next = Err refusal

-- an answer: a refusal, or such a step
abbrev AnswersWell : Session → Answer Step → Type 0
AnswersWell s (Ok step) = GoesWell s step
AnswersWell s (Err refusal) = Unit {0}

answer_then : {X : Type 0} (s : Session) (a : Answer X) (f : X → Step) → ((x : X) → GoesWell s (f x)) → AnswersWell s (then_answer a (λ x. Ok (f x)))
answer_then s (Ok x) f well = well x
answer_then s (Err refusal) f well = tt

carried_well : (l : Language) (s : Session) → IsFine s → (t : Statement) → AnswersWell s (carried l s t)
carried_well l s fine statement.Empty = stays_well s s refl fine
carried_well l s fine statement.Begin = stays_well s (opened s.world (begun Script s.world)) refl (record { numbered = fine.numbered; open_tx = begun_collecting Script s.world.bones s.world refl })
carried_well l s fine statement.Commit = ends_well s fine commits (λ x held. commit_well s x fine held)
carried_well l s fine statement.Abort = ends_well s fine (abort lists Asked) (λ x held. settles_well s (abort lists Asked x) fine (inl (abort_leaves Script s.world.bones lists Asked x held)))
carried_well l s fine (statement.Class d) = answer_then s (declared_in l s.world.bones d) (does_class s.world) (λ c. settles_well s (transaction lists Script (declares c) s.world) fine (class_moves c s.world))
carried_well l s fine (statement.Clock text) =
    answer_then s (ticks_in l s.world.bones text) (does_clock s.world) (λ t. after_well s (clock_run lists t.1 (behind t.0) drain_limit s.world) fine (clock_moves t.1 (behind t.0) drain_limit s.world fine.numbered))
carried_well l s fine (statement.Simple t) = answer_then s (checked_in l (bones_now s s.open_tx) t) (does_simple s s.open_tx) (simple_well s fine)

-- a piece that is a statement
states_well : (l : Language) (s : Session) → IsFine s → (a : Answer Statement) → AnswersWell s (then_answer a (states l s))
states_well l s fine (Ok t) = by_place (placed s t) where
  by_place : (a : Answer (Unit {0})) → AnswersWell s (then_answer a (λ u. carried l s t))
  by_place (Ok u) = carried_well l s fine t
  by_place (Err refusal) = tt
states_well l s fine (Err refusal) = tt

-- and one that is a change of a class
changes_well : (l : Language) (s : Session) → IsFine s → (a : Answer Change) → AnswersWell s (then_answer a (changes l s))
changes_well l s fine (Ok c) = by_place (placed_change s) where
  by_place : (a : Answer (Unit {0})) → AnswersWell s (then_answer a (λ u. then_answer (changed_in l s.world.bones c) (λ classes. Ok (does_change s.world classes c))))
  by_place (Ok u) =
      answer_then s (changed_in l s.world.bones c) (λ classes. does_change s.world classes c)
      (λ classes. settles_well s (transaction lists Script (changes_class lists classes c) s.world) fine (change_moves classes c s.world))
  by_place (Err refusal) = tt
changes_well l s fine (Err refusal) = tt

command_well : (l : Language) (s : Session) → IsFine s → (piece : List ℕ) → AnswersWell s (command l s piece)
command_well l s fine piece = by_piece (l.change_of piece) where
  by_piece : (o : Option (Answer Change)) → AnswersWell s (read_piece l s piece o)
  by_piece None = states_well l s fine (l.statement_of piece)
  by_piece (Some read) = changes_well l s fine read

-- ---- runs

settled_join : (items more : List Item) → settled_of (items ++ more) ≡ settled_of items ++ settled_of more
settled_join [] more = refl
settled_join (Refuses line ∷ items) more = settled_join items more
settled_join (Settles world text ∷ items) more = ap (λ ss. (world, text) ∷ ss) (settled_join items more)

settled_items : (settled : Settlings) → settled_of (map item_of settled) ≡ settled
settled_items [] = refl
settled_items (s ∷ settled) = ap (λ ss. s ∷ ss) (settled_items settled)

items_moves : (w : ListWorld) (settled : Settlings) (items : List Item) → MoveQueue w settled → MoveQueue (world_after w settled) (settled_of items) → MoveQueue w (settled_of (map item_of settled ++ items))
items_moves w settled items moves rest =
    subst (MoveQueue w) (sym (settled_join (map item_of settled) items ∙ ap (λ ss. ss ++ settled_of items) (settled_items settled))) (append_moves w settled (settled_of items) moves rest)

ending_moves : (l : Language) (s : Session) → IsFine s → (ending : Ending) → MoveQueue s.world (settled_of (ending_items l s ending))
ending_moves l s fine cutting.End =
    subst (MoveQueue s.world) (sym (settled_items (finish s).1))
    (ends_well s fine (abort lists End) (λ x held. settles_well s (abort lists End x) fine (inl (abort_leaves Script s.world.bones lists End x held)))).moves
ending_moves l s fine cutting.LongStatement = tt
ending_moves l s fine cutting.LongScript = tt

pieces_moves : (l : Language) (ps : Pieces) (s : Session) → IsFine s → MoveQueue s.world (settled_of (pieces_items l ps s))
unfolding pieces_items
pieces_moves l (Ended ending) s fine = ending_moves l s fine ending
pieces_moves l (Then line text rest) s fine = by_answer (command l s text) (command_well l s fine text) (pieces_moves l rest) where
  by_answer : (a : Answer Step) → AnswersWell s a → ((t : Session) → IsFine t → MoveQueue t.world (settled_of (pieces_items l rest t))) → MoveQueue s.world (settled_of (followed_by l (answered s line a) (pieces_items l rest)))
  by_answer (Err refusal) well later = later s fine
  by_answer (Ok step) well later =
      items_moves s.world step.1 (pieces_items l rest step.0) well.moves (subst (λ w. MoveQueue w (settled_of (pieces_items l rest step.0))) well.world (later step.0 well.fine))

trace_moves : (l : Language) (w : ListWorld) (script : List ℕ) → IsNumbered w → MoveQueue w (settled_of (trace l w script))
trace_moves l w script numbered =
    let moves : MoveQueue w (drain lists drain_limit w) = drain_moves drain_limit w numbered in
    items_moves w (drain lists drain_limit w) (pieces_items l (pieces script) (closed (world_after w (drain lists drain_limit w)))) moves
    (pieces_moves l (pieces script) (closed (world_after w (drain lists drain_limit w))) (record { numbered = after_numbered w (drain lists drain_limit w) numbered moves; open_tx = tt }))

-- ---- runs and stops

-- the world that a stop leaves is the one behind the transactions that were settled before it
world_stopped : (k : ℕ) (w : ListWorld) (items : List Item) → world_at k w items ≡ world_after w (take k (settled_of items))
world_stopped zero w [] = refl
world_stopped (suc k) w [] = refl
world_stopped k w (Refuses line ∷ items) = world_stopped k w items
world_stopped zero w (Settles world text ∷ items) = refl
world_stopped (suc k) w (Settles world text ∷ items) = world_stopped k world items

pub runs_move : (l : Language) (w : ListWorld) (runs : List StoppedRun) → IsNumbered w → MoveQueue w (settled_by l w runs)
runs_move l w [] numbered = tt
runs_move l w (r ∷ runs) numbered =
    let settled : Settlings = settled_of (trace l w r.script) in
    let moves : MoveQueue w (take r.settles settled) = take_moves r.settles w settled (trace_moves l w r.script numbered) in
    let is : world_at r.settles w (trace l w r.script) ≡ world_after w (take r.settles settled) = world_stopped r.settles w (trace l w r.script) in
    let next : IsNumbered (world_at r.settles w (trace l w r.script)) = subst IsNumbered (sym is) (after_numbered w (take r.settles settled) numbered moves) in
    append_moves w (take r.settles settled) (settled_by l (world_at r.settles w (trace l w r.script)) runs) moves
    (subst (λ v. MoveQueue v (settled_by l (world_at r.settles w (trace l w r.script)) runs)) is (runs_move l (world_at r.settles w (trace l w r.script)) runs next))

pub runs_numbered : (l : Language) (w : ListWorld) (runs : List StoppedRun) → IsNumbered w → AllByRecursion (λ (s : Settled Histories Starts). HasNumberedQueue s.0.bones) (settled_by l w runs)
runs_numbered l w runs numbered = all_numbered w (settled_by l w runs) numbered (runs_move l w runs numbered)

-- ---- good worlds

pub good_queue : (l : Language) (w : ListWorld) → IsGood l w → HasNumberedQueue w.bones
good_queue l w good = record {
  rising = good.bones.rising_queue;
  given = all-then (IsEntry w.bones) (λ (q : ℕ × Entry). q.0 < w.bones.next_entry) (λ q is. is.number) w.bones.queue good.bones.queue;
}

pub runs_use_once : (l : Language) (w : ListWorld) (runs : List StoppedRun) → HasNumberedQueue w.bones → (number : ℕ) → IsUsedOnce number w (settled_by l w runs)
runs_use_once l w runs numbered number = used_once number w (settled_by l w runs) numbered (runs_move l w runs numbered)
