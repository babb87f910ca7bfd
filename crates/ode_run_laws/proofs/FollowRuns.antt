-- Each world of a run follows the one before it.
use Rattle.std.proofs.Common.{◌≡◌, ℕ, zero, suc, ◌+◌, ◌-◌, Bool, true, false, cond, List, [], ◌∷◌, ◌++◌, map, length, Option, Some, None, Ok, Err, refl, sym, subst}
use Rattle.std.specs.Prelude.{nat_lt, nat_le, is_some}
use Rattle.std.specs.List.{AllByRecursion}
use Rattle.ode_value.specs.declared.change.Change.{Change}
use Rattle.ode_value.specs.declared.reason.Reason.TheVariants.{Asked, End, Output}
use Rattle.ode_value.specs.declared.statement.Statement.{Statement}
use Rattle.ode_value.specs.declared.statement.Statement.TheVariants as statement
use Rattle.ode_value.specs.declared.statement.Stmt.{Stmt}
use Rattle.ode_value.specs.Acts.{Outcome, Done, Aborted, go_on, nothing, does, with_line}
use Rattle.ode_value.specs.Answers.{Answer}
use Rattle.ode_value.specs.Completing.{completes}
use Rattle.ode_value.specs.Denoting.{object_at}
use Rattle.ode_value.specs.Draining.{runs_entry, entry_settled, front, drain, with_drain, world_after}
use Rattle.ode_value.specs.Executing.{commands}
use Rattle.ode_value.specs.Language.{ListWorld, ListTx, Settlings, Language}
use Rattle.ode_value.specs.Limits.{number_limit, output_limit, drain_limit}
use Rattle.ode_value.specs.Objects.{Histories, Starts}
use Rattle.ode_value.specs.Pasts.{lists}
use Rattle.ode_value.specs.Settling.{Settled, abort, settle, transaction}
use Rattle.ode_value.specs.Texts.{class_line}
use Rattle.ode_value.specs.Transactions.{Script, Queue, Clock, begun}
use Rattle.ode_value.specs.Worlds.{Declared, Entry, Position, Bones}
use Rattle.ode_timer.specs.Due.{behind}
use Rattle.ode_machine.specs.Commands.{Step, after, settles, goes_on, does_simple, ends_open, commits, does_class, does_change, does_clock, carried, changes, states, read_piece, command, finish, bones_now}
use Rattle.ode_machine.specs.Refusals.{placed, placed_change, changed_in, checked_in, declared_in, ticks_in}
use Rattle.ode_machine.specs.Sessions.{Session, closed, opened}
use Rattle.ode_machine.specs.Works.{changes_class, declares, ticks, tick, move, then_rest, clock_run}
use Rattle.ode_script.specs.Cutting.{Pieces, Then, Ended, Ending, pieces}
use Rattle.ode_script.specs.Cutting as cutting
use Rattle.ode_machine.specs.Runs.{Item, item_of, answered, ending_items, followed_by, pieces_items, trace, worlds}
use Rattle.ode_machine.specs.Stability.{EachFollows, IsStable}
use Rattle.ode_laws.proofs.SideActs.{done_alike}
use Rattle.ode_laws.proofs.SideCompleting.{completes_alike, entry_alike}
use Rattle.ode_laws.proofs.SideStatements.{commands_alike}
use Rattle.ode_laws.proofs.Sides.{EndsBy}
use Rattle.ode_run_laws.specs.Orders.{IsOrdered}
use Rattle.ode_run_laws.proofs.FollowChanges.{change_settled}
use Rattle.ode_run_laws.proofs.FollowLaws.{Following}
use Rattle.ode_run_laws.proofs.FollowSettling.{IsSettled, begun_follows, followed, StaysHeld, settle_follows, transaction_follows, abort_follows}
use Rattle.ode_run_laws.proofs.JoinLaws.{worlds_join}
use Rattle.ode_run_laws.proofs.StableLaws.{stable}
use Rattle.ode_run_laws.proofs.Ticks.{ticks_alike}

-- ---- settled transactions, one after the other

-- each follows the one before, from these bones on
abbrev pub Chains : Bones → Settlings → Type 0
Chains b [] = Unit {0}
Chains b (s ∷ settled) = IsSettled b s.0.bones × Chains s.0.bones settled

after_ordered : (w : ListWorld) (settled : Settlings) → IsOrdered w.bones → Chains w.bones settled → IsOrdered (world_after w settled).bones
after_ordered w [] ordered chain = ordered
after_ordered w (s ∷ settled) ordered chain = after_ordered s.0 settled chain.0.ordered chain.1

chain_append : (w : ListWorld) (settled more : Settlings) → Chains w.bones settled → Chains (world_after w settled).bones more → Chains w.bones (settled ++ more)
chain_append w [] more chain rest = rest
chain_append w (s ∷ settled) more chain rest = (chain.0, chain_append s.0 settled more chain.1 rest)

drain_chain : (most : ℕ) (w : ListWorld) → IsOrdered w.bones → Chains w.bones (drain lists most w)
unfolding drain
drain_chain zero w ordered = tt
drain_chain (suc most) w ordered = by_queue w.bones.queue (λ s chain. (chain, drain_chain most s.0 chain.ordered)) where
  by_room : (q : ℕ × Entry) (b : Bool) → ((s : Settled Histories Starts) → IsSettled w.bones s.0.bones → Chains w.bones (s ∷ drain lists most s.0)) → Chains w.bones (cond b (entry_settled lists w q ∷ drain lists most (entry_settled lists w q).0) [])
  by_room q true rest = rest (entry_settled lists w q) (transaction_follows lists w.bones ordered (Queue q.0 q.1.generation) 1 (runs_entry lists q.1) w refl (λ cs. entry_alike (followed lists w.bones ordered cs) 0 q.1))
  by_room q false rest = tt

  by_queue : (qs : List (ℕ × Entry)) → ((s : Settled Histories Starts) → IsSettled w.bones s.0.bones → Chains w.bones (s ∷ drain lists most s.0)) → Chains w.bones (front lists qs w (λ s. s ∷ drain lists most s.0))
  by_queue [] rest = tt
  by_queue (q ∷ qs) rest = by_room q (nat_lt w.bones.transaction number_limit) rest

with_drain_chain : (b : Bones) (most : ℕ) (s : Settled Histories Starts) → IsSettled b s.0.bones → Chains b (with_drain lists most s)
with_drain_chain b most s settled = (settled, drain_chain most s.0 settled.ordered)

-- ---- the clock

tick_settled : (p : Position) (w : ListWorld) → IsOrdered w.bones → IsSettled w.bones (tick lists p w).0.bones
tick_settled p w ordered = transaction_follows lists w.bones ordered (Clock p) 1 (ticks lists p) w refl (λ cs. ticks_alike (followed lists w.bones ordered cs) p)

move_settled : (p : Position) (w : ListWorld) → IsOrdered w.bones → IsSettled w.bones (move lists p w).0.bones
move_settled p w ordered = transaction_follows lists w.bones ordered (Clock p) 0 nothing w refl (λ cs. done_alike (followed lists w.bones ordered cs) 0 tt)

clock_chain : (ps : List Position) (last : Position) (most : ℕ) (w : ListWorld) → IsOrdered w.bones → Chains w.bones (clock_run lists ps last most w)
clock_chain [] last most w ordered = with_drain_chain w.bones most (move lists last w) (move_settled last w ordered)
clock_chain (p ∷ ps) last most w ordered = by_live (is_some (object_at w.bones p.object)) (clock_chain ps last) where
  by_live : (b : Bool) → ((more : ℕ) (v : ListWorld) → IsOrdered v.bones → Chains v.bones (clock_run lists ps last more v))
      → Chains w.bones (cond b (then_rest lists (clock_run lists ps last) most w (with_drain lists most (tick lists p w))) (clock_run lists ps last most w))
  by_live true rest =
      let chain : Chains w.bones (with_drain lists most (tick lists p w)) = with_drain_chain w.bones most (tick lists p w) (tick_settled p w ordered) in
      chain_append w (with_drain lists most (tick lists p w)) (clock_run lists ps last (most - (length (with_drain lists most (tick lists p w)) - 1)) (world_after w (with_drain lists most (tick lists p w)))) chain
      (rest (most - (length (with_drain lists most (tick lists p w)) - 1)) (world_after w (with_drain lists most (tick lists p w))) (after_ordered w (with_drain lists most (tick lists p w)) ordered chain))
  by_live false rest = rest most w ordered

-- ---- a class

abbrev printable : Bool → ListTx → Outcome Histories Starts (Unit {0})
printable b x = cond b (Done tt x) (Aborted Output x)

abbrev declared_tx : Declared → ListWorld → ListTx
declared_tx c w = record (begun Script w) { now = record w { bones = record w.bones { classes = w.bones.classes ++ c ∷ [] } } }

module _ (c : Declared) (w : ListWorld) (ordered : IsOrdered w.bones) where
  begun_held : Following w.bones lists ordered.numbered.objects 0 (begun Script w)
  begun_held = begun_follows lists w.bones ordered 0 Script w refl

  declared_held : Following w.bones lists ordered.numbered.objects 0 (declared_tx c w)
  declared_held = record { first = begun_held.first; next = begun_held.next; objects = begun_held.objects; numbered = begun_held.numbered; versions = begun_held.versions }

  printed_held : Following w.bones lists ordered.numbered.objects 0 (with_line (class_line c.class.name) (declared_tx c w))
  printed_held = record { first = begun_held.first; next = begun_held.next; objects = begun_held.objects; numbered = begun_held.numbered; versions = begun_held.versions }

  by_room : (b : Bool) → IsSettled w.bones (settle lists (go_on (go_on (printable b (declared_tx c w)) (λ _. does (with_line (class_line c.class.name)))) (λ _. completes lists))).0.bones
  by_room true =
      settle_follows lists w.bones ordered (w.bones.classes ++ c ∷ []) (completes lists (with_line (class_line c.class.name) (declared_tx c w)))
      (completes_alike (followed lists w.bones ordered (w.bones.classes ++ c ∷ [])) 0 (with_line (class_line c.class.name) (declared_tx c w)) (with_line (class_line c.class.name) (declared_tx c w)) (refl, refl, printed_held))
  by_room false = abort_follows lists w.bones ordered Output (declared_tx c w) declared_held

  class_settled : IsSettled w.bones (transaction lists Script (declares c) w).0.bones
  unfolding transaction
  class_settled = by_room (nat_le (length (declared_tx c w).text + length (class_line c.class.name)) output_limit)

-- ---- sessions

-- a transaction that is open has followed its session's world
abbrev IsOpen : (w : ListWorld) → IsOrdered w.bones → Option ListTx → Type 0
IsOpen w ordered None = Unit {0}
IsOpen w ordered (Some x) = Following w.bones lists ordered.numbered.objects 0 x

pub record IsFine (s : Session) : Type 0 where
  pub ordered : IsOrdered s.world.bones
  pub open_tx : IsOpen s.world ordered s.open_tx

-- a step from a session: what it settles follows the session's world, and the session behind it stands on the last world
pub record GoesWell (s : Session) (step : Step) : Type 0 where
  pub chain : Chains s.world.bones step.1
  pub world : step.0.world ≡ world_after s.world step.1
  pub fine : IsFine step.0

closed_fine : (w : ListWorld) → IsOrdered w.bones → IsFine (closed w)
closed_fine w ordered = record { ordered = ordered; open_tx = tt }

after_well : (s : Session) (settled : Settlings) → IsFine s → Chains s.world.bones settled → GoesWell s (after s.world settled)
after_well s settled fine chain = record { chain = chain; world = refl; fine = closed_fine (world_after s.world settled) (after_ordered s.world settled fine.ordered chain) }

settles_well : (s : Session) (t : Settled Histories Starts) → IsFine s → IsSettled s.world.bones t.0.bones → GoesWell s (settles t)
settles_well s t fine settled = after_well s (with_drain lists drain_limit t) fine (with_drain_chain s.world.bones drain_limit t settled)

-- nothing is settled, and the world stays
stays_well : (s t : Session) → t.world ≡ s.world → IsFine t → GoesWell s (t, [])
stays_well s t is fine = record { chain = tt; world = is; fine = fine }

commit_well : (s : Session) (x : ListTx) → IsFine s → (ordered : IsOrdered s.world.bones) → Following s.world.bones lists ordered.numbered.objects 0 x → GoesWell s (settles (commits x))
commit_well s x fine ordered held =
    settles_well s (commits x) fine
    (settle_follows lists s.world.bones ordered x.now.bones.classes (completes lists x) (completes_alike (followed lists s.world.bones ordered x.now.bones.classes) 0 x x (refl, refl, held)))

ends_well : (s : Session) → (fine : IsFine s) → (how : ListTx → Settled Histories Starts) → ((x : ListTx) → Following s.world.bones lists fine.ordered.numbered.objects 0 x → GoesWell s (settles (how x))) → GoesWell s (ends_open s s.open_tx how)
ends_well s fine how well = by_open s.open_tx refl fine.open_tx where
  by_open : (o : Option ListTx) → s.open_tx ≡ o → IsOpen s.world fine.ordered o → GoesWell s (ends_open s o how)
  by_open None e goes = stays_well s s refl fine
  by_open (Some x) e goes = well x goes

-- a statement in an open transaction
goes_well : (s : Session) → (fine : IsFine s) → (cs : List Declared) (p : Outcome Histories Starts (Unit {0})) → EndsBy (StaysHeld lists s.world.bones fine.ordered cs) (StaysHeld lists s.world.bones fine.ordered cs) p p → GoesWell s (goes_on s.world p)
goes_well s fine cs (Done r x) h = stays_well s (opened s.world x) refl (record { ordered = fine.ordered; open_tx = h.1.2 })
goes_well s fine cs (Aborted r x) h = settles_well s (abort lists r x) fine (abort_follows lists s.world.bones fine.ordered r x h.1.2)

simple_well : (s : Session) → IsFine s → (t : Stmt) → GoesWell s (does_simple s s.open_tx t)
simple_well s fine t = by_open s.open_tx fine.open_tx where
  by_open : (o : Option ListTx) → IsOpen s.world fine.ordered o → GoesWell s (does_simple s o t)
  by_open None goes =
      settles_well s (transaction lists Script (commands lists t) s.world) fine
      (transaction_follows lists s.world.bones fine.ordered Script 0 (commands lists t) s.world refl (λ cs. commands_alike (followed lists s.world.bones fine.ordered cs) 0 t))
  by_open (Some x) goes =
      goes_well s fine x.now.bones.classes (commands lists t x) (commands_alike (followed lists s.world.bones fine.ordered x.now.bones.classes) 0 t x x (refl, refl, goes))

-- goes on with an answer
abbrev then_answer : {X Y : Type 0} → Answer X → (X → Answer Y) → Answer Y
then_answer (Ok x) next = next x
then_answer (Err refusal) next = Err refusal

-- an answer: a refusal, or such a step
abbrev AnswersWell : Session → Answer Step → Type 0
AnswersWell s (Ok step) = GoesWell s step
AnswersWell s (Err refusal) = Unit {0}

answer_then : {X : Type 0} (s : Session) (a : Answer X) (f : X → Step) → ((x : X) → GoesWell s (f x)) → AnswersWell s (then_answer a (λ x. Ok (f x)))
answer_then s (Ok x) f well = well x
answer_then s (Err refusal) f well = tt

carried_well : (l : Language) (s : Session) → IsFine s → (t : Statement) → AnswersWell s (carried l s t)
carried_well l s fine statement.Empty = stays_well s s refl fine
carried_well l s fine statement.Begin =
    stays_well s (opened s.world (begun Script s.world)) refl (record { ordered = fine.ordered; open_tx = begun_follows lists s.world.bones fine.ordered 0 Script s.world refl })
carried_well l s fine statement.Commit = ends_well s fine commits (λ x held. commit_well s x fine fine.ordered held)
carried_well l s fine statement.Abort = ends_well s fine (abort lists Asked) (λ x held. settles_well s (abort lists Asked x) fine (abort_follows lists s.world.bones fine.ordered Asked x held))
carried_well l s fine (statement.Class d) = answer_then s (declared_in l s.world.bones d) (does_class s.world) (λ c. settles_well s (transaction lists Script (declares c) s.world) fine (class_settled c s.world fine.ordered))
carried_well l s fine (statement.Clock text) =
    answer_then s (ticks_in l s.world.bones text) (does_clock s.world) (λ t. after_well s (clock_run lists t.1 (behind t.0) drain_limit s.world) fine (clock_chain t.1 (behind t.0) drain_limit s.world fine.ordered))
carried_well l s fine (statement.Simple t) = answer_then s (checked_in l (bones_now s s.open_tx) t) (does_simple s s.open_tx) (simple_well s fine)

-- a piece that is a statement
states_well : (l : Language) (s : Session) → IsFine s → (a : Answer Statement) → AnswersWell s (then_answer a (states l s))
states_well l s fine (Ok t) = by_place (placed s t) where
  by_place : (a : Answer (Unit {0})) → AnswersWell s (then_answer a (λ u. carried l s t))
  by_place (Ok u) = carried_well l s fine t
  by_place (Err refusal) = tt
states_well l s fine (Err refusal) = tt

-- and one that is a change of a class
changes_well : (l : Language) (s : Session) → IsFine s → (a : Answer Change) → AnswersWell s (then_answer a (changes l s))
changes_well l s fine (Ok c) = by_place (placed_change s) where
  by_place : (a : Answer (Unit {0})) → AnswersWell s (then_answer a (λ u. then_answer (changed_in l s.world.bones c) (λ classes. Ok (does_change s.world classes c))))
  by_place (Ok u) =
      answer_then s (changed_in l s.world.bones c) (λ classes. does_change s.world classes c)
      (λ classes. settles_well s (transaction lists Script (changes_class lists classes c) s.world) fine (change_settled classes c s.world fine.ordered))
  by_place (Err refusal) = tt
changes_well l s fine (Err refusal) = tt

command_well : (l : Language) (s : Session) → IsFine s → (piece : List ℕ) → AnswersWell s (command l s piece)
command_well l s fine piece = by_piece (l.change_of piece) where
  by_piece : (o : Option (Answer Change)) → AnswersWell s (read_piece l s piece o)
  by_piece None = states_well l s fine (l.statement_of piece)
  by_piece (Some read) = changes_well l s fine read

-- ---- runs

-- items from a session on: their worlds follow, one after the other
abbrev pub Chain : Bones → List ListWorld → Type 0
Chain b [] = Unit {0}
Chain b (w ∷ ws) = IsSettled b w.bones × Chain w.bones ws

chain_both : (w : ListWorld) (settled : Settlings) (more : List ListWorld) → Chains w.bones settled → Chain (world_after w settled).bones more → Chain w.bones (worlds (map item_of settled) ++ more)
chain_both w [] more chain rest = rest
chain_both w (s ∷ settled) more chain rest = (chain.0, chain_both s.0 settled more chain.1 rest)

items_chain : (w : ListWorld) (settled : Settlings) (items : List Item) → Chains w.bones settled → Chain (world_after w settled).bones (worlds items) → Chain w.bones (worlds (map item_of settled ++ items))
items_chain w settled items chain rest = subst (Chain w.bones) (sym (worlds_join (map item_of settled) items)) (chain_both w settled (worlds items) chain rest)

chain_of : (w : ListWorld) (settled : Settlings) → Chains w.bones settled → Chain w.bones (worlds (map item_of settled))
chain_of w [] chain = tt
chain_of w (s ∷ settled) chain = (chain.0, chain_of s.0 settled chain.1)

ending_chain : (l : Language) (s : Session) → IsFine s → (ending : Ending) → Chain s.world.bones (worlds (ending_items l s ending))
ending_chain l s fine cutting.End =
    chain_of s.world (finish s).1 (ends_well s fine (abort lists End) (λ x held. settles_well s (abort lists End x) fine (abort_follows lists s.world.bones fine.ordered End x held))).chain
ending_chain l s fine cutting.LongStatement = tt
ending_chain l s fine cutting.LongScript = tt

pieces_chain : (l : Language) (ps : Pieces) (s : Session) → IsFine s → Chain s.world.bones (worlds (pieces_items l ps s))
unfolding pieces_items
pieces_chain l (Ended ending) s fine = ending_chain l s fine ending
pieces_chain l (Then line text rest) s fine = by_answer (command l s text) (command_well l s fine text) (pieces_chain l rest) where
  by_answer : (a : Answer Step) → AnswersWell s a → ((t : Session) → IsFine t → Chain t.world.bones (worlds (pieces_items l rest t))) → Chain s.world.bones (worlds (followed_by l (answered s line a) (pieces_items l rest)))
  by_answer (Err refusal) well later = later s fine
  by_answer (Ok step) well later =
      items_chain s.world step.1 (pieces_items l rest step.0) well.chain (subst (λ w. Chain w.bones (worlds (pieces_items l rest step.0))) well.world (later step.0 well.fine))

trace_chain : (l : Language) (w : ListWorld) (script : List ℕ) → IsOrdered w.bones → Chain w.bones (worlds (trace l w script))
trace_chain l w script ordered =
    let chain : Chains w.bones (drain lists drain_limit w) = drain_chain drain_limit w ordered in
    items_chain w (drain lists drain_limit w) (pieces_items l (pieces script) (closed (world_after w (drain lists drain_limit w)))) chain
    (pieces_chain l (pieces script) (closed (world_after w (drain lists drain_limit w))) (closed_fine (world_after w (drain lists drain_limit w)) (after_ordered w (drain lists drain_limit w) ordered chain)))

abbrev bones_of : ListWorld → Bones
bones_of w = w.bones

each_follows : (b : Bones) (ws : List ListWorld) → Chain b ws → EachFollows b (map bones_of ws)
each_follows b [] chain = tt
each_follows b (w ∷ ws) chain = (chain.0.follows, each_follows w.bones ws chain.1)

all_ordered : (b : Bones) (ws : List ListWorld) → Chain b ws → AllByRecursion IsOrdered (map bones_of ws)
all_ordered b [] chain = tt
all_ordered b (w ∷ ws) chain = (chain.0.ordered, all_ordered w.bones ws chain.1)

pub runs_stable : (l : Language) (w : ListWorld) (script : List ℕ) → IsOrdered w.bones → IsStable w.bones (map bones_of (worlds (trace l w script)))
runs_stable l w script ordered =
    let chain : Chain w.bones (worlds (trace l w script)) = trace_chain l w script ordered in
    stable w.bones (map bones_of (worlds (trace l w script))) ordered (all_ordered w.bones (worlds (trace l w script)) chain) (each_follows w.bones (worlds (trace l w script)) chain)

pub runs_ordered : (l : Language) (w : ListWorld) (script : List ℕ) → IsOrdered w.bones → AllByRecursion IsOrdered (map bones_of (worlds (trace l w script)))
runs_ordered l w script ordered = all_ordered w.bones (worlds (trace l w script)) (trace_chain l w script ordered)
