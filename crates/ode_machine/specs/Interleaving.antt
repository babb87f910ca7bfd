-- Sessions with transactions that are open side by side over one world: what a step of one of them comes to.
use Rattle.std.specs.Prelude.{ℕ, ◌+◌, List, [], ◌∷◌, ◌++◌, map, length, Bool, true, false, cond, not, nat_lt, nat_eq, ◌==◌, ◌&&◌, is_some, Option, Some, None, Ok, Err}
use Rattle.std.specs.List.{filter, find, list_any}
use Rattle.std.specs.Option.{option_map}
use Rattle.ode_machine.specs.declared.owned.Owned.{Owned}
use Rattle.ode_machine.specs.declared.owned.Owned.TheVariants as on
use Rattle.ode_machine.specs.Commands.{Step, carried}
use Rattle.ode_machine.specs.Refusals.{checked_in, is_lone, place_of}
use Rattle.ode_machine.specs.Sessions.{closed}
use Rattle.ode_value.specs.Acts.{Outcome, Done, Aborted, Deed, ◌>>◌, each, looks, reached}
use Rattle.ode_value.specs.Answers.{Answer}
use Rattle.ode_value.specs.Completing.{completes}
use Rattle.ode_value.specs.Draining.{with_drain, world_after}
use Rattle.ode_value.specs.Executing.{commands}
use Rattle.ode_value.specs.Footprints.{Footprint, no_footprint}
use Rattle.ode_value.specs.Language.{Language, ListTx, ListWorld, Settlings}
use Rattle.ode_value.specs.Limits.{drain_limit, number_limit}
use Rattle.ode_value.specs.Objects.{Histories, Starts}
use Rattle.ode_value.specs.Pasts.{lists}
use Rattle.ode_value.specs.Settling.{Settled, ended, settle}
use Rattle.ode_value.specs.Transactions.{Script, begun, looking}
use Rattle.ode_value.specs.declared.reason.Reason.{Reason}
use Rattle.ode_value.specs.declared.reason.Reason.TheVariants.{Asked, End}
use Rattle.ode_value.specs.declared.reason.Refusal.{Refusal}
use Rattle.ode_value.specs.declared.reason.Refusal.TheVariants as refusal
use Rattle.ode_value.specs.declared.statement.Statement.{Statement}
use Rattle.ode_value.specs.declared.statement.Statement.TheVariants as statement
use Rattle.ode_value.specs.declared.statement.Stmt.{Stmt}
use Rattle.ode_value.specs.declared.value.Ref.{Ref}

-- a statement that a session did: the objects that its literals refer to, and its tree as it was checked
pub record Taken : Type 0 where
  pub literals : List ℕ
  pub checked : Stmt

-- an open session: its number; the statements that it did, in order; what these looked at, drew and queued
pub record Open : Type 0 where
  pub session : ℕ
  pub taken : List Taken
  pub held : Footprint

-- the world now, and the open sessions in rising order of their numbers
pub record Interleaved : Type 0 where
  pub world : ListWorld
  pub sessions : List Open

-- ---- the open sessions

abbrev pub is_session : ℕ → Open → Bool
is_session n o = o.session == n

abbrev pub session_of : ℕ → List Open → Option Open
session_of n sessions = find (is_session n) sessions

abbrev pub others_of : ℕ → List Open → List Open
others_of n sessions = filter (λ o. not (is_session n o)) sessions

-- with one more, at its place
abbrev pub with_open : Open → List Open → List Open
with_open o [] = o ∷ []
with_open o (p ∷ more) = cond (nat_lt o.session p.session) (o ∷ p ∷ more) (p ∷ with_open o more)

-- ---- who holds what a step needs

-- a session, and what it holds
abbrev pub Holder : Type 0
Holder = ℕ × Owned

-- the first session with this, which holds that
abbrev pub first_with : Owned → (Open → Bool) → List Open → Option Holder
first_with what holds sessions = option_map (λ (o : Open). (o.session, what)) (find holds sessions)

abbrev pub holds_object : ℕ → Open → Bool
holds_object id o = list_any (nat_eq id) o.held.looked

-- the first of these holders, where there is one
abbrev pub or_else : Option Holder → Option Holder → Option Holder
or_else (Some h) more = Some h
or_else None more = more

-- the first of these objects that a session holds
abbrev pub holder_of : List ℕ → List Open → Option Holder
holder_of [] sessions = None
holder_of (id ∷ ids) sessions = or_else (first_with (on.Object id) (holds_object id) sessions) (holder_of ids sessions)

-- Of the other sessions the one that holds what a step needs, and what it is: all, where the step is to be alone; the numbers, where it
-- draws one; the least of the objects that it looks at; the queue, where a firing of it is collected or dropped.
abbrev pub holder : Bool → Footprint → List Open → Option Holder
holder alone f others =
    or_else (first_with on.All (λ o. alone) others)
    (or_else (first_with on.Numbers (λ o. f.drew && o.held.drew) others)
    (or_else (holder_of f.looked others) (first_with on.Queue (λ o. f.queued && o.held.queued) others)))

-- a class declaration and the clock are to be alone
abbrev pub is_alone : Statement → Bool
is_alone (statement.Class d) = true
is_alone (statement.Clock text) = true
is_alone _ = false

-- ---- what a step comes to by itself

-- a statement of a session looks at the objects of its literals before all else
abbrev pub takes : Taken → Deed Histories Starts
takes t = looks t.literals >> commands lists t.checked

-- the statements of a session, on the world as it is now
abbrev pub run_on : ListWorld → List Taken → Outcome Histories Starts (Unit {0})
run_on w taken = each takes taken (begun Script w)

-- the view of a session: its transaction on that world; of one that isn't open, a transaction that begins there
abbrev pub view : ListWorld → Option Open → ListTx
view w None = begun Script w
view w (Some o) = reached (run_on w o.taken)

-- On its session's view: the session is open behind it, with these statements done; its transaction ends, by this outcome of its work; or
-- it is refused. A class or a clock command has an answer of its own. Or it does nothing.
pub data Trial : Type 0 where
  Stays : (taken : List Taken) (x : ListTx) → Trial
  Ends : (outcome : Outcome Histories Starts (Unit {0})) → Trial
  Turns : (why : Refusal) (x : ListTx) → Trial
  Alone : (answer : Answer Step) → Trial
  Rests : Trial

-- an open session behind a statement of its own
abbrev pub trial_open : List Taken → Outcome Histories Starts (Unit {0}) → Trial
trial_open taken (Done answer x) = Stays taken x
trial_open taken (Aborted reason x) = Ends (Aborted reason x)

-- a statement that takes a number for a transaction has one, beside those that the open sessions will take
abbrev pub has_number : Interleaved → Bool
has_number m = nat_lt (m.world.bones.transaction + length m.sessions) number_limit

abbrev pub spends : Option Open → Statement → Bool
spends own s = not (is_some own) && not (is_lone s)

-- `;`
abbrev pub trial_empty : Option Open → ListTx → Trial
trial_empty None x = Rests
trial_empty (Some o) x = Stays o.taken x

module _ (l : Language) where
  -- the objects that a statement's literals refer to
  abbrev pub literal_objects : Stmt → List ℕ
  literal_objects s = map (λ (r : Ref). r.object) (l.literals s)

  -- a checked statement that looked at its literals, as a whole transaction or in the open one
  abbrev pub tries_checked : Option Open → List ℕ → ListTx → Stmt → Trial
  tries_checked None literals x c = Ends ((commands lists c >> completes lists) x)
  tries_checked (Some o) literals x c = trial_open (o.taken ++ record { literals = literals; checked = c } ∷ []) (commands lists c x)

  abbrev pub tries_answer : Option Open → List ℕ → ListTx → Answer Stmt → Trial
  tries_answer own literals x (Ok c) = tries_checked own literals x c
  tries_answer own literals x (Err why) = Turns why x

  -- a simple statement looks at its literals; then it is refused where it needs a number and there is none, and else by the static rules
  abbrev pub tries_simple : Option Open → Bool → Stmt → ListTx → Trial
  tries_simple own spent s x =
      let y = looking (literal_objects s) x in
      cond spent (Turns refusal.NumbersSpent y) (tries_answer own (literal_objects s) y (checked_in l y.now.bones s))

  -- a statement that stands in its place, by its session where that is open, its view, and whether it needs a number and there is none
  abbrev pub tries_in : ListWorld → Option Open → Bool → ListTx → Statement → Trial
  tries_in w own spent x statement.Empty = trial_empty own x
  tries_in w own spent x statement.Begin = cond spent (Turns refusal.NumbersSpent x) (Stays [] x)
  tries_in w own spent x statement.Commit = Ends (completes lists x)
  tries_in w own spent x statement.Abort = Ends (Aborted Asked x)
  tries_in w own spent x (statement.Class d) = cond spent (Turns refusal.NumbersSpent x) (Alone (carried l (closed w) (statement.Class d)))
  tries_in w own spent x (statement.Clock text) = cond spent (Turns refusal.NumbersSpent x) (Alone (carried l (closed w) (statement.Clock text)))
  tries_in w own spent x (statement.Simple s) = tries_simple own spent s x

  abbrev pub tries : Interleaved → Option Open → Statement → Trial
  tries m own s = tries_in m.world own (spends own s && not (has_number m)) (view m.world own) s

-- what it looks at, draws and queues, its settling and what its session holds included
abbrev pub footprint_of : Trial → Footprint
footprint_of (Stays taken x) = x.footprint
footprint_of (Ends outcome) = (ended lists outcome).footprint
footprint_of (Turns why x) = x.footprint
footprint_of (Alone answer) = no_footprint
footprint_of Rests = no_footprint

-- ---- a step

-- A refusal; another session that holds what the step needs; or what is there then, with the transactions that settled.
pub data Reply : Type 0 where
  Refuses : (why : Refusal) → Reply
  Busy : (session : ℕ) (what : Owned) → Reply
  Goes : (now : Interleaved) (settled : Settlings) → Reply

-- a transaction has settled, and the drain follows where no session is open
abbrev pub behind : List Open → Settled Histories Starts → Settlings
behind [] s = with_drain lists drain_limit s
behind others s = s ∷ []

abbrev pub goes_with : List Open → ListWorld → Settlings → Reply
goes_with sessions w settled = Goes (record { world = world_after w settled; sessions = sessions }) settled

abbrev pub replies_alone : ListWorld → Answer Step → Reply
replies_alone w (Err why) = Refuses why
replies_alone w (Ok step) = goes_with [] w step.1

-- where no other session holds what it needs
abbrev pub replies : Interleaved → ℕ → Trial → Reply
replies m n (Stays taken x) = goes_with (with_open (record { session = n; taken = taken; held = x.footprint }) (others_of n m.sessions)) m.world []
replies m n (Ends outcome) = goes_with (others_of n m.sessions) m.world (behind (others_of n m.sessions) (settle lists outcome))
replies m n (Turns why x) = Refuses why
replies m n (Alone answer) = replies_alone m.world answer
replies m n Rests = Goes m []

abbrev pub unless_held : Option Holder → Reply → Reply
unless_held (Some h) reply = Busy h.0 h.1
unless_held None reply = reply

abbrev pub in_place : Answer (Unit {0}) → Reply → Reply
in_place (Err why) reply = Refuses why
in_place (Ok u) reply = reply

-- what was tried comes to a reply
abbrev pub replies_to : Interleaved → ℕ → Bool → Trial → Reply
replies_to m n alone t = unless_held (holder alone (footprint_of t) (others_of n m.sessions)) (replies m n t)

-- a step of the session of a number
abbrev pub step : Language → Interleaved → ℕ → Statement → Reply
step l m n s =
    let own = session_of n m.sessions in
    in_place (place_of s (is_some own)) (replies_to m n (is_alone s) (tries l m own s))

-- ---- the end of the input

-- the abort of an open session
abbrev pub last_trial : Interleaved → Open → Trial
last_trial m o = Ends (Aborted End (view m.world (Some o)))

-- no other session holds what it needs
abbrev pub may_end : Interleaved → Open → Bool
may_end m o = not (is_some (holder false (footprint_of (last_trial m o)) (others_of o.session m.sessions)))

-- what it settles, with the drain behind the last one
abbrev pub settles_last : Interleaved → Open → Settlings
settles_last m o = behind (others_of o.session m.sessions) (settle lists (Aborted End (view m.world (Some o))))

abbrev pub without : Interleaved → Open → Settlings → Interleaved
without m o settled = record { world = world_after m.world settled; sessions = others_of o.session m.sessions }

-- the least session that may end, and then the next one; as often as there are sessions
abbrev pub ends_found : Interleaved → Option Open → (Interleaved → Settlings) → Settlings
ends_found m None rest = []
ends_found m (Some o) rest = settles_last m o ++ rest (without m o (settles_last m o))

abbrev pub finishes : List Open → Interleaved → Settlings
finishes [] m = []
finishes (o ∷ more) m = ends_found m (find (may_end m) m.sessions) (finishes more)

-- the end of the input: no session is open behind it
abbrev pub finish : Interleaved → Settlings
finish m = finishes m.sessions m
