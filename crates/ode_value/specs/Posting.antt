-- A point is posted: its firings are treated in their order, each by its mode. An object is touched.
use Rattle.std.specs.Prelude.{ℕ, ◌+◌, List, [], ◌∷◌, ◌++◌, length, Bool, true, false, cond, not, nat_lt, nat_le, ◌&&◌, ◌==◌, Option, Some, None}
use Rattle.std.specs.List.{filter, list_any}
use Rattle.ode_value.specs.declared.event.Kind.{Kind}
use Rattle.ode_value.specs.declared.event.Kind.TheVariants.{TBegin}
use Rattle.ode_value.specs.declared.event.Mode.{Mode}
use Rattle.ode_value.specs.declared.event.Mode.TheVariants.{Immediate, Deferred, Dependent, Independent}
use Rattle.ode_value.specs.declared.reason.Reason.TheVariants.{Depth, Cascade}
use Rattle.ode_value.specs.declared.statement.Stmt.{Stmt}
use Rattle.ode_value.specs.declared.value.Value.{Value}
use Rattle.ode_value.specs.Pasts.{Past}
use Rattle.ode_value.specs.Worlds.{Entry}
use Rattle.ode_value.specs.Acts.{Act, Deed, ◌>>=◌, ◌>>◌, needs, reads, sees, does, nothing, when, aborts, each, prints}
use Rattle.ode_value.specs.Changes.{key_count, changes, draws_none, activation_keys, object, lives}
use Rattle.ode_value.specs.Classes.{lists_kind}
use Rattle.ode_value.specs.Evaluation.{Frame}
use Rattle.ode_value.specs.Firings.{arises, both_lists}
use Rattle.ode_value.specs.Limits.{cascade_limit, change_limit, generation_limit, queue_limit, number_limit}
use Rattle.ode_value.specs.Texts.{fired_line, dropped_line}
use Rattle.ode_value.specs.Transactions.{Tx, Firing, Origin, Script, Queue, Clock, generation_of, touching, queueing}

-- how a body runs with a frame; it gives the value that it returns, if it returns one
abbrev pub Body : (O A : Type 0) → Type 0
Body O A = List Stmt → Frame → Act O A (Option Value)

-- an action's frame: its object, and the trigger's arguments
abbrev pub frame_of : Firing → Frame
frame_of f = record { this = record { object = f.object; version = None }; locals = f.args }

-- the entry of a firing, in this generation
abbrev pub entry_of : ℕ → Firing → Entry
entry_of generation f = record { object = f.object; class = f.trigger.class; trigger = f.trigger.place; generation = generation; args = f.args }

-- the line of a firing
abbrev pub fired_text : Firing → List ℕ
fired_text f = fired_line f.trigger.decl.name f.object

-- the line of one that is dropped
abbrev pub dropped_text : Firing → List ℕ
dropped_text f = dropped_line f.trigger.decl.name f.object

-- the queue without the entry that runs
abbrev pub waiting : Origin → List (ℕ × Entry) → List (ℕ × Entry)
waiting Script queue = queue
waiting (Queue number generation) queue = filter (λ (q : ℕ × Entry). not (q.0 == number)) queue
waiting (Clock position) queue = queue

module _ {O A : Type 0} where
  -- a body one level deeper, where there is such a level
  abbrev pub enters : Option (Body O A) → Body O A
  enters None body frame = aborts Depth
  enters (Some run) body frame = run body frame

  -- an immediate firing: its line, its object, the level, the action
  unfoldable pub runs : Option (Body O A) → Firing → Deed O A
  runs d f = do
    prints (fired_text f)
    lives f.object
    _ ← enters d f.trigger.decl.action (frame_of f)
    nothing

  -- with one more deferred firing, at the end of the list
  abbrev pub with_deferred : Firing → Tx O A → Tx O A
  with_deferred f x = record x { deferred = x.deferred ++ f ∷ [] }

  -- a deferred firing
  abbrev pub defers : Firing → Deed O A
  defers f = needs Cascade (λ x. nat_lt (length x.deferred) cascade_limit) >> does (with_deferred f)

  -- for a detached firing there are a generation, a key, a place in the queue and a number
  abbrev pub has_room : Tx O A → Bool
  has_room x =
      nat_le (generation_of x.origin + 1) generation_limit
      && nat_lt (key_count x) change_limit
      && nat_le (length (waiting x.origin x.first.bones.queue) + length x.collected + 1) queue_limit
      && nat_lt (x.first.bones.next_entry + length x.collected) number_limit

  -- with one more detached firing, in the next generation
  abbrev pub with_entry : Bool → Firing → Tx O A → Tx O A
  with_entry independent f x = record x {
    collected = x.collected ++ record { entry = entry_of (generation_of x.origin + 1) f; independent = independent } ∷ [];
    gathered = x.gathered + 1;
  }

  -- a detached firing is collected, or dropped with its line
  abbrev pub collects : (List ℕ → Deed O A) → Bool → Firing → Deed O A
  collects says independent f = do
    does queueing
    room ← reads has_room
    cond room (does (with_entry independent f)) (says (dropped_text f))

  -- a firing by a mode
  abbrev pub by_mode : Option (Body O A) → Firing → Mode → Deed O A
  by_mode d f Immediate = runs d f
  by_mode d f Deferred = defers f
  by_mode d f Dependent = collects prints false f
  by_mode d f Independent = collects prints true f

  -- a firing by its trigger's mode
  unfoldable pub treats : Option (Body O A) → Firing → Deed O A
  treats d f = by_mode d f f.trigger.decl.mode

  -- whether the class of an object lists a kind
  abbrev pub is_listed : ℕ → Kind → Act O A Bool
  is_listed id kind = do
    o ← object id
    sees (λ b. lists_kind b.classes o.class kind)

  -- whether an object was touched
  abbrev pub is_touched : ℕ → Tx O A → Bool
  is_touched id x = list_any (λ n. n == id) x.touched

  -- an object joins the touched ones, with the keys of its activations
  abbrev pub joins : ℕ → Deed O A
  joins id = do
    o ← object id
    changes (activation_keys o) 0 draws_none
    does (touching id)

module _ {O A : Type 0} (past : Past O A) where
  -- a point arises, and its firings are treated in order
  abbrev pub posts_listed : Option (Body O A) → ℕ → Kind → List Value → Deed O A
  posts_listed d id kind args = do
    firings ← arises past (both_lists past) id kind args
    each (treats d) firings

  -- a point is posted, where its kind is listed; its actions run at the level d
  unfoldable pub posts : Option (Body O A) → ℕ → Kind → List Value → Deed O A
  posts d id kind args = do
    listed ← is_listed id kind
    when listed (posts_listed d id kind args)

  -- the first touch of an object
  abbrev pub touches_first : Option (Body O A) → ℕ → Deed O A
  touches_first d id = do
    joins id
    posts d id TBegin []

  -- a touch of an object that is there
  unfoldable pub touches : Option (Body O A) → ℕ → Deed O A
  touches d id = do
    lives id
    touched ← reads (is_touched id)
    when (not touched) (touches_first d id)
