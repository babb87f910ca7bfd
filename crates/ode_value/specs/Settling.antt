-- How a transaction settles.
use Rattle.std.specs.Prelude.{ℕ, ◌+◌, List, [], ◌++◌, map, length, Bool, true, Option, Some}
use Rattle.std.specs.List.{filter, enumerate_from}
use Rattle.ode_value.specs.declared.event.Kind.{Kind}
use Rattle.ode_value.specs.declared.event.Kind.TheVariants.{TCommit, TAbort}
use Rattle.ode_value.specs.declared.reason.Reason.{Reason}
use Rattle.ode_value.specs.Pasts.{Past}
use Rattle.ode_value.specs.Texts.{committed_line, aborted_line}
use Rattle.ode_value.specs.Worlds.{Entry, Position, Bones, World}
use Rattle.ode_value.specs.Acts.{Deed, Outcome, Done, Aborted, ◌>>=◌, ◌>>◌, does, when, each, with_line, reached}
use Rattle.ode_value.specs.Changes.{asks_live}
use Rattle.ode_value.specs.Completing.{completes}
use Rattle.ode_value.specs.Firings.{Place, both_lists, whole_list, arises}
use Rattle.ode_value.specs.Keeping.{kept_world, rewound_world}
use Rattle.ode_value.specs.Posting.{collects, is_listed, waiting}
use Rattle.ode_value.specs.Transactions.{Tx, Collected, Origin, Script, Queue, Clock, begun}

-- a settled transaction: the world after it, and all that it prints
abbrev pub Settled : (O A : Type 0) → Type 0
Settled O A = World O A × List ℕ

-- a collected firing is independent
abbrev pub is_independent : Collected → Bool
is_independent c = c.independent

-- its entry
abbrev pub entry_in : Collected → Entry
entry_in c = c.entry

-- the clock, moved where the transaction is the clock's own
abbrev pub clock_after : Origin → Option Position → Option Position
clock_after Script clock = clock
clock_after (Queue number generation) clock = clock
clock_after (Clock position) clock = Some position

module _ {O A : Type 0} where
  -- The transaction has taken its number. The collected entries stand behind the first world's queue, numbered from its next entry
  -- number on. The entry that ran is gone, and the clock has moved.
  abbrev pub settled_bones : Tx O A → Bones → Bones
  settled_bones x b = record b {
    transaction = x.first.bones.transaction + 1;
    queue = waiting x.origin x.first.bones.queue ++ enumerate_from x.first.bones.next_entry (map entry_in x.collected);
    next_entry = x.first.bones.next_entry + length x.collected;
    clock = clock_after x.origin x.first.bones.clock;
  }

  -- the world that it leaves, without what ended in its settling
  abbrev pub settled_world : Tx O A → World O A
  settled_world x = let w = kept_world x.now in record w { bones = settled_bones x w.bones }

  -- that world, and the text with its last line
  abbrev pub ends_with : List ℕ → Tx O A → Settled O A
  ends_with line x = (settled_world x, x.text ++ line)

  -- a line of the settling itself has no limit
  abbrev pub says : List ℕ → Deed O A
  says line = does (with_line line)

module _ {O A : Type 0} (past : Past O A) where
  -- a point of the settling: each firing goes to the queue, whatever its mode
  abbrev pub arises_last : Place O A → Kind → ℕ → Deed O A
  arises_last place kind id = do
    firings ← arises past place id kind []
    each (collects says true) firings

  -- it is posted where its kind is listed
  abbrev pub posts_last_listed : Place O A → Kind → ℕ → Deed O A
  posts_last_listed place kind id = do
    listed ← is_listed id kind
    when listed (arises_last place kind id)

  -- and where its object is there
  unfoldable pub posts_last : Place O A → Kind → ℕ → Deed O A
  posts_last place kind id = do
    live ← asks_live id
    when live (posts_last_listed place kind id)

  -- behind such points for the touched objects, in the order of touching
  unfoldable pub posted : Place O A → Kind → Tx O A → Tx O A
  posted place kind x = reached (each (posts_last place kind) x.touched x)

  -- settled behind such points for the touched objects, in the order of touching
  abbrev pub settled : Place O A → Kind → List ℕ → Tx O A → Settled O A
  settled place kind line x = ends_with line (posted place kind x)

  -- with the world that a commit keeps
  abbrev pub committed : Tx O A → Tx O A
  committed x = record x { now = kept_world x.now }

  -- commit
  abbrev pub commit : Tx O A → Settled O A
  commit x = settled (both_lists past) TCommit (committed_line x.first.bones.transaction) (committed x)

  -- with the world that an abort keeps, and of the collected firings the independent ones
  abbrev pub aborted : Tx O A → Tx O A
  aborted x = record x { now = rewound_world past x.first x.now; collected = filter is_independent x.collected }

  -- abort
  abbrev pub abort : Reason → Tx O A → Settled O A
  abort reason x = settled (whole_list past) TAbort (aborted_line x.first.bones.transaction reason) (aborted x)

  -- behind the last points, as its work ended
  abbrev pub ended : Outcome O A (Unit {0}) → Tx O A
  ended (Done answer x) = posted (both_lists past) TCommit (committed x)
  ended (Aborted reason x) = posted (whole_list past) TAbort (aborted x)

  -- as its work ended
  abbrev pub settle : Outcome O A (Unit {0}) → Settled O A
  settle (Done answer x) = commit x
  settle (Aborted reason x) = abort reason x

  -- a whole transaction: its work, its completion and its settling
  unfoldable pub transaction : Origin → Deed O A → World O A → Settled O A
  transaction origin work w = settle ((work >> completes past) (begun origin w))
