-- What a run of a script does whose pieces belong to sessions.
use Rattle.std.specs.Prelude.{ℕ, List, [], ◌∷◌, ◌++◌, codes, map}
use Rattle.ode_machine.specs.declared.owned.Owned.{Owned}
use Rattle.ode_machine.specs.declared.owned.Owned.TheVariants as on
use Rattle.ode_machine.specs.Commands.{after}
use Rattle.ode_machine.specs.Interleaving.{Interleaved, Reply, Refuses as refuses, Busy, Goes, finish, step}
use Rattle.ode_machine.specs.Runs.{Item, Refuses, item_of}
use Rattle.ode_script.specs.Cutting.{Ending, End, Pieces, Then, Ended, pieces}
use Rattle.ode_value.specs.Decimal.{digits_of}
use Rattle.ode_value.specs.Draining.{drain, world_after}
use Rattle.ode_value.specs.Language.{Language, ListWorld, Settlings}
use Rattle.ode_value.specs.Limits.{drain_limit}
use Rattle.ode_value.specs.Pasts.{lists}
use Rattle.ode_value.specs.Texts.{line, refused_line}
use Rattle.ode_value.specs.declared.reason.Refusal.{Refusal}
use Rattle.ode_value.specs.declared.statement.Statement.{Statement}

-- How a piece is read: a statement of the session of a number; or it names no session; or the first refusal of its bytes.
pub data Spoken : Type 0 where
  Says : (session : ℕ) (s : Statement) → Spoken
  NoSession : Spoken
  Unread : (why : Refusal) → Spoken

-- ---- the lines

-- what is held: `#1`, `numbers`, `queue` or `all`
abbrev pub owned_text : Owned → List ℕ
owned_text (on.Object id) = codes "#" ++ digits_of id
owned_text on.Numbers = codes "numbers"
owned_text on.Queue = codes "queue"
owned_text on.All = codes "all"

-- `busy 5 session 1 on #1`
abbrev pub busy_line : ℕ → ℕ → Owned → List ℕ
busy_line at session what = line (codes "busy " ++ digits_of at ++ codes " session " ++ digits_of session ++ codes " on " ++ owned_text what)

-- `refused 5 no session`
abbrev pub no_session_line : ℕ → List ℕ
no_session_line at = line (codes "refused " ++ digits_of at ++ codes " no session")

-- ---- stretches

-- what is there behind a stretch of a run, and its items; a step that another session's holdings forbid is one more refusal
abbrev pub Stretch : Type 0
Stretch = Interleaved × List Item

abbrev pub reply_stretch : Interleaved → ℕ → Reply → Stretch
reply_stretch m at (refuses why) = (m, Refuses (refused_line at why) ∷ [])
reply_stretch m at (Busy session what) = (m, Refuses (busy_line at session what) ∷ [])
reply_stretch m at (Goes now settled) = (now, map item_of settled)

abbrev pub resting : ListWorld → Interleaved
resting w = record { world = w; sessions = [] }

-- that of the opening: the drain
abbrev pub opening : ListWorld → Stretch
opening w = let settled = drain lists drain_limit w in (resting (world_after w settled), map item_of settled)

module _ (l : Language) (speaks : List ℕ → Spoken) where
  abbrev pub spoken_stretch : Interleaved → ℕ → Spoken → Stretch
  spoken_stretch m at (Says n s) = reply_stretch m at (step l m n s)
  spoken_stretch m at NoSession = (m, Refuses (no_session_line at) ∷ [])
  spoken_stretch m at (Unread why) = (m, Refuses (refused_line at why) ∷ [])

  -- the items at the end of input
  abbrev pub ending_items : Interleaved → Ending → List Item
  ending_items m End = map item_of (finish m)
  ending_items m _ = []

  -- a stretch, and the items of the rest
  abbrev pub followed_by : Stretch → (Interleaved → List Item) → List Item
  followed_by stretch rest = stretch.1 ++ rest stretch.0

  -- the items of the pieces and of the ending
  unfoldable pub pieces_items : Pieces → Interleaved → List Item
  pieces_items (Ended ending) m = ending_items m ending
  pieces_items (Then at text rest) m = followed_by (spoken_stretch m at (speaks text)) (pieces_items rest)

  -- a run of a script of sessions from a world
  abbrev pub trace : ListWorld → List ℕ → List Item
  trace w script = followed_by (opening w) (pieces_items (pieces script))
