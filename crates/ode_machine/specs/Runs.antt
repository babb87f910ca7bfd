-- What a run of a script does.
use Rattle.std.specs.Prelude.{ℕ, zero, suc, List, [], ◌∷◌, ◌++◌, map, Bool, true, false, cond, Ok, Err}
use Rattle.ode_host.specs.declared.status.Status.{Status}
use Rattle.ode_host.specs.declared.status.Status.TheVariants as status
use Rattle.ode_value.specs.Objects.{Histories, Starts}
use Rattle.ode_value.specs.Pasts.{lists}
use Rattle.ode_value.specs.Texts.{refused_line}
use Rattle.ode_machine.specs.Commands.{Step, after, command, finish}
use Rattle.ode_script.specs.Cutting.{Ending, End, LongStatement, LongScript, Pieces, Then, Ended, pieces, ending_of}
use Rattle.ode_value.specs.Draining.{drain}
use Rattle.ode_value.specs.Limits.{drain_limit}
use Rattle.ode_value.specs.Language.{ListWorld, Language}
use Rattle.ode_machine.specs.Sessions.{Session}
use Rattle.ode_value.specs.Answers.{Answer}
use Rattle.ode_value.specs.Settling.{Settled}

-- a settled transaction with its text, or a refusal's line
pub data Item : Type 0 where
  Settles : (world : ListWorld) (text : List ℕ) → Item
  Refuses : (line : List ℕ) → Item

-- the item of a settled transaction
abbrev pub item_of : Settled Histories Starts → Item
item_of s = Settles s.0 s.1

-- a stretch of a run: the session behind it, and its items
abbrev pub Stretch : Type 0
Stretch = Session × List Item

-- that of a step
abbrev pub stretch_of : Step → Stretch
stretch_of s = (s.0, map item_of s.1)

-- that of an answer; a refusal leaves the session as it is
abbrev pub answered : Session → ℕ → Answer Step → Stretch
answered session line (Ok step) = stretch_of step
answered session line (Err refusal) = (session, Refuses (refused_line line refusal) ∷ [])

module _ (l : Language) where
  -- that of a piece
  abbrev pub piece_stretch : Session → ℕ → List ℕ → Stretch
  piece_stretch session line text = answered session line (command l session text)

  -- the items at the end of input
  abbrev pub ending_items : Session → Ending → List Item
  ending_items session End = (stretch_of (finish session)).1
  ending_items session _ = []

  -- a stretch, and the items of the rest
  abbrev pub followed_by : Stretch → (Session → List Item) → List Item
  followed_by stretch rest = stretch.1 ++ rest stretch.0

  -- the items of the pieces and of the ending, from a session on
  unfoldable pub pieces_items : Pieces → Session → List Item
  pieces_items (Ended ending) session = ending_items session ending
  pieces_items (Then line text rest) session = followed_by (piece_stretch session line text) (pieces_items rest)

  -- that of the opening: the drain
  abbrev pub opening : ListWorld → Stretch
  opening w = stretch_of (after w (drain lists drain_limit w))

  -- a run of a script from a world
  abbrev pub trace : ListWorld → List ℕ → List Item
  trace w script = followed_by (opening w) (pieces_items (pieces script))

-- the world after so many settled transactions
abbrev pub world_at : ℕ → ListWorld → List Item → ListWorld
world_at k w [] = w
world_at k w (Refuses line ∷ items) = world_at k w items
world_at zero w (Settles world text ∷ items) = w
world_at (suc k) w (Settles world text ∷ items) = world_at k world items

-- all that is printed before the next one
abbrev pub text_until : ℕ → List Item → List ℕ
text_until k [] = []
text_until k (Refuses line ∷ items) = line ++ text_until k items
text_until zero (Settles world text ∷ items) = []
text_until (suc k) (Settles world text ∷ items) = text ++ text_until k items

-- all that is printed
abbrev pub text_of : List Item → List ℕ
text_of [] = []
text_of (Refuses line ∷ items) = line ++ text_of items
text_of (Settles world text ∷ items) = text ++ text_of items

-- the last world
abbrev pub final : ListWorld → List Item → ListWorld
final w [] = w
final w (Refuses line ∷ items) = final w items
final w (Settles world text ∷ items) = final world items

-- the worlds of all settled transactions
abbrev pub worlds : List Item → List ListWorld
worlds [] = []
worlds (Refuses line ∷ items) = worlds items
worlds (Settles world text ∷ items) = world ∷ worlds items

-- some piece was refused
abbrev pub any_refused : List Item → Bool
any_refused [] = false
any_refused (Refuses line ∷ items) = true
any_refused (Settles world text ∷ items) = any_refused items

-- the status at an ending
abbrev pub status_at : Ending → Bool → Status
status_at End refused = cond refused status.Refused status.Ok
status_at LongStatement refused = status.LongStatement
status_at LongScript refused = status.LongScript

module _ (l : Language) (w : ListWorld) (script : List ℕ) where
  -- the text of a whole run
  abbrev pub run_text : List ℕ
  run_text = text_of (trace l w script)

  -- the world that it leaves
  abbrev pub run_world : ListWorld
  run_world = final w (trace l w script)

  -- its status
  abbrev pub run_status : Status
  run_status = status_at (ending_of (pieces script)) (any_refused (trace l w script))
