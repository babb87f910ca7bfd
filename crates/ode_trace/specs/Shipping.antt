-- What a run ships: the frames of what it settles.
use Rattle.std.specs.Prelude.{◌≡◌, ◌≤◌, ℕ, List, ◌++◌, Bool, false, true, Option, Some, Result, OnOk, length, take}
use Rattle.std.specs.List.{AllByRecursion, flat_map}
use Rattle.ode_engine.specs.Serving.{StandsFor}
use Rattle.ode_engine.specs.declared.engine.Done.{Done}
use Rattle.ode_engine.specs.declared.engine.Done.TheVariants as done
use Rattle.ode_engine.specs.declared.engine.Engine.{Engine}
use Rattle.ode_host.specs.Host.{LeavesCut, LeavesOnly, Printed}
use Rattle.ode_host.specs.View.{View}
use Rattle.ode_host.specs.declared.status.Status.{Status}
use Rattle.ode_keep.specs.Entries.{Entries}
use Rattle.ode_language.specs.Languages.{ode}
use Rattle.ode_machine.specs.Runs.{Item, any_refused, final, pieces_items, status_at, world_at}
use Rattle.ode_machine.specs.Sessions.{Session}
use Rattle.ode_run_laws.specs.Settled.{settled_of}
use Rattle.ode_script.specs.Cutting.{Ending, Pieces, ending_of}
use Rattle.ode_ship.specs.Frames.{FitsFrame, frame_bytes}
use Rattle.ode_ends.specs.Endings.{LeavesNothing}
use Rattle.ode_transact.specs.Errors.{OnDamaged}
use Rattle.ode_transact.specs.Items.{items_of}
use Rattle.ode_transact.specs.Logging.{AreKept, DiskHas, Kept, behind}
use Rattle.ode_transact.specs.Resting.{HoldsBy}
use Rattle.ode_transact.specs.Settling.{Meaning}
use Rattle.ode_transact.specs.declared.error.EngineError.{EngineError}
use Rattle.ode_value.specs.Language.{ListWorld, Settlings}

-- ---- a whole run

-- the frames of what was kept, one behind the other
abbrev pub shipped : List Kept → List ℕ
shipped kept = flat_map frame_bytes kept

-- What settled from this world on, over records that the disk stood for, was shipped: one frame was printed for each transaction, with its
-- number, which fits; the changes of the frames leave the machine's worlds one behind the other, and the disk stands for the records behind
-- all of them.
pub record HasShipped (means : Meaning) (w : ListWorld) (entries : Entries) (settled : Settlings) (old new : View) : Type 0 where
  pub frames : List Kept
  pub kept : AreKept ode w entries settled frames
  pub fit : AllByRecursion FitsFrame frames
  pub disk : DiskHas means (behind entries frames) new
  pub printed : Printed (shipped frames) old new

-- A run of these items and this ending, over records of this world and behind this text, has ended.
pub record ShippedAs (means : Meaning) (items : List Item) (ending : Ending) (w : ListWorld) (entries : Entries) (text : List ℕ) (left : Option (List ℕ)) (view : View) (status : Status) : Type 0 where
  pub stated : status ≡ status_at ending (any_refused items)
  -- what was printed are whole frames, one for each settled transaction, with its number; the records behind each hold the world behind it
  pub frames : List Kept
  pub kept : AreKept ode w entries (settled_of items) frames
  pub fit : AllByRecursion FitsFrame frames
  pub printed : view.text ≡ Some (text ++ shipped frames)
  -- the disk stands for the records behind all of them
  pub disk : DiskHas means (behind entries frames) view
  pub nothing : LeavesNothing status left

-- The file is as it is. Some of these, from the first on, were made into frames, which fit, and a front of their frames is printed behind the
-- text.
pub record LeavesFrames (file text : List ℕ) (kept : List Kept) (image out : List ℕ) : Type 0 where
  pub made : List Kept
  pub rest : List Kept
  pub split : kept ≡ made ++ rest
  pub fit : AllByRecursion FitsFrame made
  pub cut : LeavesCut file text (shipped made) image out

-- It is at one of its moments: the image holds the world after some of the settled transactions, and what is printed is a front of the
-- frames of these, which are given as far as it comes, and fit.
pub record IsShippedSoFar (means : Meaning) (items : List Item) (w : ListWorld) (entries : Entries) (text image out : List ℕ) : Type 0 where
  pub settled : ℕ
  pub held : HoldsBy ode means image (world_at settled w items)
  pub frames : List Kept
  pub few : length frames ≤ settled
  pub kept : AreKept ode w entries (take (length frames) (settled_of items)) frames
  pub fit : AllByRecursion FitsFrame frames
  pub front : List ℕ
  pub rest : List ℕ
  pub is_front : shipped frames ≡ front ++ rest
  pub printed : out ≡ text ++ front

-- ---- how far it is

-- whether a piece was refused
abbrev pub is_refused : Done → Bool
is_refused (done.Settled count) = false
is_refused (done.Refused why) = true

module _ {H K : Type 0} (seen : H → View) (held : K → View → Entries → Type 0) (live : K → Bool) where
  -- What a call came to from this session on, of which the machine settles these and leaves that one: they were shipped. No record is
  -- damaged then.
  pub record Ships {R : Type 0} (means : Meaning) (session next : Session) (settled : Settlings) (entries : Entries) (result : Result R EngineError) (e : Engine K) (old new : H) : Type 0 where
    pub stands : OnOk result (StandsFor seen held live ode next e new)
    pub has : OnOk result (HasShipped means session.world entries settled (seen old) (seen new))
    pub any_moment : (said : List ℕ) (more : List Item) → (seen old).text ≡ Some said
        → LeavesOnly (seen old) (seen new) (IsShippedSoFar means (items_of settled ++ more) session.world entries said)
    pub sound : OnDamaged result ⊥

  -- So far a run of these pieces, which come to these items, did those before, over records of this world and behind this text: the engine
  -- stands for the session that they left, and what they settle was shipped; what is left to do are the items of the pieces that are left.
  pub record ShipsOn (means : Meaning) (whole : Pieces) (all : List Item) (w : ListWorld) (entries : Entries) (text : List ℕ) (ps : Pieces) (refused : Bool) (e : Engine K) (host : H) : Type 0 where
    pub session : Session
    pub stands : StandsFor seen held live ode session e host
    pub before : List Item
    pub split : all ≡ before ++ pieces_items ode ps session
    pub ends : ending_of whole ≡ ending_of ps
    pub world : session.world ≡ final w before
    pub turned : refused ≡ any_refused before
    pub frames : List Kept
    pub kept : AreKept ode w entries (settled_of before) frames
    pub fit : AllByRecursion FitsFrame frames
    pub disk : DiskHas means (behind entries frames) (seen host)
    pub printed : (seen host).text ≡ Some (text ++ shipped frames)
