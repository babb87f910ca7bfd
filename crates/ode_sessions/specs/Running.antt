-- What a run of a script of sessions leaves: in sessions, at its end, and at a stop.
use Rattle.std.specs.Prelude.{◌≡◌, ℕ, List, ◌++◌, Bool, Option, Some, Result, IfOk, OnOk}
use Rattle.ode_begin.specs.Claims.{RunsBy}
use Rattle.ode_host.specs.Host.{LeavesOnly, Printed}
use Rattle.ode_host.specs.View.{View}
use Rattle.ode_host.specs.declared.status.Status.{Status}
use Rattle.ode_keep.specs.Entries.{Entries}
use Rattle.ode_language.specs.Languages.{ode}
use Rattle.ode_machine.specs.Conversation.{Stretch, pieces_items, trace}
use Rattle.ode_machine.specs.Interleaving.{Interleaved}
use Rattle.ode_machine.specs.Moments.{IsAfterSome}
use Rattle.ode_machine.specs.Runs.{Item, any_refused, final, text_of}
use Rattle.ode_script.specs.Cutting.{Pieces, ending_of}
use Rattle.ode_steps.specs.Serving.{StandsFor}
use Rattle.ode_sessions.specs.Speaking.{spoken}
use Rattle.ode_steps.specs.declared.sessions.Sessions.{Sessions}
use Rattle.ode_transact.specs.Errors.{OnDamaged}
use Rattle.ode_transact.specs.Resting.{HoldsBy}
use Rattle.ode_transact.specs.Settling.{Meaning}
use Rattle.ode_transact.specs.declared.error.EngineError.{EngineError}
use Rattle.ode_value.specs.Language.{ListWorld}

-- what a script of sessions comes to from a world
abbrev pub items_from : ListWorld → List ℕ → List Item
items_from w script = trace ode spoken w script

-- ---- how far it is

-- So far a run of these pieces, which come to these items, did those before, which left these sessions, and of which this text is printed;
-- what is left to do are the items of the pieces that are left.
pub record SpokenSoFar (whole : Pieces) (all : List Item) (w : ListWorld) (text0 : List ℕ) (ps : Pieces) (m : Interleaved) (text : List ℕ) (refused : Bool) : Type 0 where
  pub before : List Item
  pub split : all ≡ before ++ pieces_items ode spoken ps m
  pub ends : ending_of whole ≡ ending_of ps
  pub world : m.world ≡ final w before
  pub printed : text ≡ text0 ++ text_of before
  pub was : refused ≡ any_refused before

module _ {H K : Type 0} (seen : H → View) (held : K → View → Entries → Type 0) (live : K → Bool) where
  -- sessions stand for those of the machine, and this was printed
  pub record Speaks (m : Interleaved) (s : Sessions K) (host : H) (text : List ℕ) : Type 0 where
    pub stands : StandsFor seen held live ode m s host
    pub printed : (seen host).text ≡ Some text

  -- Sessions are so far in the run of these pieces that these are left.
  pub record SpeaksSoFar (whole : Pieces) (all : List Item) (w : ListWorld) (text0 : List ℕ) (ps : Pieces) (s : Sessions K) (host : H) (refused : Bool) : Type 0 where
    pub now : Interleaved
    pub text : List ℕ
    pub speaks : Speaks now s host text
    pub so_far : SpokenSoFar whole all w text0 ps now text refused

  -- One piece, which comes to this stretch, is carried out: its texts are printed, and whether it was refused or put off is said. No record
  -- is damaged then.
  pub record SpeaksPiece (means : Meaning) (m : Interleaved) (stretch : Stretch) (result : Result Bool EngineError) (s : Sessions K) (old new : H) : Type 0 where
    pub answers : IfOk result (λ was. was ≡ any_refused stretch.1)
    pub stands : OnOk result (StandsFor seen held live ode stretch.0 s new)
    pub printed : OnOk result (Printed (text_of stretch.1) (seen old) (seen new))
    pub any_moment : (said : List ℕ) (more : List Item) → (seen old).text ≡ Some said
        → LeavesOnly (seen old) (seen new) (IsAfterSome (HoldsBy ode means) (stretch.1 ++ more) m.world said)
    pub sound : OnDamaged result ⊥

-- ---- the claim

-- A run of sessions where the file holds a world.
abbrev pub MultiWorld : Option (List ℕ) → Option (List ℕ) → View → View → Status → Type 0
MultiWorld = RunsBy items_from
