-- How far a run of a script is, and what its calls of an engine leave.
use Rattle.std.specs.Prelude.{◌≡◌, ℕ, ◌+◌, List, ◌++◌, Bool, Some, Result, IfOk, OnOk}
use Rattle.ode_engine.specs.Serving.{IsAnswer, StandsFor, session_after, settlings}
use Rattle.ode_engine.specs.declared.engine.Done.{Done}
use Rattle.ode_engine.specs.declared.engine.Engine.{Engine}
use Rattle.ode_host.specs.Host.{LeavesOnly, Printed}
use Rattle.ode_host.specs.View.{View}
use Rattle.ode_keep.specs.Entries.{Entries}
use Rattle.ode_language.specs.Languages.{ode}
use Rattle.ode_machine.specs.Commands.{Step}
use Rattle.ode_machine.specs.Moments.{IsAfterSome}
use Rattle.ode_machine.specs.Runs.{Item, Stretch, final, pieces_items, text_of}
use Rattle.ode_machine.specs.Sessions.{Session}
use Rattle.ode_script.specs.Cutting.{Pieces, ending_of}
use Rattle.ode_trace.specs.Hearing.{heard_items}
use Rattle.ode_trace.specs.Tallies.{Counts, count_pieces}
use Rattle.ode_trace.specs.declared.tally.Tally.{Tally}
use Rattle.ode_transact.specs.Errors.{OnDamaged}
use Rattle.ode_transact.specs.Items.{items_of, texts_of}
use Rattle.ode_transact.specs.Output.{counted_on}
use Rattle.ode_transact.specs.Resting.{HoldsBy}
use Rattle.ode_transact.specs.Settling.{Meaning}
use Rattle.ode_transact.specs.declared.error.EngineError.{EngineError}
use Rattle.ode_value.specs.Answers.{Answer}
use Rattle.ode_value.specs.Language.{ListWorld}

-- ---- how far it is

-- So far a run of these pieces, which come to these items, did those before, which left this session, and of which this text is heard and
-- this was counted; what is left to do are the items of the pieces that are left.
pub record SoFar (quiet : Bool) (whole : Pieces) (all : List Item) (w : ListWorld) (text0 : List ℕ) (ps : Pieces) (session : Session) (text : List ℕ) (tally : Tally) (counted : ℕ) : Type 0 where
  pub before : List Item
  pub split : all ≡ before ++ pieces_items ode ps session
  pub ends : ending_of whole ≡ ending_of ps
  pub world : session.world ≡ final w before
  pub printed : text ≡ text0 ++ text_of (heard_items quiet before)
  pub taken : ℕ
  pub pieces : count_pieces whole ≡ taken + count_pieces ps
  pub counts : Counts tally counted taken before

module _ {H K : Type 0} (seen : H → View) (held : K → View → Entries → Type 0) (live : K → Bool) where
  -- an engine stands for a session, and this was printed
  pub record Serves (session : Session) (e : Engine K) (host : H) (text : List ℕ) : Type 0 where
    pub stands : StandsFor seen held live ode session e host
    pub printed : (seen host).text ≡ Some text

  -- An engine, as quiet as the run is to be, and a tally are so far in the run of these pieces that these are left.
  pub record Runs (quiet : Bool) (whole : Pieces) (all : List Item) (w : ListWorld) (text0 : List ℕ) (ps : Pieces) (e : Engine K) (host : H) (tally : Tally) : Type 0 where
    pub session : Session
    pub text : List ℕ
    pub volume : e.quiet ≡ quiet
    pub serves : Serves session e host text
    pub so_far : SoFar quiet whole all w text0 ps session text tally e.counted

  -- What a call of an engine came to from a session on that the machine gives this answer: what is heard of it is printed, and what was
  -- settled is counted. No record is damaged then.
  pub record Commands (means : Meaning) (session : Session) (answer : Answer Step) (start : Engine K) (result : Result Done EngineError) (e : Engine K) (old new : H) : Type 0 where
    pub answers : IfOk result (λ done. IsAnswer done answer)
    pub stands : OnOk result (StandsFor seen held live ode (session_after session answer) e new)
    pub printed : OnOk result (Printed (text_of (heard_items start.quiet (items_of (settlings answer)))) (seen old) (seen new))
    pub counts : OnOk result (e.counted ≡ counted_on start.counted (texts_of (settlings answer)))
    pub any_moment : (said : List ℕ) (more : List Item) → (seen old).text ≡ Some said
        → LeavesOnly (seen old) (seen new) (IsAfterSome (HoldsBy ode means) (heard_items start.quiet (items_of (settlings answer)) ++ more) session.world said)
    pub sound : OnDamaged result ⊥

  -- One piece, which comes to this stretch, is carried out: what is heard of it is printed, and all is counted. No record is damaged then.
  pub record Carries (means : Meaning) (session : Session) (stretch : Stretch) (start : Engine K) (was : Tally) (result : Result (Unit {0}) EngineError) (e : Engine K) (now : Tally) (old new : H) : Type 0 where
    pub stands : OnOk result (StandsFor seen held live ode stretch.0 e new)
    pub printed : OnOk result (Printed (text_of (heard_items start.quiet stretch.1)) (seen old) (seen new))
    pub counts : OnOk result ((taken : ℕ) (before : List Item) → Counts was start.counted taken before → Counts now e.counted (taken + 1) (before ++ stretch.1))
    pub any_moment : (said : List ℕ) (more : List Item) → (seen old).text ≡ Some said
        → LeavesOnly (seen old) (seen new) (IsAfterSome (HoldsBy ode means) (heard_items start.quiet stretch.1 ++ more) session.world said)
    pub sound : OnDamaged result ⊥
