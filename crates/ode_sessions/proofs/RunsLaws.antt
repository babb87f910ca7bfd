-- How sessions go on in a run.
use Rattle.std.proofs.Common.{◌≡◌, ◌∙◌, ◌||◌, ℕ, List, [], ◌++◌, Bool, false, Result, Ok, Some, ap, subst, sym}
use Rattle.ode_host.specs.Host.{LeavesOnly, Printed, Stands}
use Rattle.ode_host.specs.View.{View}
use Rattle.ode_interleaved_laws.proofs.GoingLaws.{none_open}
use Rattle.ode_interleaved_laws.specs.Meeting.{IsInterleaved}
use Rattle.ode_keep.specs.Entries.{Entries}
use Rattle.ode_language.specs.Languages.{ode}
use Rattle.ode_machine.specs.Conversation.{Stretch, opening, pieces_items, resting, spoken_stretch}
use Rattle.ode_machine.specs.Interleaving.{Interleaved}
use Rattle.ode_machine.specs.Moments.{IsAfterSome}
use Rattle.ode_machine.specs.Runs.{Item, text_of}
use Rattle.ode_opened.specs.declared.opened.Opened.{Opened}
use Rattle.ode_script.specs.Cutting.{Pieces, Then, pieces}
use Rattle.ode_sessions.proofs.RunLaws.{goes_further, opened_so_far, pieces_then, same_next}
use Rattle.ode_sessions.proofs.SessionLaws.{started_stands}
use Rattle.ode_sessions.specs.Running.{SpeaksPiece, SpeaksSoFar, items_from}
use Rattle.ode_sessions.specs.Speaking.{spoken}
use Rattle.ode_steps.specs.Serving.{StandsFor, closed_behind}
use Rattle.ode_steps.specs.declared.sessions.Sessions.{Sessions}
use Rattle.ode_ends.proofs.ItemLaws.{texts_are}
use Rattle.ode_ends.specs.Endings.{Begins}
use Rattle.ode_transact.specs.Items.{texts_of}
use Rattle.ode_transact.specs.Resting.{HoldsBy}
use Rattle.ode_transact.specs.Settling.{Meaning}
use Rattle.ode_transact.specs.declared.error.EngineError.{EngineError}
use Rattle.ode_value.specs.Draining.{drain}
use Rattle.ode_value.specs.Language.{ListWorld, Settlings}
use Rattle.ode_value.specs.Limits.{drain_limit}
use Rattle.ode_value.specs.Pasts.{lists}

module _ {H K : Type 0} (seen : H → View) (held : K → View → Entries → Type 0) (live : K → Bool) (means : Meaning) (whole : Pieces) (all : List Item) (w : ListWorld) (text0 : List ℕ) (ps : Pieces)
    (s : Sessions K) (host : H) (refused : Bool) (runs : SpeaksSoFar seen held live whole all w text0 ps s host refused) (at : ℕ) (piece : List ℕ) (rest : Pieces) (is : ps ≡ Then at piece rest) where
  abbrev stretch : Stretch
  stretch = spoken_stretch ode spoken runs.now at (spoken piece)

  -- a piece is carried out
  pub runs_next : IsInterleaved ode runs.now → (was : Bool) (s' : Sessions K) (host' : H) → SpeaksPiece seen held live means runs.now (spoken_stretch ode spoken runs.now at (spoken piece)) (Ok was) s' host host'
      → SpeaksSoFar seen held live whole all w text0 rest s' host' (refused || was)
  runs_next good was s' host' carries = record {
    now = stretch.0;
    text = runs.text ++ text_of stretch.1;
    speaks = record { stands = carries.stands; printed = carries.printed runs.text runs.speaks.printed };
    so_far = same_next whole all w text0 ps runs.now runs.text refused runs.so_far good at piece rest was is carries.answers;
  }

  -- and a stop in it is one of the whole, whatever it answers
  pub runs_leaves : (result : Result Bool EngineError) (s' : Sessions K) (host' : H) (start : View) → SpeaksPiece seen held live means runs.now (spoken_stretch ode spoken runs.now at (spoken piece)) result s' host host'
      → LeavesOnly start (seen host) (IsAfterSome (HoldsBy ode means) all w text0) → LeavesOnly start (seen host') (IsAfterSome (HoldsBy ode means) all w text0)
  runs_leaves result s' host' start carries first =
      let more : List Item = pieces_items ode spoken rest stretch.0 in
      let split : pieces_items ode spoken ps runs.now ≡ stretch.1 ++ more = ap (λ (p : Pieces). pieces_items ode spoken p runs.now) is ∙ pieces_then at piece rest runs.now in
      goes_further whole all w text0 ps runs.now runs.text refused runs.so_far (HoldsBy ode means) start (seen host) (seen host') first
      (subst (λ (l : List Item). LeavesOnly (seen host) (seen host') (IsAfterSome (HoldsBy ode means) l runs.now.world runs.text)) (sym split) (carries.any_moment runs.text more runs.speaks.printed))

-- ---- the opening

module _ {H K : Type 0} (seen : H → View) (held : K → View → Entries → Type 0) (live : K → Bool) (means : Meaning)
    (stands : (keeper : K) (host : H) (entries : Entries) → held keeper (seen host) entries → (file : List ℕ) × Stands file (seen host) × means file entries)
    (stays : (keeper : K) (old new : H) (entries : Entries) → held keeper (seen old) entries → ((file : List ℕ) → Stands file (seen old) → Stands file (seen new)) → held keeper (seen new) entries) where
  -- what the queue's entries come to in a world
  abbrev drained : ListWorld → Settlings
  drained w = drain lists drain_limit w

  -- sessions were started, and they have run
  pub runs_opened : (w : ListWorld) (script text : List ℕ) (o : Opened K) (start s : Sessions K) (old new : H) → Begins seen held live w o old text → StandsFor seen held live ode (resting w) start old
      → ((m : Interleaved) → StandsFor seen held live ode m start old → StandsFor seen held live ode (closed_behind m (drained m.world)) s new)
      → ((m : Interleaved) → StandsFor seen held live ode m start old → Printed (texts_of (drained m.world)) (seen old) (seen new))
      → SpeaksSoFar seen held live (pieces script) (items_from w script) w text (pieces script) s new false
  runs_opened w script text o start s old new begins here goes_on printed = record {
    now = (opening w).0;
    text = text ++ text_of (opening w).1;
    speaks = record {
      stands = goes_on (resting w) here;
      printed = subst (λ (t : List ℕ). (seen new).text ≡ Some (text ++ t)) (texts_are (drained w)) (printed (resting w) here text begins.printed);
    };
    so_far = opened_so_far w text script;
  }

  -- at the start none is open
  pub begun_stands : (w : ListWorld) (o : Opened K) (start : Sessions K) (host : H) (text : List ℕ) → Begins seen held live w o host text → start.rest ≡ Some o → start.sessions ≡ [] → StandsFor seen held live ode (resting w) start host
  begun_stands w o start host text begins rest none = started_stands seen held live means stands stays w o start host rest none (none_open w begins.well) begins.rests
