-- How an engine goes on in a run.
use Rattle.std.proofs.Common.{◌≡◌, ◌∙◌, ℕ, List, ◌++◌, Bool, Result, Ok, Some, None, ap, length, subst, sym}
use Rattle.ode_engine.specs.Serving.{StandsFor, output_of}
use Rattle.ode_engine.specs.declared.engine.Engine.{Engine}
use Rattle.ode_host.specs.Host.{LeavesOnly, Printed, Stands}
use Rattle.ode_host.specs.View.{View}
use Rattle.ode_keep.specs.Entries.{Entries}
use Rattle.ode_language.specs.Languages.{ode}
use Rattle.ode_machine.specs.Commands.{after}
use Rattle.ode_machine.specs.Moments.{IsAfterSome}
use Rattle.ode_machine.specs.Runs.{Item, opening, piece_stretch, pieces_items, text_of, trace}
use Rattle.ode_machine.specs.Sessions.{Session, closed}
use Rattle.ode_opened.specs.declared.opened.Opened.{Opened}
use Rattle.ode_script.specs.Cutting.{Pieces, Then, pieces}
use Rattle.ode_trace.proofs.EngineLaws.{started_stands}
use Rattle.ode_trace.proofs.HearingLaws.{heard_join, printed_heard}
use Rattle.ode_trace.proofs.MachineLaws.{pieces_then}
use Rattle.ode_trace.proofs.RunLaws.{goes_further, opened_so_far, same_next}
use Rattle.ode_trace.proofs.TallyLaws.{opened_counts}
use Rattle.ode_trace.specs.Hearing.{heard_items}
use Rattle.ode_trace.specs.Running.{Carries, Runs}
use Rattle.ode_ends.specs.Endings.{Begins}
use Rattle.ode_trace.specs.Tallies.{uncounted, with_settled}
use Rattle.ode_trace.specs.declared.tally.Tally.{Tally}
use Rattle.ode_transact.specs.Items.{texts_of}
use Rattle.ode_transact.specs.Output.{all_heard, counting}
use Rattle.ode_transact.specs.Resting.{HoldsBy}
use Rattle.ode_transact.specs.Settling.{Meaning}
use Rattle.ode_transact.specs.declared.error.EngineError.{EngineError}
use Rattle.ode_transact.specs.declared.output.Output.{Output}
use Rattle.ode_value.specs.Draining.{drain}
use Rattle.ode_value.specs.Language.{ListWorld, Settlings}
use Rattle.ode_value.specs.Limits.{drain_limit}
use Rattle.ode_value.specs.Pasts.{lists}

module _ {H K : Type 0} (seen : H → View) (held : K → View → Entries → Type 0) (live : K → Bool) (means : Meaning) (quiet : Bool) (whole : Pieces) (all : List Item) (w : ListWorld) (text0 : List ℕ) (ps : Pieces)
    (e : Engine K) (host : H) (tally : Tally) (runs : Runs seen held live quiet whole all w text0 ps e host tally) (line : ℕ) (piece : List ℕ) (rest : Pieces) (is : ps ≡ Then line piece rest) where
  abbrev items : List Item
  items = (piece_stretch ode runs.session line piece).1

  -- a piece is carried out
  pub runs_next : (e' : Engine K) (host' : H) (tally' : Tally) → e'.quiet ≡ e.quiet → Carries seen held live means runs.session (piece_stretch ode runs.session line piece) e tally (Ok tt) e' tally' host host'
      → Runs seen held live quiet whole all w text0 rest e' host' tally'
  runs_next e' host' tally' same carries = record {
    session = (piece_stretch ode runs.session line piece).0;
    text = runs.text ++ text_of (heard_items quiet items);
    volume = same ∙ runs.volume;
    serves = record {
      stands = carries.stands;
      printed = carries.printed runs.text runs.serves.printed ∙ ap (λ (q : Bool). Some (runs.text ++ text_of (heard_items q items))) runs.volume;
    };
    so_far = same_next quiet whole all w text0 ps runs.session runs.text tally e.counted runs.so_far line piece rest tally' e'.counted is (carries.counts runs.so_far.taken runs.so_far.before runs.so_far.counts);
  }

  -- and a stop in it is one of the whole, whatever it answers
  pub runs_leaves : (result : Result (Unit {0}) EngineError) (e' : Engine K) (host' : H) (tally' : Tally) (start : View)
      → Carries seen held live means runs.session (piece_stretch ode runs.session line piece) e tally result e' tally' host host'
      → LeavesOnly start (seen host) (IsAfterSome (HoldsBy ode means) (heard_items quiet all) w text0) → LeavesOnly start (seen host') (IsAfterSome (HoldsBy ode means) (heard_items quiet all) w text0)
  runs_leaves result e' host' tally' start carries first =
      let more : List Item = pieces_items ode rest (piece_stretch ode runs.session line piece).0 in
      let split : heard_items quiet (pieces_items ode ps runs.session) ≡ heard_items quiet items ++ heard_items quiet more =
      ap (λ (p : Pieces). heard_items quiet (pieces_items ode p runs.session)) is ∙ ap (heard_items quiet) (pieces_then ode line piece rest runs.session) ∙ heard_join quiet items more in
      goes_further quiet whole all w text0 ps runs.session runs.text tally e.counted runs.so_far (HoldsBy ode means) start (seen host) (seen host') first
      (subst (λ (l : List Item). LeavesOnly (seen host) (seen host') (IsAfterSome (HoldsBy ode means) l runs.session.world runs.text)) (sym split)
      (subst (λ (q : Bool). LeavesOnly (seen host) (seen host') (IsAfterSome (HoldsBy ode means) (heard_items q items ++ heard_items quiet more) runs.session.world runs.text)) runs.volume
      (carries.any_moment runs.text (heard_items quiet more) runs.serves.printed)))

-- ---- the opening

module _ {H K : Type 0} (seen : H → View) (held : K → View → Entries → Type 0) (live : K → Bool) (means : Meaning)
    (stands : (keeper : K) (host : H) (entries : Entries) → held keeper (seen host) entries → (file : List ℕ) × Stands file (seen host) × means file entries)
    (stays : (keeper : K) (old new : H) (entries : Entries) → held keeper (seen old) entries → ((file : List ℕ) → Stands file (seen old) → Stands file (seen new)) → held keeper (seen new) entries) where
  -- what the queue's entries come to in a world
  abbrev drained : ListWorld → Settlings
  drained w = drain lists drain_limit w

  -- an engine was started, and has run them
  pub runs_opened : (quiet : Bool) (w : ListWorld) (script text : List ℕ) (o : Opened K) (start e : Engine K) (old new : H) (fresh tally : Tally) (count : ℕ) → Begins seen held live w o old text
      → (start.rest ≡ Some o) × (start.running ≡ None) → (start.quiet ≡ quiet) × (start.counted ≡ 0) → e.quiet ≡ start.quiet → fresh ≡ uncounted → tally ≡ with_settled count fresh
      → ((session : Session) → StandsFor seen held live ode session start old → count ≡ length (drained session.world))
      → ((session : Session) → StandsFor seen held live ode session start old → StandsFor seen held live ode (after session.world (drained session.world)).0 e new)
      → ((session : Session) → StandsFor seen held live ode session start old → Printed (texts_of (all_heard start.quiet (drained session.world))) (seen old) (seen new))
      → ((session : Session) → StandsFor seen held live ode session start old → output_of e ≡ counting (output_of start) (texts_of (drained session.world)))
      → Runs seen held live quiet (pieces script) (trace ode w script) w text (pieces script) e new tally
  runs_opened quiet w script text o start e old new fresh tally count begins has output same none settled many goes_on printed counts =
      let here = started_stands seen held live means stands stays w o start old has begins.well begins.rests in
      record {
        session = (opening ode w).0;
        text = text ++ text_of (heard_items quiet (opening ode w).1);
        volume = same ∙ output.0;
        serves = record {
          stands = goes_on (closed w) here;
          printed = printed_heard {R = ℕ} (Ok count) start.quiet (drained w) (seen old) (seen new) (printed (closed w) here) text begins.printed
              ∙ ap (λ (q : Bool). Some (text ++ text_of (heard_items q (opening ode w).1))) output.0;
        };
        so_far = opened_so_far quiet w text script tally e.counted
            (opened_counts fresh tally start.counted e.counted count (drained w) none output.1 settled (many (closed w) here) (ap (λ (o : Output). o.counted) (counts (closed w) here)));
      }
