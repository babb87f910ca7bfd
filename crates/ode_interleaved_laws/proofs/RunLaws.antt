-- What a run of sessions settles is what whole transactions do, one after another.
use Rattle.std.proofs.Common.{◌≡◌, ℕ, List, [], ◌∷◌, ◌++◌, map, refl, sym, ap, ◌∙◌}
use Rattle.ode_language.specs.Texts.{HasText}
use Rattle.ode_good_laws.specs.Well.{IsWell}
use Rattle.ode_interleaved_laws.proofs.ComingLaws.{drained_well}
use Rattle.ode_interleaved_laws.proofs.FinishLaws.{finish_serial, serial_both}
use Rattle.ode_interleaved_laws.proofs.GoingLaws.{none_open}
use Rattle.ode_interleaved_laws.proofs.SerialLaws.{is_serial, world_goes}
use Rattle.ode_interleaved_laws.proofs.StepLaws.{stays_apart}
use Rattle.ode_interleaved_laws.specs.Meeting.{IsInterleaved}
use Rattle.ode_interleaved_laws.specs.Serial.{runs_serially, serial_of, serial_pieces, serial_reply, serial_run, serial_spoken}
use Rattle.ode_run_laws.specs.Settled.{settled_of}
use Rattle.ode_language.specs.Languages.{ode}
use Rattle.ode_machine.specs.Conversation.{NoSession, Says, Spoken, Unread, opening, pieces_items, reply_stretch, spoken_stretch, trace}
use Rattle.ode_machine.specs.Interleaving.{Busy, Goes, Interleaved, Refuses as refuses, Reply, finish, step}
use Rattle.ode_machine.specs.Runs.{Item, Refuses, Settles, item_of}
use Rattle.ode_script.specs.Cutting as cutting
use Rattle.ode_script.specs.Cutting.{Ended, Pieces, Then, pieces}
use Rattle.ode_value.specs.declared.statement.Statement.{Statement}
use Rattle.ode_value.specs.Draining.{drain, world_after}
use Rattle.ode_value.specs.Language.{ListWorld, Settlings}
use Rattle.ode_value.specs.Limits.{drain_limit}
use Rattle.ode_value.specs.Pasts.{lists}

settled_items : (settled : Settlings) → settled_of (map item_of settled) ≡ settled
settled_items [] = refl
settled_items (s ∷ settled) = ap (λ more. s ∷ more) (settled_items settled)

settled_both : (a b : List Item) → settled_of (a ++ b) ≡ settled_of a ++ settled_of b
settled_both [] b = refl
settled_both (Refuses line ∷ a) b = settled_both a b
settled_both (Settles world text ∷ a) b = ap (λ more. (world, text) ∷ more) (settled_both a b)

settled_front : (settled : Settlings) (items : List Item) → settled_of (map item_of settled ++ items) ≡ settled ++ settled_of items
settled_front settled items = settled_both (map item_of settled) items ∙ ap (λ s. s ++ settled_of items) (settled_items settled)

module _ (speaks : List ℕ → Spoken) (reads : (text : List ℕ) (n : ℕ) (s : Statement) → speaks text ≡ Says n s → HasText ode s) where
  abbrev IsSerial : Pieces → Interleaved → Type 0
  IsSerial ps m = settled_of (pieces_items ode speaks ps m) ≡ runs_serially ode m.world (serial_pieces ode speaks ps m)

  ending_serial : (m : Interleaved) → IsInterleaved ode m → (ending : cutting.Ending) → IsSerial (Ended ending) m
  unfolding pieces_items serial_pieces
  ending_serial m is cutting.End = settled_items (finish m) ∙ finish_serial m.sessions m is
  ending_serial m is cutting.LongStatement = refl
  ending_serial m is cutting.LongScript = refl

  -- a step, and what comes behind it
  goes_serial : (m : Interleaved) → IsInterleaved ode m → (n : ℕ) (s : Statement) → HasText ode s → (rest : Pieces) → ((k : Interleaved) → IsInterleaved ode k → IsSerial rest k)
      → (now : Interleaved) (settled : Settlings) → step ode m n s ≡ Goes now settled
      → settled_of (map item_of settled ++ pieces_items ode speaks rest now) ≡ runs_serially ode m.world (serial_reply ode speaks m n s (Goes now settled) ++ serial_pieces ode speaks rest now)
  goes_serial m is n s text rest later now [] e =
      later now (stays_apart m is n s now [] text e) ∙ ap (λ w. runs_serially ode w (serial_pieces ode speaks rest now)) (world_goes m is n s now [] e)
  goes_serial m is n s text rest later now (first ∷ settled) e =
      let serial = is_serial m is n s now first settled e in
      settled_front (first ∷ settled) (pieces_items ode speaks rest now)
      ∙ ap (λ more. (first ∷ settled) ++ more) (later now (stays_apart m is n s now (first ∷ settled) text e))
      ∙ ap (λ w. (first ∷ settled) ++ runs_serially ode w (serial_pieces ode speaks rest now)) serial.1
      ∙ ap (λ (t : Settlings). t ++ runs_serially ode (world_after m.world t) (serial_pieces ode speaks rest now)) serial.0
      ∙ sym (serial_both m.world (serial_of ode m n s) (serial_pieces ode speaks rest now))

  pieces_serial : (ps : Pieces) (m : Interleaved) → IsInterleaved ode m → IsSerial ps m
  unfolding pieces_items serial_pieces
  pieces_serial (Ended ending) m is = ending_serial m is ending
  pieces_serial (Then at text rest) m is = by_spoken (speaks text) refl (pieces_serial rest) where
    by_reply : (n : ℕ) (s : Statement) → HasText ode s → (r : Reply) → step ode m n s ≡ r → ((k : Interleaved) → IsInterleaved ode k → IsSerial rest k)
        → settled_of ((reply_stretch m at r).1 ++ pieces_items ode speaks rest (reply_stretch m at r).0)
        ≡ runs_serially ode m.world (serial_reply ode speaks m n s r ++ serial_pieces ode speaks rest (reply_stretch m at r).0)
    by_reply n s has (refuses why) e later = later m is
    by_reply n s has (Busy session what) e later = later m is
    by_reply n s has (Goes now settled) e later = goes_serial m is n s has rest later now settled e

    by_spoken : (a : Spoken) → speaks text ≡ a → ((k : Interleaved) → IsInterleaved ode k → IsSerial rest k)
        → settled_of ((spoken_stretch ode speaks m at a).1 ++ pieces_items ode speaks rest (spoken_stretch ode speaks m at a).0)
        ≡ runs_serially ode m.world (serial_spoken ode speaks m a ++ serial_pieces ode speaks rest (spoken_stretch ode speaks m at a).0)
    by_spoken (Says n s) e later = by_reply n s (reads text n s e) (step ode m n s) refl later
    by_spoken NoSession e later = later m is
    by_spoken (Unread why) e later = later m is

  pub run_serial : (w : ListWorld) → IsWell ode w → (script : List ℕ) → settled_of (trace ode speaks w script) ≡ runs_serially ode w (serial_run ode speaks w script)
  run_serial w well script =
      settled_front (drain lists drain_limit w) (pieces_items ode speaks (pieces script) (opening w).0)
      ∙ ap (λ more. drain lists drain_limit w ++ more) (pieces_serial (pieces script) (opening w).0 (none_open (world_after w (drain lists drain_limit w)) (drained_well w well)))
