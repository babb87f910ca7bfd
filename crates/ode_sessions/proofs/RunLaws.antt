-- What is left of a run of sessions.
use Rattle.std.proofs.Common.{◌≡◌, ◌∙◌, ◌||◌, ℕ, List, [], ◌∷◌, ◌++◌, Bool, true, false, Option, append-nil, append_assoc, ap, refl, subst, sym}
use Rattle.ode_host.specs.Host.{LeavesOnly}
use Rattle.ode_host.specs.View.{View}
use Rattle.ode_host.specs.declared.status.Status.{Status}
use Rattle.ode_interleaved_laws.proofs.SerialLaws.{world_goes}
use Rattle.ode_interleaved_laws.specs.Meeting.{IsInterleaved}
use Rattle.ode_language.specs.Languages.{ode}
use Rattle.ode_machine.proofs.MomentLaws.{runs_on}
use Rattle.ode_machine.specs.Conversation.{Says, NoSession, Spoken, Unread, ending_items, opening, pieces_items, reply_stretch, spoken_stretch}
use Rattle.ode_machine.specs.Interleaving.{Busy, Goes, Interleaved, Reply, Refuses as Refused, step}
use Rattle.ode_machine.specs.Moments.{Holding, IsAfterSome}
use Rattle.ode_machine.specs.Runs.{Item, Refuses, Settles, any_refused, final, status_at, text_of}
use Rattle.ode_run_laws.proofs.JoinLaws.{final_join, texts_join}
use Rattle.ode_script.specs.Cutting.{Ended, Ending, LongScript, LongStatement, Pieces, Then, ending_of, pieces}
use Rattle.ode_script.specs.Left.{EndsBy}
use Rattle.ode_script.specs.declared.reader.ScriptError.{ScriptError}
use Rattle.ode_script.specs.declared.reader.ScriptError.TheVariants as script
use Rattle.ode_sessions.specs.Running.{SpokenSoFar, items_from}
use Rattle.ode_sessions.specs.Speaking.{spoken}
use Rattle.ode_ends.proofs.ItemLaws.{world_is}
use Rattle.ode_ends.specs.Endings.{EndsWith, LeavesNothing, RanAs}
use Rattle.ode_ends.specs.Statuses.{IsEnding, status_of_script}
use Rattle.ode_transact.specs.Items.{items_of}
use Rattle.ode_transact.specs.Settling.{Meaning}
use Rattle.ode_value.specs.Draining.{drain}
use Rattle.ode_value.specs.Language.{ListWorld, Settlings}
use Rattle.ode_value.specs.Limits.{drain_limit}
use Rattle.ode_value.specs.Pasts.{lists}
use Rattle.ode_value.specs.declared.statement.Statement.{Statement}

-- ---- items

pub refused_join : (items more : List Item) → any_refused (items ++ more) ≡ (any_refused items || any_refused more)
refused_join [] more = refl
refused_join (Refuses line ∷ items) more = refl
refused_join (Settles world text ∷ items) more = refused_join items more

pub none_refused : (settled : Settlings) → any_refused (items_of settled) ≡ false
none_refused [] = refl
none_refused (s ∷ settled) = none_refused settled

-- ---- the world behind a stretch

module _ (m : Interleaved) (is : IsInterleaved ode m) (at : ℕ) where
  reply_ends : (n : ℕ) (s : Statement) (r : Reply) → step ode m n s ≡ r → (reply_stretch m at r).0.world ≡ final m.world (reply_stretch m at r).1
  reply_ends n s (Refused why) e = refl
  reply_ends n s (Busy session what) e = refl
  reply_ends n s (Goes now settled) e = world_goes m is n s now settled e ∙ sym (world_is m.world settled)

  pub spoken_ends : (said : Spoken) → (spoken_stretch ode spoken m at said).0.world ≡ final m.world (spoken_stretch ode spoken m at said).1
  spoken_ends (Says n s) = reply_ends n s (step ode m n s) refl
  spoken_ends NoSession = refl
  spoken_ends (Unread why) = refl

-- ---- pieces

pub pieces_then : (at : ℕ) (piece : List ℕ) (rest : Pieces) (m : Interleaved)
    → pieces_items ode spoken (Then at piece rest) m ≡ (spoken_stretch ode spoken m at (spoken piece)).1 ++ pieces_items ode spoken rest (spoken_stretch ode spoken m at (spoken piece)).0
unfolding pieces_items
pieces_then at piece rest m = refl

pub pieces_ended : (how : Ending) (m : Interleaved) → pieces_items ode spoken (Ended how) m ≡ ending_items ode spoken m how
unfolding pieces_items
pieces_ended how m = refl

-- A run that has come this far.
module _ (whole : Pieces) (all : List Item) (w : ListWorld) (text0 : List ℕ) (ps : Pieces) (m : Interleaved) (text : List ℕ) (refused : Bool) (so_far : SpokenSoFar whole all w text0 ps m text refused) where
  -- one piece further
  pub same_next : IsInterleaved ode m → (at : ℕ) (piece : List ℕ) (rest : Pieces) (was : Bool) → ps ≡ Then at piece rest → was ≡ any_refused (spoken_stretch ode spoken m at (spoken piece)).1
      → SpokenSoFar whole all w text0 rest (spoken_stretch ode spoken m at (spoken piece)).0 (text ++ text_of (spoken_stretch ode spoken m at (spoken piece)).1) (refused || was)
  same_next good at piece rest was is told =
      let items : List Item = (spoken_stretch ode spoken m at (spoken piece)).1 in
      let next : Interleaved = (spoken_stretch ode spoken m at (spoken piece)).0 in
      record {
        before = so_far.before ++ items;
        split = so_far.split ∙ ap (λ (p : Pieces). so_far.before ++ pieces_items ode spoken p m) is ∙ ap (λ (l : List Item). so_far.before ++ l) (pieces_then at piece rest m)
            ∙ sym (append_assoc so_far.before items (pieces_items ode spoken rest next));
        ends = so_far.ends ∙ ap ending_of is;
        world = spoken_ends m good at (spoken piece) ∙ ap (λ (u : ListWorld). final u items) so_far.world ∙ sym (final_join w so_far.before items);
        printed = ap (λ (l : List ℕ). l ++ text_of items) so_far.printed ∙ append_assoc text0 (text_of so_far.before) (text_of items) ∙ ap (λ (l : List ℕ). text0 ++ l) (sym (texts_join so_far.before items));
        was = ap (λ (b : Bool). b || was) so_far.was ∙ ap (λ (b : Bool). any_refused so_far.before || b) told ∙ sym (refused_join so_far.before items);
      }

  -- a stop in what is left is one of the whole
  pub goes_further : (holds : Holding) (old mid new : View) → LeavesOnly old mid (IsAfterSome holds all w text0) → LeavesOnly mid new (IsAfterSome holds (pieces_items ode spoken ps m) m.world text) → LeavesOnly old new (IsAfterSome holds all w text0)
  goes_further holds old mid new first rest =
      let items : List Item = pieces_items ode spoken ps m in
      subst (λ (l : List Item). LeavesOnly old new (IsAfterSome holds l w text0)) (sym so_far.split)
      (runs_on holds so_far.before items w text0 old mid new
      (subst (λ (l : List Item). LeavesOnly old mid (IsAfterSome holds l w text0)) so_far.split first)
      (subst (λ (u : ListWorld). LeavesOnly mid new (IsAfterSome holds items u (text0 ++ text_of so_far.before))) so_far.world
      (subst (λ (t : List ℕ). LeavesOnly mid new (IsAfterSome holds items m.world t)) so_far.printed rest)))

  -- ---- at its ending

  all_items : (how : Ending) → ps ≡ Ended how → all ≡ so_far.before ++ ending_items ode spoken m how
  all_items how is = so_far.split ∙ ap (λ (p : Pieces). so_far.before ++ pieces_items ode spoken p m) is ∙ ap (λ (l : List Item). so_far.before ++ l) (pieces_ended how m)

  pub ended_ran : (means : Meaning) (how : Ending) (left : Option (List ℕ)) (view : View) (result : Status) → ps ≡ Ended how → any_refused (ending_items ode spoken m how) ≡ false
      → result ≡ status_at how refused → LeavesNothing result left → EndsWith means view (final m.world (ending_items ode spoken m how)) (text ++ text_of (ending_items ode spoken m how))
      → RanAs means all (ending_of whole) w text0 left view result
  ended_ran means how left view result is calm stated nothing ends =
      let tail : List Item = ending_items ode spoken m how in
      let every : all ≡ so_far.before ++ tail = all_items how is in
      let kind : how ≡ ending_of whole = sym (so_far.ends ∙ ap ending_of is) in
      let told : refused ≡ any_refused all = so_far.was ∙ or_false (any_refused so_far.before) ∙ ap (λ (b : Bool). any_refused so_far.before || b) (sym calm) ∙ sym (refused_join so_far.before tail) ∙ ap any_refused (sym every) in
      let world : final m.world tail ≡ final w all = ap (λ (u : ListWorld). final u tail) so_far.world ∙ sym (final_join w so_far.before tail) ∙ ap (final w) (sym every) in
      let said : text ++ text_of tail ≡ text0 ++ text_of all =
      ap (λ (l : List ℕ). l ++ text_of tail) so_far.printed ∙ append_assoc text0 (text_of so_far.before) (text_of tail)
      ∙ ap (λ (l : List ℕ). text0 ++ l) (sym (texts_join so_far.before tail)) ∙ ap (λ (items : List Item). text0 ++ text_of items) (sym every) in
      record {
        stated = stated ∙ ap (λ (e : Ending). status_at e refused) kind ∙ ap (status_at (ending_of whole)) told;
        ends = subst (λ (u : ListWorld). EndsWith means view u (text0 ++ text_of all)) world (subst (λ (l : List ℕ). EndsWith means view (final m.world tail) l) said ends);
        nothing = nothing;
      }
    where
      or_false : (b : Bool) → b ≡ (b || false)
      or_false true = refl
      or_false false = refl

  -- by an error that is the script's own ending
  pub error_ran : (means : Meaning) (left : Option (List ℕ)) (view : View) (result : Status) (e : ScriptError) → EndsBy ps e → result ≡ status_of_script e → IsEnding result
      → EndsWith means view m.world text → RanAs means all (ending_of whole) w text0 left view result
  error_ran means left view result script.Memory is stated is_end ends = absurd (subst IsEnding stated is_end)
  error_ran means left view result script.ReadFault is stated is_end ends = absurd (subst IsEnding stated is_end)
  error_ran means left view result script.LongStatement is stated is_end ends =
      ended_ran means LongStatement left view result is refl stated (subst (λ (s : Status). LeavesNothing s left) (sym stated) tt)
      (subst (λ (l : List ℕ). EndsWith means view m.world l) (sym (append-nil text)) ends)
  error_ran means left view result script.LongScript is stated is_end ends =
      ended_ran means LongScript left view result is refl stated (subst (λ (s : Status). LeavesNothing s left) (sym stated) tt)
      (subst (λ (l : List ℕ). EndsWith means view m.world l) (sym (append-nil text)) ends)

-- ---- the opening, and what comes behind it

pub opened_so_far : (w : ListWorld) (text script : List ℕ)
    → SpokenSoFar (pieces script) (items_from w script) w text (pieces script) (opening w).0 (text ++ text_of (opening w).1) false
opened_so_far w text script = record {
  before = (opening w).1;
  split = refl;
  ends = refl;
  world = sym (world_is w (drain lists drain_limit w));
  printed = refl;
  was = sym (none_refused (drain lists drain_limit w));
}
