-- What is left of a run.
use Rattle.std.proofs.Common.{◌≡◌, ◌∙◌, ◌+◌, ℕ, List, [], ◌++◌, Bool, Option, refl, sym, ap, arith, subst, append_assoc, append-nil, zero-add}
use Rattle.ode_host.specs.Host.{LeavesOnly}
use Rattle.ode_host.specs.View.{View}
use Rattle.ode_host.specs.declared.status.Status.{Status}
use Rattle.ode_language.specs.Languages.{ode}
use Rattle.ode_machine.proofs.MomentLaws.{runs_on}
use Rattle.ode_machine.specs.Moments.{Holding, IsAfterSome}
use Rattle.ode_machine.specs.Runs.{Item, any_refused, ending_items, final, opening, piece_stretch, pieces_items, status_at, text_of, trace}
use Rattle.ode_machine.specs.Sessions.{Session}
use Rattle.ode_run_laws.proofs.JoinLaws.{final_join}
use Rattle.ode_script.specs.Cutting.{Ending, LongStatement, LongScript, Pieces, Then, Ended, ending_of, pieces}
use Rattle.ode_script.specs.Left.{EndsBy}
use Rattle.ode_script.specs.declared.reader.ScriptError.{ScriptError}
use Rattle.ode_script.specs.declared.reader.ScriptError.TheVariants as script
use Rattle.ode_trace.proofs.HearingLaws.{final_heard, heard_join, heard_texts, moments_heard, refused_heard}
use Rattle.ode_trace.proofs.MachineLaws.{opening_ends, piece_ends, pieces_ended, pieces_then}
use Rattle.ode_trace.proofs.TallyLaws.{refused_told}
use Rattle.ode_trace.specs.Hearing.{heard_items}
use Rattle.ode_trace.specs.Running.{SoFar}
use Rattle.ode_ends.specs.Endings.{EndsWith, LeavesNothing, RanAs}
use Rattle.ode_ends.specs.Statuses.{IsEnding, status_of_script}
use Rattle.ode_trace.specs.Tallies.{Counts, count_pieces, was_refused}
use Rattle.ode_trace.specs.declared.tally.Tally.{Tally}
use Rattle.ode_transact.specs.Items.{items_of}
use Rattle.ode_transact.specs.Output.{all_heard}
use Rattle.ode_transact.specs.Settling.{Meaning}
use Rattle.ode_value.specs.Draining.{drain}
use Rattle.ode_value.specs.Language.{ListWorld}
use Rattle.ode_value.specs.Limits.{drain_limit}
use Rattle.ode_value.specs.Pasts.{lists}

-- A run that has come this far.
module _ (quiet : Bool) (whole : Pieces) (all : List Item) (w : ListWorld) (text0 : List ℕ) (ps : Pieces) (session : Session) (text : List ℕ) (tally : Tally) (counted : ℕ)
    (so_far : SoFar quiet whole all w text0 ps session text tally counted) where
  -- one piece further
  pub same_next : (line : ℕ) (piece : List ℕ) (rest : Pieces) (t : Tally) (n : ℕ) → ps ≡ Then line piece rest → Counts t n (so_far.taken + 1) (so_far.before ++ (piece_stretch ode session line piece).1)
      → SoFar quiet whole all w text0 rest (piece_stretch ode session line piece).0 (text ++ text_of (heard_items quiet (piece_stretch ode session line piece).1)) t n
  same_next line piece rest t n is counts =
      let items : List Item = (piece_stretch ode session line piece).1 in
      let next : Session = (piece_stretch ode session line piece).0 in
      let one : count_pieces ps ≡ count_pieces rest + 1 = ap count_pieces is in
      record {
        before = so_far.before ++ items;
        split = so_far.split ∙ ap (λ (p : Pieces). so_far.before ++ pieces_items ode p session) is ∙ ap (λ (l : List Item). so_far.before ++ l) (pieces_then ode line piece rest session)
            ∙ sym (append_assoc so_far.before items (pieces_items ode rest next));
        ends = so_far.ends ∙ ap ending_of is;
        world = piece_ends ode session line piece ∙ ap (λ (u : ListWorld). final u items) so_far.world ∙ sym (final_join w so_far.before items);
        printed = ap (λ (l : List ℕ). l ++ text_of (heard_items quiet items)) so_far.printed ∙ append_assoc text0 (text_of (heard_items quiet so_far.before)) (text_of (heard_items quiet items))
            ∙ ap (λ (l : List ℕ). text0 ++ l) (sym (heard_texts quiet so_far.before items));
        taken = so_far.taken + 1;
        pieces = omega (arith, so_far.pieces, one);
        counts = counts;
      }

  -- a stop in what is left is one of the whole
  pub goes_further : (holds : Holding) (old mid new : View) → LeavesOnly old mid (IsAfterSome holds (heard_items quiet all) w text0)
      → LeavesOnly mid new (IsAfterSome holds (heard_items quiet (pieces_items ode ps session)) session.world text) → LeavesOnly old new (IsAfterSome holds (heard_items quiet all) w text0)
  goes_further holds old mid new first rest =
      let before : List Item = heard_items quiet so_far.before in
      let items : List Item = heard_items quiet (pieces_items ode ps session) in
      let split : heard_items quiet all ≡ before ++ items = ap (heard_items quiet) so_far.split ∙ heard_join quiet so_far.before (pieces_items ode ps session) in
      subst (λ (l : List Item). LeavesOnly old new (IsAfterSome holds l w text0)) (sym split)
      (runs_on holds before items w text0 old mid new
      (subst (λ (l : List Item). LeavesOnly old mid (IsAfterSome holds l w text0)) split first)
      (subst (λ (u : ListWorld). LeavesOnly mid new (IsAfterSome holds items u (text0 ++ text_of before))) (so_far.world ∙ sym (final_heard quiet w so_far.before))
      (subst (λ (t : List ℕ). LeavesOnly mid new (IsAfterSome holds items session.world t)) so_far.printed rest)))

  -- ---- at its ending

  all_items : (how : Ending) → ps ≡ Ended how → all ≡ so_far.before ++ ending_items ode session how
  all_items how is = so_far.split ∙ ap (λ (p : Pieces). so_far.before ++ pieces_items ode p session) is ∙ ap (λ (l : List Item). so_far.before ++ l) (pieces_ended ode how session)

  pub ended_counts : (how : Ending) (t : Tally) (n : ℕ) → ps ≡ Ended how → Counts t n so_far.taken (so_far.before ++ ending_items ode session how) → Counts t n (count_pieces whole) all
  ended_counts how t n is counts =
      let none : count_pieces ps ≡ 0 = ap count_pieces is in
      let every : so_far.taken ≡ count_pieces whole = omega (arith, so_far.pieces, none) in
      subst (λ (k : ℕ). Counts t n k all) every (subst (λ (l : List Item). Counts t n so_far.taken l) (sym (all_items how is)) counts)

  pub ended_ran : (means : Meaning) (how : Ending) (left : Option (List ℕ)) (view : View) (result : Status) (t : Tally) (n : ℕ) → ps ≡ Ended how → result ≡ status_at how (was_refused t)
      → Counts t n (count_pieces whole) all → LeavesNothing result left
      → EndsWith means view (final session.world (ending_items ode session how)) (text ++ text_of (heard_items quiet (ending_items ode session how)))
      → RanAs means (heard_items quiet all) (ending_of whole) w text0 left view result
  ended_ran means how left view result t n is stated counts nothing ends =
      let tail : List Item = ending_items ode session how in
      let every : all ≡ so_far.before ++ tail = all_items how is in
      let kind : how ≡ ending_of whole = sym (so_far.ends ∙ ap ending_of is) in
      let told : was_refused t ≡ any_refused (heard_items quiet all) = refused_told t n (count_pieces whole) all counts ∙ sym (refused_heard quiet all) in
      let world : final session.world tail ≡ final w (heard_items quiet all) =
      ap (λ (u : ListWorld). final u tail) so_far.world ∙ sym (final_join w so_far.before tail) ∙ ap (final w) (sym every) ∙ sym (final_heard quiet w all) in
      let said : text ++ text_of (heard_items quiet tail) ≡ text0 ++ text_of (heard_items quiet all) =
      ap (λ (l : List ℕ). l ++ text_of (heard_items quiet tail)) so_far.printed ∙ append_assoc text0 (text_of (heard_items quiet so_far.before)) (text_of (heard_items quiet tail))
      ∙ ap (λ (l : List ℕ). text0 ++ l) (sym (heard_texts quiet so_far.before tail)) ∙ ap (λ (items : List Item). text0 ++ text_of (heard_items quiet items)) (sym every) in
      record {
        stated = stated ∙ ap (λ (e : Ending). status_at e (was_refused t)) kind ∙ ap (status_at (ending_of whole)) told;
        ends = subst (λ (u : ListWorld). EndsWith means view u (text0 ++ text_of (heard_items quiet all))) world (subst (λ (l : List ℕ). EndsWith means view (final session.world tail) l) said ends);
        nothing = nothing;
      }

  -- by an error that is the script's own ending
  stopped_counts : (how : Ending) → ps ≡ Ended how → ending_items ode session how ≡ [] → Counts tally counted (count_pieces whole) all
  stopped_counts how is none =
      ended_counts how tally counted is (subst (λ (l : List Item). Counts tally counted so_far.taken (so_far.before ++ l)) (sym none)
      (subst (λ (l : List Item). Counts tally counted so_far.taken l) (sym (append-nil so_far.before)) so_far.counts))

  pub error_counts : (e : ScriptError) → EndsBy ps e → IsEnding (status_of_script e) → Counts tally counted (count_pieces whole) all
  error_counts script.Memory is is_end = absurd is_end
  error_counts script.ReadFault is is_end = absurd is_end
  error_counts script.LongStatement is is_end = stopped_counts LongStatement is refl
  error_counts script.LongScript is is_end = stopped_counts LongScript is refl

  pub error_ran : (means : Meaning) (left : Option (List ℕ)) (view : View) (result : Status) (e : ScriptError) → EndsBy ps e → result ≡ status_of_script e → IsEnding result
      → EndsWith means view session.world text → RanAs means (heard_items quiet all) (ending_of whole) w text0 left view result
  error_ran means left view result script.Memory is stated is_end ends = absurd (subst IsEnding stated is_end)
  error_ran means left view result script.ReadFault is stated is_end ends = absurd (subst IsEnding stated is_end)
  error_ran means left view result script.LongStatement is stated is_end ends =
      ended_ran means LongStatement left view result tally counted is stated (stopped_counts LongStatement is refl) (subst (λ (s : Status). LeavesNothing s left) (sym stated) tt)
      (subst (λ (l : List ℕ). EndsWith means view session.world l) (sym (append-nil text)) ends)
  error_ran means left view result script.LongScript is stated is_end ends =
      ended_ran means LongScript left view result tally counted is stated (stopped_counts LongScript is refl) (subst (λ (s : Status). LeavesNothing s left) (sym stated) tt)
      (subst (λ (l : List ℕ). EndsWith means view session.world l) (sym (append-nil text)) ends)

-- ---- the opening, and what comes behind it

module _ (quiet : Bool) (w : ListWorld) (text script : List ℕ) where
  abbrev first : List Item
  first = (opening ode w).1

  abbrev behind : List Item
  behind = pieces_items ode (pieces script) (opening ode w).0

  pub opened_so_far : (t : Tally) (n : ℕ) → Counts t n 0 first → SoFar quiet (pieces script) (trace ode w script) w text (pieces script) (opening ode w).0 (text ++ text_of (heard_items quiet first)) t n
  opened_so_far t n counts = record {
    before = first;
    split = refl;
    ends = refl;
    world = opening_ends ode w;
    printed = refl;
    taken = 0;
    pieces = sym (zero-add (count_pieces (pieces script)));
    counts = counts;
  }

  pub opened_leaves : (holds : Holding) (volume : Bool) (old new : View) → volume ≡ quiet
      → LeavesOnly old new (IsAfterSome holds (items_of (all_heard volume (drain lists drain_limit w)) ++ heard_items quiet behind) w text) → LeavesOnly old new (IsAfterSome holds (heard_items quiet (trace ode w script)) w text)
  opened_leaves holds volume old new same run =
      subst (λ (l : List Item). LeavesOnly old new (IsAfterSome holds l w text)) (sym (heard_join quiet first behind))
      (subst (λ (q : Bool). LeavesOnly old new (IsAfterSome holds (heard_items q first ++ heard_items quiet behind) w text)) same
      (moments_heard holds volume (drain lists drain_limit w) (heard_items quiet behind) w text old new run))
