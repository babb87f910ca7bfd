-- How the counts of a run go on.
use Rattle.std.proofs.Common.{◌≡◌, ◌∙◌, ◌+◌, ◌++◌, ℕ, List, [], ◌∷◌, length, append-nil, ap, arith, refl, subst, sym}
use Rattle.std.proofs.lemmas.Bool.{ne_eqb}
use Rattle.std.proofs.lemmas.List.{length-append}
use Rattle.std.specs.Prelude.{◌==◌, not}
use Rattle.ode_machine.specs.Runs.{Item, Refuses, Settles, any_refused, text_of}
use Rattle.ode_run_laws.proofs.JoinLaws.{texts_join}
use Rattle.ode_script.specs.Cutting.{Pieces}
use Rattle.ode_ends.proofs.ItemLaws.{texts_are}
use Rattle.ode_trace.specs.Tallies.{Counts, count_pieces, count_refused, count_settled, shown, tally_of, uncounted, was_refused, with_bytes, with_piece, with_refusal, with_settled}
use Rattle.ode_trace.specs.declared.tally.Tally.{Tally}
use Rattle.ode_transact.specs.Items.{items_of, texts_of}
use Rattle.ode_transact.specs.Output.{counted_on}
use Rattle.ode_value.specs.Language.{Settlings}

-- ---- counts that stop at the most

shown_more : (n k : ℕ) → shown (shown n + k) ≡ shown (n + k)
unfolding shown
shown_more n k = omega arith

shown_both : (n k : ℕ) → shown (shown n + shown k) ≡ shown (n + k)
unfolding shown
shown_both n k = omega arith

shown_text : (n : ℕ) (text : List ℕ) → counted_on (shown n) text ≡ shown (n + length text)
unfolding shown counted_on
shown_text n text = omega arith

shown_some : (n : ℕ) → shown (n + 1) ≡ 0 → ⊥
unfolding shown
shown_some n is = omega (arith, is)

-- ---- the counts of items, one stretch behind the other

settled_join : (items more : List Item) → count_settled (items ++ more) ≡ count_settled items + count_settled more
settled_join [] more = omega arith
settled_join (Settles w text ∷ items) more = omega (arith, settled_join items more)
settled_join (Refuses line ∷ items) more = settled_join items more

refused_join : (items more : List Item) → count_refused (items ++ more) ≡ count_refused items + count_refused more
refused_join [] more = omega arith
refused_join (Settles w text ∷ items) more = refused_join items more
refused_join (Refuses line ∷ items) more = omega (arith, refused_join items more)

settled_are : (settled : Settlings) → count_settled (items_of settled) ≡ length settled
settled_are [] = refl
settled_are (s ∷ settled) = omega (arith, settled_are settled)

none_refused : (settled : Settlings) → count_refused (items_of settled) ≡ 0
none_refused [] = refl
none_refused (s ∷ settled) = none_refused settled

-- ---- what was counted so far

pub counts_none : Counts uncounted 0 0 []
unfolding shown
counts_none = record { pieces = refl; settled = refl; refused = refl; lines = 0; texts = 0; all = refl; said = refl; kept = refl }

counts_piece : (t : Tally) (counted taken : ℕ) (items : List Item) → Counts t counted taken items → Counts (with_piece t) counted (taken + 1) items
counts_piece t counted taken items so_far = record {
  pieces = ap (λ (n : ℕ). shown (n + 1)) so_far.pieces ∙ shown_more taken 1;
  settled = so_far.settled;
  refused = so_far.refused;
  lines = so_far.lines;
  texts = so_far.texts;
  all = so_far.all;
  said = so_far.said;
  kept = so_far.kept;
}

pub counts_settled : (t : Tally) (counted taken : ℕ) (before : List Item) (settled : Settlings) → Counts t counted taken before
    → Counts (with_settled (length settled) t) (counted_on counted (texts_of settled)) taken (before ++ items_of settled)
counts_settled t counted taken before settled so_far =
    let more : count_settled before + length settled ≡ count_settled (before ++ items_of settled) = omega (arith, settled_join before (items_of settled), settled_are settled) in
    let same : count_refused before ≡ count_refused (before ++ items_of settled) = omega (arith, refused_join before (items_of settled), none_refused settled) in
    let joined : length (text_of (before ++ items_of settled)) ≡ length (text_of before) + length (texts_of settled) =
    ap length (texts_join before (items_of settled) ∙ ap (λ (l : List ℕ). text_of before ++ l) (sym (texts_are settled))) ∙ length-append (text_of before) (texts_of settled) in
    record {
      pieces = so_far.pieces;
      settled = ap (λ (n : ℕ). shown (n + length settled)) so_far.settled ∙ shown_more (count_settled before) (length settled) ∙ ap shown more;
      refused = so_far.refused ∙ ap shown same;
      lines = so_far.lines;
      texts = so_far.texts + length (texts_of settled);
      all = omega (arith, so_far.all, joined);
      said = so_far.said;
      kept = ap (λ (n : ℕ). counted_on n (texts_of settled)) so_far.kept ∙ shown_text so_far.texts (texts_of settled);
    }

counts_refused : (t : Tally) (counted taken : ℕ) (before : List Item) (line : List ℕ) → Counts t counted taken before → Counts (with_refusal line t) counted taken (before ++ (Refuses line ∷ []))
counts_refused t counted taken before line so_far =
    let settled : count_settled (before ++ (Refuses line ∷ [])) ≡ count_settled before + 0 = settled_join before (Refuses line ∷ []) in
    let same : count_settled before ≡ count_settled (before ++ (Refuses line ∷ [])) = omega (arith, settled) in
    let refused : count_refused (before ++ (Refuses line ∷ [])) ≡ count_refused before + 1 = refused_join before (Refuses line ∷ []) in
    let joined : length (text_of (before ++ (Refuses line ∷ []))) ≡ length (text_of before) + length line =
    ap length (texts_join before (Refuses line ∷ []) ∙ ap (λ (l : List ℕ). text_of before ++ l) (append-nil line)) ∙ length-append (text_of before) line in
    record {
      pieces = so_far.pieces;
      settled = so_far.settled ∙ ap shown same;
      refused = ap (λ (n : ℕ). shown (n + 1)) so_far.refused ∙ shown_more (count_refused before) 1 ∙ ap shown (sym refused);
      lines = so_far.lines + length line;
      texts = so_far.texts;
      all = omega (arith, so_far.all, joined);
      said = ap (λ (n : ℕ). shown (n + length line)) so_far.said ∙ shown_more so_far.lines (length line);
      kept = so_far.kept;
    }

-- ---- a piece that was carried out

pub piece_settled : (was mid now : Tally) (counted after count : ℕ) (settled : Settlings) → mid ≡ with_piece was → now ≡ with_settled count mid → count ≡ length settled
    → after ≡ counted_on counted (texts_of settled) → (taken : ℕ) (before : List Item) → Counts was counted taken before → Counts now after (taken + 1) (before ++ items_of settled)
piece_settled was mid now counted after count settled first next many kept taken before so_far =
    let is : now ≡ with_settled (length settled) (with_piece was) = next ∙ ap (λ (n : ℕ). with_settled n mid) many ∙ ap (with_settled (length settled)) first in
    subst (λ (t : Tally). Counts t after (taken + 1) (before ++ items_of settled)) (sym is)
    (subst (λ (n : ℕ). Counts (with_settled (length settled) (with_piece was)) n (taken + 1) (before ++ items_of settled)) (sym kept)
    (counts_settled (with_piece was) counted (taken + 1) before settled (counts_piece was counted taken before so_far)))

pub piece_refused : (was mid now : Tally) (counted after : ℕ) (line : List ℕ) → mid ≡ with_piece was → now ≡ with_refusal line mid → after ≡ counted → (taken : ℕ) (before : List Item)
    → Counts was counted taken before → Counts now after (taken + 1) (before ++ (Refuses line ∷ []))
piece_refused was mid now counted after line first next kept taken before so_far =
    let is : now ≡ with_refusal line (with_piece was) = next ∙ ap (with_refusal line) first in
    subst (λ (t : Tally). Counts t after (taken + 1) (before ++ (Refuses line ∷ []))) (sym is)
    (subst (λ (n : ℕ). Counts (with_refusal line (with_piece was)) n (taken + 1) (before ++ (Refuses line ∷ []))) (sym kept)
    (counts_refused (with_piece was) counted (taken + 1) before line (counts_piece was counted taken before so_far)))

-- transactions that are settled with no piece
pub more_settled : (was now : Tally) (counted after count : ℕ) (settled : Settlings) → now ≡ with_settled count was → count ≡ length settled → after ≡ counted_on counted (texts_of settled)
    → (taken : ℕ) (before : List Item) → Counts was counted taken before → Counts now after taken (before ++ items_of settled)
more_settled was now counted after count settled next many kept taken before so_far =
    let is : now ≡ with_settled (length settled) was = next ∙ ap (λ (n : ℕ). with_settled n was) many in
    subst (λ (t : Tally). Counts t after taken (before ++ items_of settled)) (sym is)
    (subst (λ (n : ℕ). Counts (with_settled (length settled) was) n taken (before ++ items_of settled)) (sym kept) (counts_settled was counted taken before settled so_far))

-- those at the start of a run, which nothing was counted before
pub opened_counts : (was now : Tally) (counted after count : ℕ) (settled : Settlings) → was ≡ uncounted → counted ≡ 0 → now ≡ with_settled count was → count ≡ length settled
    → after ≡ counted_on counted (texts_of settled) → Counts now after 0 (items_of settled)
opened_counts was now counted after count settled fresh none next many kept =
    more_settled was now counted after count settled next many kept 0 []
    (subst (λ (t : Tally). Counts t counted 0 []) (sym fresh) (subst (λ (n : ℕ). Counts uncounted n 0 []) (sym none) counts_none))

-- ---- the end

any_counted : (items : List Item) → not (shown (count_refused items) == 0) ≡ any_refused items
unfolding shown
any_counted [] = refl
any_counted (Settles w text ∷ items) = any_counted items
any_counted (Refuses line ∷ items) = ap not (ne_eqb (shown (count_refused items + 1)) 0 (shown_some (count_refused items)))

-- a run was refused something where its count says so
pub refused_told : (t : Tally) (counted taken : ℕ) (items : List Item) → Counts t counted taken items → was_refused t ≡ any_refused items
refused_told t counted taken items counts = ap (λ (n : ℕ). not (n == 0)) counts.refused ∙ any_counted items

abbrev tally_with : ℕ → ℕ → ℕ → ℕ → Tally
tally_with p s r n = record { pieces = p; settled = s; refused = r; bytes = n }

same_tally : (a b : Tally) → a.pieces ≡ b.pieces → a.settled ≡ b.settled → a.refused ≡ b.refused → a.bytes ≡ b.bytes → a ≡ b
same_tally a b p s r n =
    ap (λ (k : ℕ). tally_with k a.settled a.refused a.bytes) p ∙ ap (λ (k : ℕ). tally_with b.pieces k a.refused a.bytes) s ∙ ap (λ (k : ℕ). tally_with b.pieces b.settled k a.bytes) r
    ∙ ap (λ (k : ℕ). tally_with b.pieces b.settled b.refused k) n

-- all is counted where the engine's bytes are in the tally too
pub all_counted : (t : Tally) (counted : ℕ) (ps : Pieces) (items : List Item) → Counts t counted (count_pieces ps) items → with_bytes counted t ≡ tally_of ps items
all_counted t counted ps items counts =
    let bytes : shown (t.bytes + counted) ≡ shown (length (text_of items)) =
    ap (λ (n : ℕ). shown (n + counted)) counts.said ∙ ap (λ (n : ℕ). shown (shown counts.lines + n)) counts.kept ∙ shown_both counts.lines counts.texts ∙ ap shown counts.all in
    same_tally (with_bytes counted t) (tally_of ps items) counts.pieces counts.settled counts.refused bytes
