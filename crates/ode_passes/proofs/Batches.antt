-- Batches: some of the first records at or above a key, and those behind the last of them.
use Rattle.std.proofs.Common.{◌≡◌, ℕ, ◌≤◌, List, [], ◌∷◌, ◌++◌, Bool, true, false, Option, Some, None, Ok, Err, refl, sym, ap, subst, ◌∙◌}
use Rattle.std.specs.Prelude.{◌&&◌, nat_le}
use Rattle.std.specs.List.{AllByRecursion}
use Rattle.std.specs.List.Sorted.{IsStrictlySortedBy}
use Rattle.std.specs.Map.{keys_of}
use Rattle.std.specs.Option.{IfSome}
use Rattle.std.specs.Ordering.{is_le, is_lt}
use Rattle.std.specs.declared.cmp.Ordering.TheVariants.{Less}
use Rattle.std.proofs.lemmas.List.Elements.{filter-append}
use Rattle.ode_keep.specs.Entries.{AreBytes, Entries, HasBytes, HasRisingKeys, StartsOf, entries_from}
use Rattle.ode_keep.proofs.Maps.{rising_some}
use Rattle.ode_value.specs.Keys.{key_cmp}
use Rattle.ode_value.specs.Records.{Row}
use Rattle.ode_value.specs.declared.key.Key.{Key}
use Rattle.ode_passes.specs.Answers.{Leaves}
use Rattle.ode_passes.specs.Rules.{Ruled, through}
use Rattle.ode_passes.specs.Walking.{IsBatch, behind, has_range, is_above, last_key, rank, records_above, records_from, up_to}
use Rattle.ode_passes.specs.declared.error.OpenError.{OpenError}
use Rattle.ode_passes.proofs.Keyed.{not_before, not_itself, not_under, put, rank_from}
use Rattle.ode_passes.proofs.Through.{goes_by, stops_by}

abbrev AllAbove : Key → Entries → Type 0
AllAbove q es = AllByRecursion (λ k. key_cmp q k ≡ Less) (keys_of es)

-- ---- the last key

last_some : (p : Key) (es : Entries) → (q : Key) × (last_key (Some p) es ≡ Some q)
last_some p [] = (p, refl)
last_some p (e ∷ es) = last_some e.0 es

-- what all keys have the last one has
pub last_has : (P : Key → Type 0) (before : Option Key) (es : Entries) → IfSome before P → AllByRecursion (λ e. P e.0) es → IfSome (last_key before es) P
last_has P before [] here all = here
last_has P before (e ∷ es) here all = last_has P (Some e.0) es all.0 all.1

-- keys rise as their places do
pub last_rank : (from : Key) (found : Option Key) → has_range from ≡ true → IfSome found (λ q. is_le (key_cmp from q) ≡ true)
    → IfSome found (λ q. has_range q ≡ true → rank from ≤ rank q)
last_rank from None range le = tt
last_rank from (Some q) range le = λ range_q. rank_from from q le range range_q

last_above : (k p q : Key) (es rest : Entries) → key_cmp k p ≡ Less → AllAbove k (es ++ rest) → last_key (Some p) es ≡ Some q → key_cmp k q ≡ Less
last_above k p q [] rest less above is = let same : p ≡ q = cc in subst (λ (l : Key). key_cmp k l ≡ Less) same less
last_above k p q (e ∷ es) rest less above is = last_above k e.0 q es rest above.0 above.1 is

module _ (last : ℕ) where
  -- ---- those above the last key

  above_up_to : (q : Key) (es : Entries) → AllAbove q es → records_above q last es ≡ up_to last es
  above_up_to q [] above = refl
  above_up_to q (e ∷ es) above =
      ap (λ b. put (b && (nat_le e.0.kind last && has_range e.0)) e (records_above q last es)) (ap is_lt above.0)
      ∙ ap (λ (more : Entries). put (nat_le e.0.kind last && has_range e.0) e more) (above_up_to q es above.1)

  above_last : (e : Row) (q : Key) (es rest : Entries) → HasRisingKeys (e ∷ (es ++ rest)) → last_key (Some e.0) es ≡ Some q
      → records_above q last (e ∷ (es ++ rest)) ≡ up_to last rest
  unfolding IsStrictlySortedBy
  above_last e q [] rest rising is =
      let same : e.0 ≡ q = cc in
      subst (λ (l : Key). records_above l last (e ∷ rest) ≡ up_to last rest) same (
      ap (λ b. put (b && (nat_le e.0.kind last && has_range e.0)) e (records_above e.0 last rest)) (not_itself e.0)
      ∙ above_up_to e.0 rest rising.0
      )
  above_last e q (f ∷ es) rest rising is =
      let less : key_cmp e.0 q ≡ Less = last_above e.0 f.0 q es rest rising.0.0 rising.0.1 is in
      ap (λ b. put (b && (nat_le e.0.kind last && has_range e.0)) e (records_above q last (f ∷ (es ++ rest)))) (not_under e.0 q less)
      ∙ above_last f q es rest rising.1 is

  -- ---- of those at or above a key

  module _ (from : Key) where
    from_step : (e : Row) (es more : Entries) (b : Bool) → records_from from last es ≡ up_to last more
        → put (b && (nat_le e.0.kind last && has_range e.0)) e (records_from from last es) ≡ up_to last (put b e more)
    from_step e es more true same = ap (λ (xs : Entries). put (nat_le e.0.kind last && has_range e.0) e xs) same
    from_step e es more false same = same

    from_up_to : (es : Entries) → records_from from last es ≡ up_to last (entries_from es from)
    from_up_to [] = refl
    from_up_to (e ∷ es) = from_step e es (entries_from es from) (is_le (key_cmp from e.0)) (from_up_to es)

    module _ (q : Key) (le : is_le (key_cmp from q) ≡ true) where
      above_step : (e : Row) (es more : Entries) (b : Bool) → is_le (key_cmp from e.0) ≡ b → records_above q last more ≡ records_above q last es
          → records_above q last (put b e more) ≡ records_above q last (e ∷ es)
      above_step e es more true is same = ap (λ (xs : Entries). put (is_above q last e.0) e xs) same
      above_step e es more false is same =
          same ∙ sym (ap (λ b. put (b && (nat_le e.0.kind last && has_range e.0)) e (records_above q last es)) (not_before from q e.0 le is))

      above_from : (es : Entries) → records_above q last (entries_from es from) ≡ records_above q last es
      above_from [] = refl
      above_from (e ∷ es) = above_step e es (entries_from es from) (is_le (key_cmp from e.0)) refl (above_from es)

    -- the first records at or above a key are a batch
    pub starts_batch : (entries rows : Entries) → HasRisingKeys entries → StartsOf rows (entries_from entries from)
        → IfSome (last_key None rows) (λ q. is_le (key_cmp from q) ≡ true) → IsBatch from last entries rows
    starts_batch entries [] rising starts above = from_up_to entries ∙ ap (up_to last) starts
    starts_batch entries (e ∷ es) rising starts above =
        let rest : Entries = starts.0 in
        let q : Key = (last_some e.0 es).0 in
        let at : last_key (Some e.0) es ≡ Some q = (last_some e.0 es).1 in
        let le : is_le (key_cmp from q) ≡ true = subst (λ (o : Option Key). IfSome o (λ l. is_le (key_cmp from l) ≡ true)) at above in
        let rise : HasRisingKeys (e ∷ (es ++ rest)) = subst HasRisingKeys starts.1 (rising_some key_cmp (λ r. is_le (key_cmp from r.0)) entries rising) in
        let others : up_to last rest ≡ records_above q last entries =
        sym (above_last e q es rest rise at) ∙ ap (records_above q last) (sym starts.1) ∙ above_from q le entries in
        from_up_to entries ∙ ap (up_to last) starts.1
        ∙ filter-append (λ r. nat_le r.0.kind last && has_range r.0) (e ∷ es) rest
        ∙ ap (λ (more : Entries). up_to last (e ∷ es) ++ more) (others ∙ sym (ap (λ (o : Option Key). behind o last entries) at))

-- ---- a loop over batches

all_both : {X : Type 0} (P : X → Type 0) (xs ys : List X) → AllByRecursion P xs → AllByRecursion P ys → AllByRecursion P (xs ++ ys)
all_both P [] ys front more = more
all_both P (x ∷ xs) ys front more = (front.0, all_both P xs ys front.1 more)

module _ (from : Key) (last : ℕ) (entries rows : Entries) (batch : IsBatch from last entries rows) where
  -- a batch that was taken leaves those behind it
  pub batch_goes : {S : Type 0} (step : S → Row → Ruled S) (s t : S) (at : Option Key) (all : Ruled S) → at ≡ last_key None rows
      → through step s (up_to last rows) ≡ Ok t → through step s (records_from from last entries) ≡ all → through step t (behind at last entries) ≡ all
  batch_goes step s t at all is taken so_far =
      ap (λ (o : Option Key). through step t (behind o last entries)) is
      ∙ goes_by step s t (up_to last rows) (behind (last_key None rows) last entries) all taken (ap (through step s) (sym batch) ∙ so_far)

  -- one that was left by an error leaves all so
  pub batch_stops : (Y Z : Type 0) {S : Type 0} (step : S → Row → Ruled S) (s t : S) (all : Ruled S) (left : S) (e : OpenError)
      → Leaves {X = Y} (through step s (up_to last rows)) t (Err e) → through step s (records_from from last entries) ≡ all → Leaves {X = Z} all left (Err e)
  batch_stops Y Z step s t all left e stopped so_far =
      stops_by step Y Z s t (up_to last rows) (behind (last_key None rows) last entries) all left e stopped (ap (through step s) (sym batch) ∙ so_far)

  pub batch_bytes : (at : Option Key) → at ≡ last_key None rows → AreBytes (up_to last rows) → AreBytes (behind at last entries) → AreBytes (records_from from last entries)
  batch_bytes at is here more =
      subst AreBytes (sym batch) (
      all_both HasBytes (up_to last rows) (behind (last_key None rows) last entries) here (subst (λ (o : Option Key). AreBytes (behind o last entries)) is more)
      )
