-- A snapshot of records kind by kind.
use Rattle.std.proofs.Common.{◌≡◌, ◌<◌, ◌+◌, ℕ, suc, List, ◌++◌, length, drop, get_or, ap, sym, subst, ◌∙◌, add-one, append_assoc}
use Rattle.std.specs.List.{AllByRecursion}
use Rattle.std.proofs.lemmas.Grind.{flat_map-append}
use Rattle.ode_value.specs.Records.{row_bytes, snapshot}
use Rattle.ode_keep.specs.Entries.{Entries}
use Rattle.ode_keep.specs.Snapshots.{FitsRow}
use Rattle.ode_keep.proofs.Lists.{all_behind, all_front}
use Rattle.ode_records.specs.Kinds.{all_of}
use Rattle.ode_records.proofs.Kinding.{split_at}

module _ (kinds : List Entries) (i : ℕ) (es : Entries) (here : es ≡ get_or kinds i es) (less : i < length kinds) (fits : AllByRecursion FitsRow (all_of (drop i kinds))) where
  split : all_of (drop i kinds) ≡ es ++ all_of (drop (suc i) kinds)
  split = ap all_of (split_at kinds i es here less)

  fits_both : AllByRecursion FitsRow (es ++ all_of (drop (suc i) kinds))
  fits_both = subst (λ (l : Entries). AllByRecursion FitsRow l) split fits

  -- those of one kind more are put behind the bytes
  pub kind_more : (before after whole : List ℕ) → (AllByRecursion FitsRow es → after ≡ before ++ snapshot es) → before ++ snapshot (all_of (drop i kinds)) ≡ whole
      → AllByRecursion FitsRow (all_of (drop (i + 1) kinds)) × (after ++ snapshot (all_of (drop (i + 1) kinds)) ≡ whole)
  kind_more before after whole put so_far =
      rw add-one (
        all_behind FitsRow es (all_of (drop (suc i) kinds)) fits_both,
        ap (λ (l : List ℕ). l ++ snapshot (all_of (drop (suc i) kinds))) (put (all_front FitsRow es (all_of (drop (suc i) kinds)) fits_both))
            ∙ append_assoc before (snapshot es) (snapshot (all_of (drop (suc i) kinds)))
            ∙ ap (λ (l : List ℕ). before ++ l) (sym (flat_map-append row_bytes es (all_of (drop (suc i) kinds))) ∙ ap (λ (l : Entries). snapshot l) (sym split))
            ∙ so_far,
      )
