-- What the records of pages count together: each page adds its own.
use Rattle.std.proofs.Common.{◌≡◌, ◌≤◌, ℕ, ◌+◌, List, [], ◌∷◌, ◌++◌, cond, Some, refl, sym, ap, subst, ◌∙◌, arith}
use Rattle.std.specs.Prelude.{◌==◌}
use Rattle.std.specs.List.{AllByRecursion}
use Rattle.std.specs.List.Sorted.{IsStrictlySortedBy}
use Rattle.std.specs.Map.{keys_of}
use Rattle.std.specs.Ordering.{is_eq}
use Rattle.std.specs.declared.cmp.Ordering.{Ordering}
use Rattle.std.specs.declared.cmp.Ordering.TheVariants.{Less}
use Rattle.std.proofs.lemmas.List.Sums.{sum_by-cons}
use Rattle.ode_value.specs.Keys.{entry_kind, key_cmp}
use Rattle.ode_value.specs.Records.{Row}
use Rattle.ode_keep.specs.Entries.{Entries, HasRisingKeys, changed, count_of_kind, record_bytes, value_under}
use Rattle.ode_keep.specs.Growth.{bytes_of, one_of_kind}
use Rattle.ode_keep.proofs.Applying.{changed_rising}
use Rattle.ode_keep.proofs.Counts.{count_within, put_counts}
use Rattle.ode_keep.proofs.Growing.{put_grows}
use Rattle.ode_keep.proofs.Keys.{key_total}
use Rattle.ode_keep.proofs.Maps.{lookup_put}
use Rattle.ode_pages.specs.Pages.{FitsPage, entries_need}
use Rattle.ode_paging.specs.Gathering.{AreApart, gathered, joined}
use Rattle.ode_paging.specs.OneMap.{gathered_rising}
use Rattle.ode_paging.specs.Summed.{AreSums}
use Rattle.ode_paging.specs.declared.sums.Sums.{Sums}

-- a record is one entry of the queue, by its key alone, or none
pub one_more : (e : Row) (es : Entries) → count_of_kind entry_kind (e ∷ es) ≡ cond (e.0.kind == entry_kind) 1 0 + count_of_kind entry_kind es
one_more e es = sum_by-cons (λ (r : Row). cond (r.0.kind == entry_kind) 1 0) e es

-- records count fewer bytes than they need in a page
counted_needed : (es : Entries) → record_bytes es ≤ entries_need es
counted_needed [] = omega arith
counted_needed (e ∷ es) = omega (arith, counted_needed es)

-- those of a page count no more bytes than it has
pub fits_bytes : (size : ℕ) (es : Entries) → FitsPage size es → record_bytes es ≤ size
fits_bytes size es fits = omega (arith, fits.room, counted_needed es)

pub fits_queued : (size : ℕ) (es : Entries) → FitsPage size es → count_of_kind entry_kind es ≤ size
fits_queued size es fits = omega (arith, fits_bytes size es fits, count_within entry_kind es)

-- keys above one that comes are apart from the entries still
apart_next : (e : Row) (es entries : Entries) → AllByRecursion (λ y. key_cmp e.0 y ≡ Less) (keys_of es) → AreApart es entries → AreApart es (changed entries e.0 (Some e.1))
apart_next e [] entries above apart = tt
apart_next e (f ∷ es) entries above apart = (
  lookup_put key_total e.0 e.1 f.0 entries ∙ ap (λ (r : Ordering). cond (is_eq r) (Some e.1) (value_under entries f.0)) above.0 ∙ apart.0,
  apart_next e es entries above.1 apart.1,
)

joined_bytes : (es entries : Entries) → HasRisingKeys es → HasRisingKeys entries → AreApart es entries → record_bytes (joined entries es) ≡ record_bytes entries + record_bytes es
unfolding IsStrictlySortedBy
joined_bytes [] entries own rising apart = omega arith
joined_bytes (e ∷ es) entries own rising apart =
    omega (
      arith,
      joined_bytes es (changed entries e.0 (Some e.1)) own.1 (changed_rising entries e.0 (Some e.1) rising) (apart_next e es entries own.0 apart.1),
      put_grows entries e.0 e.1 rising,
      ap bytes_of apart.0,
    )

joined_counts : (es entries : Entries) → HasRisingKeys es → HasRisingKeys entries → AreApart es entries
    → count_of_kind entry_kind (joined entries es) ≡ count_of_kind entry_kind entries + count_of_kind entry_kind es
unfolding IsStrictlySortedBy
joined_counts [] entries own rising apart = omega arith
joined_counts (e ∷ es) entries own rising apart =
    omega (
      arith,
      joined_counts es (changed entries e.0 (Some e.1)) own.1 (changed_rising entries e.0 (Some e.1) rising) (apart_next e es entries own.0 apart.1),
      put_counts entry_kind entries e.0 e.1 rising,
      ap (one_of_kind entry_kind e.0) apart.0,
      one_more e es,
    )

gathered_push : (entries : Entries) (pages : List Entries) (es : Entries) → gathered entries (pages ++ es ∷ []) ≡ joined (gathered entries pages) es
gathered_push entries [] es = refl
gathered_push entries (page ∷ pages) es = gathered_push (joined entries page) pages es

-- one page more adds its own sums
pub sums_more : (pages : List Entries) (es : Entries) (sums next : Sums) → AreSums sums (gathered [] pages) → HasRisingKeys es → AreApart es (gathered [] pages)
    → next.bytes ≡ sums.bytes + record_bytes es → next.queued ≡ sums.queued + count_of_kind entry_kind es → AreSums next (gathered [] (pages ++ es ∷ []))
unfolding IsStrictlySortedBy
sums_more pages es sums next are own apart bytes queued =
    let rising = gathered_rising [] pages tt in
    subst (λ (l : Entries). AreSums next l) (sym (gathered_push [] pages es)) (record {
      bytes = omega (arith, bytes, are.bytes, joined_bytes es (gathered [] pages) own rising apart);
      queued = omega (arith, queued, are.queued, joined_counts es (gathered [] pages) own rising apart);
    })
