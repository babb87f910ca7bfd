-- Records that are spelled one behind the other.
use Rattle.std.proofs.Common.{◌≡◌, ◌<◌, ℕ, ◌+◌, ◌^◌, suc, List, ◌∷◌, ◌++◌, length, drop, get_or, sym, ap, subst, ◌∙◌, append_assoc, arith}
use Rattle.std.proofs.Math.Seq.{drop-cons}
use Rattle.std.specs.List.{AllByRecursion}
use Rattle.ode_value.specs.Records.{Row, row_bytes, snapshot}
use Rattle.ode_keep.specs.Entries.{Entries}
use Rattle.ode_keep.specs.Snapshots.{FitsRow}

-- one record more
pub row_more : (rows : Entries) (i : ℕ) (r : Row) (s now new whole : List ℕ) → i < length rows → r ≡ get_or rows i r → s ≡ r.1 → (length s < 2 ^ 16 → new ≡ now ++ row_bytes (r.0, s))
    → AllByRecursion FitsRow (drop i rows) × (now ++ snapshot (drop i rows) ≡ whole) → AllByRecursion FitsRow (drop (i + 1) rows) × (new ++ snapshot (drop (i + 1) rows) ≡ whole)
row_more rows i r s now new whole lt here is put was =
    let next : suc i ≡ i + 1 = omega arith in
    let first : drop i rows ≡ r ∷ drop (i + 1) rows = drop-cons rows i r lt ∙ ap (λ (q : Row). q ∷ drop (suc i) rows) (sym here) ∙ ap (λ (n : ℕ). r ∷ drop n rows) next in
    let all : AllByRecursion FitsRow (r ∷ drop (i + 1) rows) = subst (λ (l : Entries). AllByRecursion FitsRow l) first was.0 in
    let long : length s ≡ length r.1 = ap (λ (l : List ℕ). length l) is in
    let grown : new ≡ now ++ row_bytes r = put (omega (arith, long, all.0.value)) ∙ ap (λ (l : List ℕ). now ++ row_bytes (r.0, l)) is in (
      all.1,
      ap (λ (l : List ℕ). l ++ snapshot (drop (i + 1) rows)) grown ∙ append_assoc now (row_bytes r) (snapshot (drop (i + 1) rows))
          ∙ ap (λ (l : Entries). now ++ snapshot l) (sym first) ∙ was.1,
    )
