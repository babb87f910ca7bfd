-- Entries that are read from their bytes are those that were spelled.
use Rattle.std.proofs.Common.{◌≡◌, ◌<◌, ◌-◌, ℕ, zero, suc, List, [], ◌∷◌, ◌++◌, Option, Some, None, length, take, drop, replicate, refl, sym, ap, ◌∙◌, subst, arith, append_assoc}
use Rattle.std.proofs.lemmas.List.{append_cancel_left, take_at, drop_at}
use Rattle.std.proofs.lemmas.Nat.{from_be_bytes-to_be_bytes_2}
use Rattle.std.specs.Prelude.{slice_index, IsSomeAnd}
use Rattle.std.specs.Option.{IfNone, IfSome}
use Rattle.std.specs.Int.{w16, w64}
use Rattle.std.specs.List.{AllByRecursion}
use Rattle.ode_host.specs.Fields.{number_at}
use Rattle.ode_value.specs.Keys.{key}
use Rattle.ode_value.specs.Records.{Row, row_bytes, snapshot}
use Rattle.ode_keep.specs.Entries.{Entries}
use Rattle.ode_keep.specs.Snapshots.{FitsRow}
use Rattle.ode_keep.specs.declared.spelling.TheConstants.{KEY_LEN, ROW_HEAD}
use Rattle.ode_keep.proofs.Firsts.{key_first}
use Rattle.ode_pages.specs.Pages.{IsPage, room_in}
use Rattle.ode_pages.specs.Readings.{BeginsWith, behind_entry, entries_at, first_entry}
use Rattle.ode_pages.specs.declared.layout.TheConstants.{COUNT_LEN}

length_is : (r : Row) (rest : List ℕ) → FitsRow r → number_at w16 (row_bytes r ++ rest) KEY_LEN ≡ length r.1
length_is r rest fits = from_be_bytes-to_be_bytes_2 (length r.1) fits.value

first_is : (r : Row) (rest : List ℕ) → FitsRow r → first_entry (row_bytes r ++ rest) ≡ r
first_is r rest fits =
    let k : key (slice_index (row_bytes r ++ rest) 0) (number_at w64 (row_bytes r ++ rest) 1) (number_at w64 (row_bytes r ++ rest) 9) ≡ r.0 =
    key_first r.0 (drop KEY_LEN (row_bytes r ++ rest)) fits.key in
    let v : take (number_at w16 (row_bytes r ++ rest) KEY_LEN) (drop ROW_HEAD (row_bytes r ++ rest)) ≡ r.1 =
    ap (λ (n : ℕ). take n (drop ROW_HEAD (row_bytes r ++ rest))) (length_is r rest fits) ∙ take_at r.1 rest (length r.1) refl in
    λ i. (k i, v i)

behind_is : (r : Row) (rest : List ℕ) → FitsRow r → behind_entry (row_bytes r ++ rest) ≡ rest
behind_is r rest fits = ap (λ (n : ℕ). drop n (drop ROW_HEAD (row_bytes r ++ rest))) (length_is r rest fits) ∙ drop_at r.1 rest (length r.1) refl

entries_more : (n : ℕ) (bytes : List ℕ) (r : Row) (rest : List ℕ) → FitsRow r → bytes ≡ row_bytes r ++ rest → entries_at (suc n) bytes ≡ r ∷ entries_at n rest
unfolding entries_at
entries_more n bytes r rest fits is =
    ap (λ (l : List ℕ). first_entry l ∷ entries_at n (behind_entry l)) is
    ∙ ap (λ (e : Row). e ∷ entries_at n (behind_entry (row_bytes r ++ rest))) (first_is r rest fits)
    ∙ ap (λ (l : List ℕ). r ∷ entries_at n l) (behind_is r rest fits)

pub none_left : (left : ℕ) (bytes : List ℕ) → left ≡ 0 → entries_at left bytes ≡ []
unfolding entries_at
none_left left bytes none = ap (λ (n : ℕ). entries_at n bytes) none

pub entries_first : (es : Entries) (rest : List ℕ) → AllByRecursion FitsRow es → entries_at (length es) (snapshot es ++ rest) ≡ es
entries_first [] rest fits = none_left 0 rest refl
entries_first (e ∷ es) rest fits =
    entries_more (length es) (snapshot (e ∷ es) ++ rest) e (snapshot es ++ rest) fits.0 (append_assoc (row_bytes e) (snapshot es) rest)
    ∙ ap (λ (l : Entries). e ∷ l) (entries_first es rest fits.1)

-- the next entry, and those that are left behind it
pub begins_more : (left : ℕ) (bytes : List ℕ) (r : Row) (rest : List ℕ) → 0 < left → BeginsWith (entries_at left bytes) bytes → FitsRow r → bytes ≡ row_bytes r ++ rest
    → (entries_at left bytes ≡ r ∷ entries_at (left - 1) rest) × BeginsWith (entries_at (left - 1) rest) rest
begins_more zero bytes r rest some begins fits is = absurd (omega arith)
begins_more (suc n) bytes r rest some begins fits is =
    let more : entries_at (suc n) bytes ≡ r ∷ entries_at n rest = entries_more n bytes r rest fits is in
    let there : BeginsWith (r ∷ entries_at n rest) bytes = subst (λ (l : Entries). BeginsWith l bytes) more begins in
    let less : n ≡ suc n - 1 = omega arith in
    subst (λ (m : ℕ). (entries_at (suc n) bytes ≡ r ∷ entries_at m rest) × BeginsWith (entries_at m rest) rest) less (
      more,
      record {
        rest = there.rest;
        split = append_cancel_left (row_bytes r) rest (snapshot (entries_at n rest) ++ there.rest) (sym is ∙ there.split ∙ append_assoc (row_bytes r) (snapshot (entries_at n rest)) there.rest);
        rows = there.rows.1;
      },
    )

-- where entries are left, the bytes begin with one
pub begins_none : (left : ℕ) (bytes : List ℕ) → 0 < left → BeginsWith (entries_at left bytes) bytes → ((r : Row) (rest : List ℕ) → FitsRow r → bytes ≡ row_bytes r ++ rest → ⊥) → ⊥
unfolding entries_at
begins_none zero bytes some begins none = absurd (omega arith)
begins_none (suc n) bytes some begins none =
    none (first_entry bytes) (snapshot (entries_at n (behind_entry bytes)) ++ begins.rest) begins.rows.0
    (begins.split ∙ append_assoc (row_bytes (first_entry bytes)) (snapshot (entries_at n (behind_entry bytes))) begins.rest)

-- a page has its entries in it
pub page_entries : (size : ℕ) (es : Entries) (bytes : List ℕ) → IsPage size es bytes → entries_at (length es) (drop COUNT_LEN bytes) ≡ es
page_entries size es bytes is =
    ap (λ (l : List ℕ). entries_at (length es) (drop COUNT_LEN l)) is.spelled ∙ entries_first es (replicate (room_in size es) 0) is.fits.rows

-- and so many
pub page_count : (size : ℕ) (es : Entries) (bytes : List ℕ) → IsPage size es bytes → number_at w16 bytes 0 ≡ length es
page_count size es bytes is = ap (λ (l : List ℕ). number_at w16 l 0) is.spelled ∙ from_be_bytes-to_be_bytes_2 (length es) is.fits.few

-- the same bytes are the page of one list of entries
pub same_entries : (size : ℕ) (es fs : Entries) (bytes : List ℕ) → IsPage size es bytes → IsPage size fs bytes → es ≡ fs
same_entries size es fs bytes first second =
    sym (page_entries size es bytes first)
    ∙ ap (λ (n : ℕ). entries_at n (drop COUNT_LEN bytes)) (sym (page_count size es bytes first) ∙ page_count size fs bytes second)
    ∙ page_entries size fs bytes second

-- a page that is read of the bytes of entries has these
pub again : (size : ℕ) (es : Entries) (bytes : List ℕ) (found : Option Entries) → IsPage size es bytes → IfSome found (λ fs. IsPage size fs bytes)
    → IfNone found ((fs : Entries) → IsPage size fs bytes → ⊥) → IsSomeAnd found (λ fs. fs ≡ es)
again size es bytes None page some none = absurd (none es page)
again size es bytes (Some fs) page some none = same_entries size fs es bytes some page
