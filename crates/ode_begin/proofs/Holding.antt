-- What an image holds, by its format.
use Rattle.std.proofs.Common.{◌≡◌, ◌∙◌, ◌<◌, ◌≤◌, ⊎_elim, inl, inr, ℕ, List, Bool, true, false, Some, ap, refl, sym, subst, arith}
use Rattle.std.proofs.lemmas.Bool.{cases_lt}
use Rattle.std.proofs.lemmas.Bool.Decides.{nat_tests}
use Rattle.std.specs.Prelude.{◌==◌}
use Rattle.ode_codec.specs.Standing.{HoldsWorld}
use Rattle.ode_cutting.specs.Cutting.{FitFrame}
use Rattle.ode_ends.proofs.RecordLaws.{records_weigh}
use Rattle.ode_ends.specs.Resting.{DiskHas}
use Rattle.ode_file_laws.specs.Fitting.{FitsFile, FitsFirst}
use Rattle.ode_gate.proofs.Counting.{one_counts}
use Rattle.ode_gate.specs.Headers.{IsOfAreas, IsOfPages}
use Rattle.ode_gate.specs.declared.header.Header.{Header}
use Rattle.ode_gate.specs.declared.places.TheConstants.{FIRST_FORMAT, FORMAT}
use Rattle.ode_host.proofs.Moments.{stands_looks}
use Rattle.ode_host.specs.Host.{Looks, Stands, Tells}
use Rattle.ode_host.specs.View.{View}
use Rattle.ode_keep.specs.Entries.{Entries}
use Rattle.ode_keeper.specs.Files.{FileMeans}
use Rattle.ode_language.specs.Languages.{ode}
use Rattle.ode_migrate.specs.Migrating.{IsMigratedTo, LeavesRecords}
use Rattle.ode_open.specs.Opening.{HasFormat}
use Rattle.ode_paging.specs.Meaning.{PagesMeanIn}
use Rattle.ode_value.specs.Language.{ListWorld}
use Rattle.ode_begin.specs.Holds.{Holds, HoldsInPages, IsOfFirst}
use Rattle.ode_begin.specs.Opening.{StandsInFirst}
use Rattle.ode_begin.specs.Stops.{StaysIn}

two_formats : (n : ℕ) → n ≡ FIRST_FORMAT → n ≡ FORMAT → ⊥
two_formats n first last = omega (arith, first, last)

-- a host tells one file
pub tells_one : (view : View) (file other : List ℕ) → Tells view file → Tells view other → file ≡ other
tells_one view file other first second = let both : Some file ≡ Some other = sym first.image ∙ second.image in cc (both)

-- ---- the last format

-- its pages hold the world
pub pages_hold : (image : List ℕ) (w : ListWorld) → HoldsInPages image w → Holds image w
pages_hold image w last = record {
  held = record { entries = last.entries; are = inr last.are.means; world = last.world; ones = last.ones };
  format = λ header counts first.
      let same : header ≡ last.are.means.header = one_counts image header last.are.means.header counts last.are.means.counts in
      absurd (two_formats header.format first (ap (λ (h : Header). h.format) same ∙ last.are.is));
}

-- a file of that format has pages
pub last_means : (image : List ℕ) (entries : Entries) → FileMeans image entries → HasFormat image FORMAT → PagesMeanIn FORMAT image entries
last_means image entries (inl areas) has =
    let same : areas.header ≡ has.header = one_counts image areas.header has.header areas.counts has.counts in
    absurd (two_formats areas.header.format areas.areas.format (ap (λ (h : Header). h.format) same ∙ sym has.is))
last_means image entries (inr pages) has =
    let same : pages.header ≡ has.header = one_counts image pages.header has.header pages.counts has.counts in
    record { means = pages; is = ap (λ (h : Header). h.format) same ∙ sym has.is }

pub as_format : (image : List ℕ) (format wanted : ℕ) → HasFormat image format → format ≡ wanted → HasFormat image wanted
as_format image format wanted has is = subst (HasFormat image) is has

pub last_holds : (image : List ℕ) (w : ListWorld) → Holds image w → HasFormat image FORMAT → HoldsInPages image w
last_holds image w holds has = record {
  entries = holds.held.entries;
  are = last_means image holds.held.entries holds.held.are has;
  world = holds.held.world;
  ones = holds.held.ones;
}

-- ---- the first format

first_alone : (n : ℕ) → FIRST_FORMAT ≤ n → n ≤ FORMAT → (n ≡ FORMAT → ⊥) → n ≡ FIRST_FORMAT
first_alone n low high other =
    ⊎_elim (λ (below : n < FORMAT). omega (arith, low, below)) (λ (above : FORMAT ≤ n). absurd (other (omega (arith, above, high)))) (cases_lt n FORMAT)

-- a header that counts has one of the two
pub other_first : (image : List ℕ) (format : ℕ) (has : HasFormat image format) → (format ≡ FORMAT → ⊥) → has.header.format ≡ FIRST_FORMAT
other_first image format has other = ⊎_elim
    (λ (areas : IsOfAreas has.header). areas.format)
    (λ (pages : IsOfPages has.header). first_alone has.header.format pages.format.0 pages.format.1 (λ is. other (has.is ∙ is)))
    has.counts.leads.holds.rules.layout

abbrev pub in_first : (image : List ℕ) (format : ℕ) (w : ListWorld) (view : View) → Holds image w → HasFormat image format → (format ≡ FORMAT → ⊥) → Stands image view → StandsInFirst w view
in_first image format w view holds has other stands =
    record { image = image; stands = stands; held = holds.held; first = holds.format has.header has.counts (other_first image format has other) }

-- a frame of pages has room for its records
pub fit_frame : (entries : Entries) (w : ListWorld) → HoldsWorld ode entries w → IsOfFirst entries w → FitFrame entries
fit_frame entries w world first = record { each = first.room; within = omega (arith, records_weigh ode entries w world, first.light) }

-- ---- on the way from one to the other

-- each image of the records of a world of the first format holds it
pub first_stays : (w : ListWorld) (text : List ℕ) (old : View) (first : StandsInFirst w old) → old.text ≡ Some text
    → (c o : List ℕ) → LeavesRecords first.held.entries old c o → StaysIn w first.held.entries text c o
first_stays w text old first said c o left =
    let both : Some o ≡ Some text = sym left.text ∙ said in (
      (
        record {
          held = record { entries = first.held.entries; are = left.means; world = first.held.world; ones = first.held.ones };
          format = λ header counts is. first.first;
        },
        cc (both),
      ),
      left.means,
    )

-- and then its pages hold it
pub migrated_holds : (w : ListWorld) (view : View) (first : StandsInFirst w view) (now : View) (to : IsMigratedTo first.held.entries now) → HoldsInPages to.image w
migrated_holds w view first now to = record { entries = first.held.entries; are = to.migrated; world = first.held.world; ones = first.held.ones }

-- while they stand a stop leaves them
pub pages_stay : (entries : Entries) (old view : View) (to : IsMigratedTo entries view) → view.text ≡ old.text
    → ((c o : List ℕ) → view.left view.moment c o → view.text ≡ Some o) → (c o : List ℕ) → view.left view.moment c o → LeavesRecords entries old c o
pages_stay entries old view to same text_stands c o left = record {
  means = subst (λ (file : List ℕ). FileMeans file entries) (sym (to.stands.only c o left)) (inr to.migrated.means);
  text = sym same ∙ text_stands c o left;
}

-- and they still do behind calls that only looked
pub migrated_disk : (entries : Entries) (old new : View) → Looks old new → IsMigratedTo entries old → DiskHas (PagesMeanIn FORMAT) entries new
migrated_disk entries old new looks to = (to.image, stands_looks to.image old new looks to.stands, to.migrated)

-- ---- what fits the file

same_format : (n : ℕ) → (n == FIRST_FORMAT) ≡ true → n ≡ FIRST_FORMAT
same_format n is = grind (arith, nat_tests)

module _ (image : List ℕ) (w : ListWorld) (holds : Holds image w) where
  pub fits_file : FitsFile image w.bones
  fits_file header counts = by (header.format == FIRST_FORMAT) refl
    where
      by : (first : Bool) → (header.format == FIRST_FORMAT) ≡ first → FitsFirst first w.bones
      by true is = let first = holds.format header counts (same_format header.format is) in (first.none, first.light)
      by false is = tt
