-- An image has one map, or one place or page at which it is bad, and never both: no header is of both layouts.
use Rattle.std.proofs.Common.{◌≡◌, inl, inr, ℕ, List, subst, arith}
use Rattle.ode_areas.specs.OneMap as of_areas
use Rattle.ode_gate.proofs.Counting.{one_counts}
use Rattle.ode_gate.specs.Headers.{IsOfAreas, IsOfPages}
use Rattle.ode_gate.specs.Slots.{Counts}
use Rattle.ode_gate.specs.declared.header.Header.{Header}
use Rattle.ode_gate.specs.declared.places.TheConstants.{PAGES, TWO_AREAS}
use Rattle.ode_journal.proofs.Histories.{one_bad}
use Rattle.ode_keep.specs.Entries.{Entries, HasRisingKeys}
use Rattle.ode_keeper.specs.Files.{FileMeans, HasMap, IsBadJournal, IsBadPage}
use Rattle.ode_paging.specs.Images.{IsPayload}
use Rattle.ode_paging.specs.OneMap as of_pages

one_layout : (n : ℕ) → n ≡ TWO_AREAS → n ≡ PAGES → ⊥
one_layout n first second = omega (arith, first, second)

-- Under one header.
module _ (header : Header) (image : List ℕ) where
  pub two_layouts : IsOfAreas header → IsOfPages header → ⊥
  two_layouts areas pages = one_layout header.layout areas.layout pages.layout

  pub one_has : (a b : Entries) → HasMap header image a → HasMap header image b → a ≡ b
  one_has a b (inl x) (inl y) = of_areas.one_has header image a b x.1 y.1
  one_has a b (inl x) (inr y) = absurd (two_layouts x.0 y.0)
  one_has a b (inr x) (inl y) = absurd (two_layouts y.0 x.0)
  one_has a b (inr x) (inr y) = of_pages.one_has header image a b x.1 y.1

  pub has_not_bad_journal : (entries : Entries) (at : ℕ) → HasMap header image entries → IsBadJournal header image at → ⊥
  has_not_bad_journal entries at (inl x) (inl y) = of_areas.never_both header image x.0 entries at x.1 y.1
  has_not_bad_journal entries at (inl x) (inr y) = two_layouts x.0 y.0
  has_not_bad_journal entries at (inr x) (inl y) = two_layouts y.0 x.0
  has_not_bad_journal entries at (inr x) (inr y) = of_pages.has_not_bad_journal header image entries at x.1 y.1

  pub has_not_bad_page : (entries : Entries) (page : ℕ) → HasMap header image entries → IsBadPage header image page → ⊥
  has_not_bad_page entries page (inl x) bad = two_layouts x.0 bad.0
  has_not_bad_page entries page (inr x) bad = of_pages.has_not_bad_page header image entries page x.1 bad.1

  pub page_not_bad_journal : (page at : ℕ) → IsBadPage header image page → IsBadJournal header image at → ⊥
  page_not_bad_journal page at bad (inl y) = two_layouts y.0 bad.0
  page_not_bad_journal page at bad (inr y) = of_pages.page_not_bad_journal header image page at bad.1 y.1

  pub one_bad_journal : (p q : ℕ) → IsBadJournal header image p → IsBadJournal header image q → p ≡ q
  one_bad_journal p q (inl x) (inl y) = of_areas.one_place header image p q x.1 y.1
  one_bad_journal p q (inl x) (inr y) = absurd (two_layouts x.0 y.0)
  one_bad_journal p q (inr x) (inl y) = absurd (two_layouts y.0 x.0)
  one_bad_journal p q (inr x) (inr y) = one_bad IsPayload header.journal_end image header.journal_at p q x.1 y.1

  pub one_bad_page : (p q : ℕ) → IsBadPage header image p → IsBadPage header image q → p ≡ q
  one_bad_page p q first second = of_pages.one_bad_page header image p q first.1 second.1

-- two headers that count in one image are one, so they are of one layout
pub never_two : (image : List ℕ) (g h : Header) → Counts image g → Counts image h → IsOfAreas g → IsOfPages h → ⊥
never_two image g h first second areas pages = two_layouts h image (subst IsOfAreas (one_counts image g h first second) areas) pages

-- an image stands for one map
pub one_map : (image : List ℕ) (entries others : Entries) → FileMeans image entries → FileMeans image others → entries ≡ others
one_map image entries others (inl a) (inl b) = of_areas.one_map image entries others a b
one_map image entries others (inl a) (inr b) = absurd (never_two image a.header b.header a.counts b.counts a.areas b.pages)
one_map image entries others (inr a) (inl b) = absurd (never_two image b.header a.header b.counts a.counts b.areas a.pages)
one_map image entries others (inr a) (inr b) = of_pages.one_map image entries others a b

-- the records that an image stands for rise
pub rising : (image : List ℕ) (entries : Entries) → FileMeans image entries → HasRisingKeys entries
rising image entries (inl a) = of_areas.rising image entries a
rising image entries (inr a) = of_pages.rising image entries a
