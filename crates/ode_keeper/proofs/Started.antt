-- What the layout of a header says, and that the answer of a start is decided by the file.
use Rattle.std.proofs.Common.{◌≡◌, inl, inr, ⊎_elim, ℕ, List, Result, IfOk, IsErrOf, arith}
use Rattle.std.proofs.lemmas.Result.{IfOk-weaker}
use Rattle.ode_areas.specs.Image as areas_image
use Rattle.ode_gate.specs.Headers.{IsHeader, IsOfAreas, IsOfPages}
use Rattle.ode_gate.specs.declared.header.Header.{Header}
use Rattle.ode_gate.specs.declared.places.TheConstants.{PAGES, TWO_AREAS}
use Rattle.ode_keep.specs.Entries.{Entries}
use Rattle.ode_keeper.specs.Files.{HasMap, IsBadJournal, IsBadPage}
use Rattle.ode_keeper.specs.OneMap.{has_not_bad_journal, has_not_bad_page, one_bad_journal, one_bad_page, page_not_bad_journal, two_layouts}
use Rattle.ode_keep.specs.Starting.{Refuses, Starts}
use Rattle.ode_keep.proofs.Starting.{refuses_journal, refuses_page, starts}
use Rattle.ode_keep.specs.declared.error.StartError.{StartError}
use Rattle.ode_keep.specs.declared.error.StartError.TheVariants.{BadJournal, BadPage}
use Rattle.ode_keeper.specs.declared.keeper.Keeper.{Keeper}
use Rattle.ode_paging.specs.Meaning as pages_image

-- ---- the layout

one_layout : (n : ℕ) → n ≡ TWO_AREAS → n ≡ PAGES → ⊥
one_layout n first second = omega (arith, first, second)

pub are_areas : (h : Header) → IsHeader h → h.layout ≡ TWO_AREAS → IsOfAreas h
are_areas h rules is = ⊎_elim (λ (areas : IsOfAreas h). areas) (λ (pages : IsOfPages h). absurd (one_layout h.layout is pages.layout)) rules.layout

pub are_pages : (h : Header) → IsHeader h → (h.layout ≡ TWO_AREAS → ⊥) → IsOfPages h
are_pages h rules other = ⊎_elim (λ (areas : IsOfAreas h). absurd (other areas.layout)) (λ (pages : IsOfPages h). pages) rules.layout

-- under a header of areas the records are those of the areas
pub areas_map : (h : Header) (file : List ℕ) (entries : Entries) → IsOfAreas h → HasMap h file entries → areas_image.HasMap h file entries
areas_map h file entries areas (inl x) = x.1
areas_map h file entries areas (inr x) = absurd (two_layouts h file areas x.0)

-- and under one of pages those of the pages
pub pages_map : (h : Header) (file : List ℕ) (entries : Entries) → IsOfPages h → HasMap h file entries → pages_image.HasMap h file entries
pages_map h file entries pages (inl x) = absurd (two_layouts h file x.0 pages)
pages_map h file entries pages (inr x) = x.1

-- ---- the answer

-- What is true of the file is answered, where the answers are true and at most one of them can be.
module _ (header : Header) (file : List ℕ) where
  abbrev IsBadAt : ℕ → Type 0
  IsBadAt at = IsBadJournal header file at

  abbrev IsBadIn : ℕ → Type 0
  IsBadIn page = IsBadPage header file page

  module _ (r : Result Keeper StartError) (bad_at : (at : ℕ) → IsErrOf r (BadJournal at) → IsBadAt at) (bad_in : (page : ℕ) → IsErrOf r (BadPage page) → IsBadIn page) where
    pub exact_starts : (entries : Entries) → HasMap header file entries → Starts r
    exact_starts entries has =
        starts IsBadAt IsBadIn r bad_at bad_in (λ at is. has_not_bad_journal header file entries at has is) (λ page is. has_not_bad_page header file entries page has is)

    module _ (found : IfOk r (λ _. (entries : Entries) × HasMap header file entries)) where
      pub exact_journal : (at : ℕ) → IsBadAt at → Refuses r (BadJournal at)
      exact_journal at is =
          refuses_journal IsBadAt IsBadIn r bad_at bad_in (IfOk-weaker r _ _ (λ _ own. has_not_bad_journal header file own.0 at own.1 is) found) at
          (λ other also. one_bad_journal header file other at also is) (λ page also. page_not_bad_journal header file page at also is)

      pub exact_page : (page : ℕ) → IsBadIn page → Refuses r (BadPage page)
      exact_page page is =
          refuses_page IsBadAt IsBadIn r bad_at bad_in (IfOk-weaker r _ _ (λ _ own. has_not_bad_page header file own.0 page own.1 is) found) page
          (λ other also. one_bad_page header file other page also is) (λ at also. page_not_bad_journal header file page at is also)
