-- A file is opened to one thing alone.
use Rattle.std.proofs.Common.{◌≡◌, inl, inr, ℕ, List, Bool, Result, Ok, Err, sym, ap, subst, ◌∙◌}
use Rattle.std.specs.Prelude.{◌==◌}
use Rattle.ode_gate.specs.Readings.{Says}
use Rattle.ode_gate.specs.Slots.{Counts}
use Rattle.ode_gate.specs.declared.error.GateError.{GateError}
use Rattle.ode_gate.specs.declared.header.Header.{Header}
use Rattle.ode_gate.specs.declared.places.TheConstants.{FIRST_FORMAT}
use Rattle.ode_gate.proofs.Counting.{one_counts, says_counts, says_one}
use Rattle.ode_keep.specs.Entries.{Entries}
use Rattle.ode_keeper.specs.Files.{HasMap, IsBadJournal, IsBadPage}
use Rattle.ode_keeper.specs.OneMap.{has_not_bad_journal, has_not_bad_page, one_bad_journal, one_bad_page, one_has, page_not_bad_journal}
use Rattle.ode_language.specs.Languages.{ode}
use Rattle.ode_passes.specs.declared.cause.Cause.TheVariants as cause
use Rattle.ode_open.specs.Opening.{Found, HasBadPage, HasRecords, IsBroken, IsHeaderless, IsOpenedTo, found_of, gate_error}
use Rattle.ode_opening_records.specs.Reading.{AreOpened}
use Rattle.ode_opening_records.specs.declared.base.Base.{Base}
use Rattle.ode_passes.specs.Rules.{Ruled}
use Rattle.ode_value.specs.Language.{Language}
use Rattle.ode_open.specs.declared.error.OpenError.TheVariants.{BadFile}

-- records are opened to one thing
abbrev pub OpenedOnce : Type 0
OpenedOnce = (first : Bool) (l : Language) (entries : Entries) (opened other : Ruled Base) → AreOpened first l entries opened → AreOpened first l entries other → opened ≡ other

module _ (once : OpenedOnce) (image : List ℕ) where
  no_header : (e : GateError) (h : Header) → Says image (Err e) → Counts image h → ⊥
  no_header e h says counts = let same : Result.Err e ≡ Ok h = says_one image (Err e) (Ok h) says (says_counts image h counts) in cc (same)

  -- two headers that count are one
  same : (g h : Header) → Counts image g → Counts image h → g ≡ h
  same = one_counts image

  bad_and_map : (g h : Header) (at : ℕ) (entries : Entries) → Counts image g → Counts image h → IsBadJournal g image at → HasMap h image entries → ⊥
  bad_and_map g h at entries first second bad has =
      has_not_bad_journal h image entries at has (subst (λ (k : Header). IsBadJournal k image at) (same g h first second) bad)

  page_and_map : (g h : Header) (page : ℕ) (entries : Entries) → Counts image g → Counts image h → IsBadPage g image page → HasMap h image entries → ⊥
  page_and_map g h page entries first second bad has =
      has_not_bad_page h image entries page has (subst (λ (k : Header). IsBadPage k image page) (same g h first second) bad)

  page_and_journal : (g h : Header) (page at : ℕ) → Counts image g → Counts image h → IsBadPage g image page → IsBadJournal h image at → ⊥
  page_and_journal g h page at first second bad other =
      page_not_bad_journal h image page at (subst (λ (k : Header). IsBadPage k image page) (same g h first second) bad) other

  one_entries : (g h : Header) (es ds : Entries) → Counts image g → Counts image h → HasMap g image es → HasMap h image ds → es ≡ ds
  one_entries g h es ds first second one other = one_has h image es ds (subst (λ (k : Header). HasMap k image es) (same g h first second) one) other

  headerless_one : (a b : Found) → IsHeaderless image a → IsOpenedTo image b → a ≡ b
  headerless_one a b x (inl y) = x.is ∙ ap (λ (m : Result Header GateError). error_of m) (says_one image (Err x.error) (Err y.error) x.says y.says) ∙ sym y.is
    where
      error_of : Result Header GateError → Found
      error_of (Ok h) = a
      error_of (Err e) = Err (gate_error e)
  headerless_one a b x (inr (inl y)) = absurd (no_header x.error y.header x.says y.counts)
  headerless_one a b x (inr (inr (inl y))) = absurd (no_header x.error y.header x.says y.counts)
  headerless_one a b x (inr (inr (inr y))) = absurd (no_header x.error y.header x.says y.counts)

  broken_one : (a b : Found) → IsBroken image a → IsOpenedTo image b → a ≡ b
  broken_one a b x (inl y) = absurd (no_header y.error x.header y.says x.counts)
  broken_one a b x (inr (inl y)) =
      let at : x.at ≡ y.at = one_bad_journal y.header image x.at y.at (subst (λ (k : Header). IsBadJournal k image x.at) (same x.header y.header x.counts y.counts) x.bad) y.bad in
      x.is ∙ ap (λ (n : ℕ). Err (BadFile (cause.Journal n))) at ∙ sym y.is
  broken_one a b x (inr (inr (inl y))) = absurd (page_and_journal y.header x.header y.page x.at y.counts x.counts y.bad x.bad)
  broken_one a b x (inr (inr (inr y))) = absurd (bad_and_map x.header y.header x.at y.entries x.counts y.counts x.bad y.has)

  page_one : (a b : Found) → HasBadPage image a → IsOpenedTo image b → a ≡ b
  page_one a b x (inl y) = absurd (no_header y.error x.header y.says x.counts)
  page_one a b x (inr (inl y)) = absurd (page_and_journal x.header y.header x.page y.at x.counts y.counts x.bad y.bad)
  page_one a b x (inr (inr (inl y))) =
      let page : x.page ≡ y.page
      = one_bad_page y.header image x.page y.page (subst (λ (k : Header). IsBadPage k image x.page) (same x.header y.header x.counts y.counts) x.bad) y.bad in
      x.is ∙ ap (λ (n : ℕ). Err (BadFile (cause.Page n))) page ∙ sym y.is
  page_one a b x (inr (inr (inr y))) = absurd (page_and_map x.header y.header x.page y.entries x.counts y.counts x.bad y.has)

  records_one : (a b : Found) → HasRecords image a → IsOpenedTo image b → a ≡ b
  records_one a b x (inl y) = absurd (no_header y.error x.header y.says x.counts)
  records_one a b x (inr (inl y)) = absurd (bad_and_map y.header x.header y.at x.entries y.counts x.counts y.bad x.has)
  records_one a b x (inr (inr (inl y))) = absurd (page_and_map y.header x.header y.page x.entries y.counts x.counts y.bad x.has)
  records_one a b x (inr (inr (inr y))) =
      let here = subst (λ (es : Entries). AreOpened (x.header.format == FIRST_FORMAT) ode es x.opened) (one_entries x.header y.header x.entries y.entries x.counts y.counts x.has y.has) x.are in
      let there = subst (λ (h : Header). AreOpened (h.format == FIRST_FORMAT) ode y.entries x.opened) (same x.header y.header x.counts y.counts) here in
      x.is ∙ ap found_of (once (y.header.format == FIRST_FORMAT) ode y.entries x.opened y.opened there y.are) ∙ sym y.is

  pub one_opening : (a b : Found) → IsOpenedTo image a → IsOpenedTo image b → a ≡ b
  one_opening a b (inl x) y = headerless_one a b x y
  one_opening a b (inr (inl x)) y = broken_one a b x y
  one_opening a b (inr (inr (inl x))) y = page_one a b x y
  one_opening a b (inr (inr (inr x))) y = records_one a b x y
