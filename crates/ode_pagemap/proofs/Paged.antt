-- A header of pages, by equations and by cases.
use Rattle.std.proofs.Common.{◌≡◌, ⊎_elim, inl, inr, ℕ, Bool, true, false, cond, nat_eq, refl, sym, ap, ◌∙◌}
use Rattle.std.specs.Prelude.{◌⊎◌}
use Rattle.ode_gate.specs.Headers.{IsOfPages}
use Rattle.ode_gate.specs.declared.header.Header.{Header}
use Rattle.ode_gate.specs.declared.places.TheConstants.{PAGES_AT, REGION_0, REGION_1}
use Rattle.ode_pagemap.specs.Paged.{IsPaged}

abbrev InRegion : ℕ → ℕ → Type 0
InRegion at end = ((at ≡ REGION_0) × (end ≡ REGION_1)) ⊎ ((at ≡ REGION_1) × (end ≡ PAGES_AT))

region_at : (at end : ℕ) (b : Bool) → nat_eq end REGION_1 ≡ b → at ≡ cond b REGION_0 REGION_1 → end ≡ cond (nat_eq at REGION_0) REGION_1 PAGES_AT → InRegion at end
region_at at end true is start ends = inl (start, ends ∙ ap (λ (n : ℕ). cond (nat_eq n REGION_0) REGION_1 PAGES_AT) start)
region_at at end false is start ends = inr (start, ends ∙ ap (λ (n : ℕ). cond (nat_eq n REGION_0) REGION_1 PAGES_AT) start)

pub of_pages : (h : Header) → IsPaged h → IsOfPages h
of_pages h is = record {
  format = (is.first, is.last);
  layout = is.layout;
  region = region_at h.journal_at h.journal_end (nat_eq h.journal_end REGION_1) refl is.start is.end;
  body = is.body;
  pages = is.pages;
}

pub paged : (h : Header) → IsOfPages h → IsPaged h
paged h is = record {
  first = is.format.0;
  last = is.format.1;
  layout = is.layout;
  start = ⊎_elim
      (λ first. first.0 ∙ sym (ap (λ (n : ℕ). cond (nat_eq n REGION_1) REGION_0 REGION_1) first.1))
      (λ other. other.0 ∙ sym (ap (λ (n : ℕ). cond (nat_eq n REGION_1) REGION_0 REGION_1) other.1))
      is.region;
  end = ⊎_elim
      (λ first. first.1 ∙ sym (ap (λ (n : ℕ). cond (nat_eq n REGION_0) REGION_1 PAGES_AT) first.0))
      (λ other. other.1 ∙ sym (ap (λ (n : ℕ). cond (nat_eq n REGION_0) REGION_1 PAGES_AT) other.0))
      is.region;
  body = is.body;
  pages = is.pages;
}
