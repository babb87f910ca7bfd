-- A header of pages, by equations alone.
use Rattle.std.specs.Prelude.{◌≡◌, ◌≤◌, nat_eq, cond}
use Rattle.ode_gate.specs.declared.header.Header.{Header}
use Rattle.ode_gate.specs.declared.places.TheConstants.{FIRST_FORMAT, FORMAT, MAX_PAGES, PAGES, PAGES_AT, REGION_0, REGION_1}

-- it has a known format, and counts pages, behind one of the two regions of a journal
pub record IsPaged (h : Header) : Type 0 where
  pub first : FIRST_FORMAT ≤ h.format
  pub last : h.format ≤ FORMAT
  pub layout : h.layout ≡ PAGES
  pub start : h.journal_at ≡ cond (nat_eq h.journal_end REGION_1) REGION_0 REGION_1
  pub end : h.journal_end ≡ cond (nat_eq h.journal_at REGION_0) REGION_1 PAGES_AT
  pub body : h.body_at ≡ PAGES_AT
  pub pages : h.body_len ≤ MAX_PAGES
