-- A header: its bytes and its rules.
use Rattle.std.specs.Prelude.{◌≡◌, ◌<◌, ◌≤◌, ◌⊎◌, ℕ, ◌+◌, ◌%◌, List, ◌++◌, codes}
use Rattle.std.specs.Int.{w32, w64, to_be_bytes}
use Rattle.ode_gate.specs.declared.header.Header.{Header}
use Rattle.ode_gate.specs.declared.places.TheConstants.{AREA_0, AREA_1, AREAS_END, FIRST_FORMAT, FORMAT, GENERATIONS, MAX_PAGES, PAGES, PAGES_AT, REGION_0, REGION_1, TWO_AREAS}

-- the bytes of a header
unfoldable pub header_bytes : Header → List ℕ
header_bytes h =
    codes "ODEBASE1" ++ to_be_bytes w32 h.format ++ to_be_bytes w32 h.layout ++ to_be_bytes w64 h.generation
    ++ to_be_bytes w64 h.body_at ++ to_be_bytes w64 h.body_len
    ++ to_be_bytes w64 h.journal_at ++ to_be_bytes w64 h.journal_end

-- one more, and 1 after the last
abbrev pub next_generation : ℕ → ℕ
next_generation n = n % GENERATIONS + 1

-- Layout 1, two areas, which the first format has: the body starts one of them, and the journal runs from behind it to the
-- area's end.
pub record IsOfAreas (h : Header) : Type 0 where
  pub format : h.format ≡ FIRST_FORMAT
  pub layout : h.layout ≡ TWO_AREAS
  pub area : ((h.body_at ≡ AREA_0) × (h.journal_end ≡ AREA_1)) ⊎ ((h.body_at ≡ AREA_1) × (h.journal_end ≡ AREAS_END))
  pub journal : h.journal_at ≡ h.body_at + h.body_len
  pub room : h.journal_at < h.journal_end

-- Layout 2, pages behind two regions, which each format has: the journal has one of the regions to itself.
pub record IsOfPages (h : Header) : Type 0 where
  pub format : (FIRST_FORMAT ≤ h.format) × (h.format ≤ FORMAT)
  pub layout : h.layout ≡ PAGES
  pub region : ((h.journal_at ≡ REGION_0) × (h.journal_end ≡ REGION_1)) ⊎ ((h.journal_at ≡ REGION_1) × (h.journal_end ≡ PAGES_AT))
  pub body : h.body_at ≡ PAGES_AT
  pub pages : h.body_len ≤ MAX_PAGES

-- the rules of a header
pub record IsHeader (h : Header) : Type 0 where
  pub generation : (1 ≤ h.generation) × (h.generation ≤ GENERATIONS)
  pub layout : IsOfAreas h ⊎ IsOfPages h
