-- What the bytes of a header say of it.
use Rattle.std.proofs.Common.{◌≡◌, ◌<◌, ◌≤◌, ◌^◌, inl, inr, ⊎_elim, ℕ, ◌+◌, List, [], ◌++◌, length, take, drop, refl, sym, ◌∙◌, ap, arith, take-append-drop}
use Rattle.std.proofs.lemmas.List.{drop-drop, drop_all}
use Rattle.std.proofs.lemmas.Nat.{from_be_bytes-to_be_bytes_4, from_be_bytes-to_be_bytes_8}
use Rattle.std.specs.Prelude.{codes}
use Rattle.std.specs.Int.{w32, w64, to_be_bytes, from_be_bytes}
use Rattle.ode_gate.specs.declared.header.Header.{Header}
use Rattle.ode_gate.specs.Headers.{header_bytes, IsHeader, IsOfAreas, IsOfPages}
use Rattle.ode_gate.specs.declared.places.TheConstants.{PAGES_AT, AREAS_END, AREA_0, AREA_1, HEADER_LEN, REGION_0, REGION_1}

pub length-header_bytes : (h : Header) → length (header_bytes h) ≡ HEADER_LEN
unfolding header_bytes
length-header_bytes h = refl

-- the fields fit their types
pub record InRange (h : Header) : Type 0 where
  pub format : h.format < 2 ^ 32
  pub layout : h.layout < 2 ^ 32
  pub generation : h.generation < 2 ^ 64
  pub body_at : h.body_at < 2 ^ 64
  pub body_len : h.body_len < 2 ^ 64
  pub journal_at : h.journal_at < 2 ^ 64
  pub journal_end : h.journal_end < 2 ^ 64

areas_in_range : (h : Header) → IsHeader h → IsOfAreas h → InRange h
areas_in_range h rules areas =
    let starts : (h.body_at ≤ AREA_1) × (h.journal_end ≤ AREAS_END) = ⊎_elim
    (λ (a : (h.body_at ≡ AREA_0) × (h.journal_end ≡ AREA_1)). (omega (arith, a.0), omega (arith, a.1)))
    (λ (b : (h.body_at ≡ AREA_1) × (h.journal_end ≡ AREAS_END)). (omega (arith, b.0), omega (arith, b.1)))
    areas.area in
    record {
      format = omega (arith, areas.format);
      layout = omega (arith, areas.layout);
      generation = omega (arith, rules.generation);
      body_at = omega (arith, starts.0);
      body_len = omega (arith, starts.1, areas.journal, areas.room);
      journal_at = omega (arith, starts.1, areas.room);
      journal_end = omega (arith, starts.1);
    }

pages_in_range : (h : Header) → IsHeader h → IsOfPages h → InRange h
pages_in_range h rules pages =
    let ends : (h.journal_at ≤ REGION_1) × (h.journal_end ≤ PAGES_AT) = ⊎_elim
    (λ (a : (h.journal_at ≡ REGION_0) × (h.journal_end ≡ REGION_1)). (omega (arith, a.0), omega (arith, a.1)))
    (λ (b : (h.journal_at ≡ REGION_1) × (h.journal_end ≡ PAGES_AT)). (omega (arith, b.0), omega (arith, b.1)))
    pages.region in
    record {
      format = omega (arith, pages.format);
      layout = omega (arith, pages.layout);
      generation = omega (arith, rules.generation);
      body_at = omega (arith, pages.body);
      body_len = omega (arith, pages.pages);
      journal_at = omega (arith, ends.0);
      journal_end = omega (arith, ends.1);
    }

pub is_in_range : (h : Header) → IsHeader h → InRange h
is_in_range h rules = ⊎_elim (areas_in_range h rules) (pages_in_range h rules) rules.layout

same_32 : (m n : ℕ) → m < 2 ^ 32 → n < 2 ^ 32 → to_be_bytes w32 m ≡ to_be_bytes w32 n → m ≡ n
same_32 m n m_fits n_fits same = sym (from_be_bytes-to_be_bytes_4 m m_fits) ∙ ap (λ (l : List ℕ). from_be_bytes w32 l) same ∙ from_be_bytes-to_be_bytes_4 n n_fits

same_64 : (m n : ℕ) → m < 2 ^ 64 → n < 2 ^ 64 → to_be_bytes w64 m ≡ to_be_bytes w64 n → m ≡ n
same_64 m n m_fits n_fits same = sym (from_be_bytes-to_be_bytes_8 m m_fits) ∙ ap (λ (l : List ℕ). from_be_bytes w64 l) same ∙ from_be_bytes-to_be_bytes_8 n n_fits

-- one header alone has these bytes and this slot
pub same_header : (g h : Header) → InRange g → InRange h → header_bytes g ≡ header_bytes h → g.slot ≡ h.slot → g ≡ h
unfolding header_bytes
same_header g h g_fits h_fits same slot =
    let format = same_32 g.format h.format g_fits.format h_fits.format (ap (λ (l : List ℕ). take 4 (drop 8 l)) same) in
    let layout = same_32 g.layout h.layout g_fits.layout h_fits.layout (ap (λ (l : List ℕ). take 4 (drop 12 l)) same) in
    let generation = same_64 g.generation h.generation g_fits.generation h_fits.generation (ap (λ (l : List ℕ). take 8 (drop 16 l)) same) in
    let body_at = same_64 g.body_at h.body_at g_fits.body_at h_fits.body_at (ap (λ (l : List ℕ). take 8 (drop 24 l)) same) in
    let body_len = same_64 g.body_len h.body_len g_fits.body_len h_fits.body_len (ap (λ (l : List ℕ). take 8 (drop 32 l)) same) in
    let journal_at = same_64 g.journal_at h.journal_at g_fits.journal_at h_fits.journal_at (ap (λ (l : List ℕ). take 8 (drop 40 l)) same) in
    let journal_end = same_64 g.journal_end h.journal_end g_fits.journal_end h_fits.journal_end (ap (λ (l : List ℕ). take 8 (drop 48 l)) same) in
    ap (λ (n : ℕ). record g { format = n }) format
    ∙ ap (λ (n : ℕ). record g { format = h.format; layout = n }) layout
    ∙ ap (λ (n : ℕ). record g { format = h.format; layout = h.layout; generation = n }) generation
    ∙ ap (λ (n : ℕ). record h { body_at = n; body_len = g.body_len; journal_at = g.journal_at; journal_end = g.journal_end; slot = g.slot }) body_at
    ∙ ap (λ (n : ℕ). record h { body_len = n; journal_at = g.journal_at; journal_end = g.journal_end; slot = g.slot }) body_len
    ∙ ap (λ (n : ℕ). record h { journal_at = n; journal_end = g.journal_end; slot = g.slot }) journal_at
    ∙ ap (λ (n : ℕ). record h { journal_end = n; slot = g.slot }) journal_end
    ∙ ap (λ (n : ℕ). record h { slot = n }) slot

-- a header in another slot has the same bytes and keeps the same rules
pub moved_header : (h : Header) (slot : ℕ) → IsHeader h → IsHeader (record h { slot = slot }) × (header_bytes (record h { slot = slot }) ≡ header_bytes h)
unfolding header_bytes
moved_header h slot rules = (
  record {
    generation = rules.generation;
    layout = ⊎_elim
        (λ (a : IsOfAreas h). inl (record { format = a.format; layout = a.layout; area = a.area; journal = a.journal; room = a.room }))
        (λ (p : IsOfPages h). inr (record { format = p.format; layout = p.layout; region = p.region; body = p.body; pages = p.pages }))
        rules.layout;
  },
  refl,
)

-- a field, and what stands behind it
pub field_first : (bytes : List ℕ) (at n next : ℕ) (field : List ℕ) → next ≡ at + n → field ≡ take n (drop at bytes) → drop at bytes ≡ field ++ drop next bytes
field_first bytes at n next field is same =
    sym (take-append-drop n (drop at bytes)) ∙ ap (λ (l : List ℕ). l ++ drop n (drop at bytes)) (sym same)
    ∙ ap (λ (l : List ℕ). field ++ l) (drop-drop n at bytes ∙ ap (λ (k : ℕ). drop k bytes) (sym is))

-- fields that stand one after another are the header's bytes
pub fields_spell : (bytes : List ℕ) (h : Header) → length bytes ≡ 48
    → to_be_bytes w32 h.format ≡ take 4 bytes → to_be_bytes w32 h.layout ≡ take 4 (drop 4 bytes) → to_be_bytes w64 h.generation ≡ take 8 (drop 8 bytes)
    → to_be_bytes w64 h.body_at ≡ take 8 (drop 16 bytes) → to_be_bytes w64 h.body_len ≡ take 8 (drop 24 bytes)
    → to_be_bytes w64 h.journal_at ≡ take 8 (drop 32 bytes) → to_be_bytes w64 h.journal_end ≡ take 8 (drop 40 bytes)
    → codes "ODEBASE1" ++ bytes ≡ header_bytes h
unfolding header_bytes
fields_spell bytes h long format layout generation body_at body_len journal_at journal_end =
    let last : drop 48 bytes ≡ [] = drop_all 48 bytes (omega arith) in
    ap (λ (l : List ℕ). codes "ODEBASE1" ++ l)
    (field_first bytes 0 4 4 (to_be_bytes w32 h.format) refl format
    ∙ ap (λ (l : List ℕ). to_be_bytes w32 h.format ++ l) (field_first bytes 4 4 8 (to_be_bytes w32 h.layout) refl layout
    ∙ ap (λ (l : List ℕ). to_be_bytes w32 h.layout ++ l) (field_first bytes 8 8 16 (to_be_bytes w64 h.generation) refl generation
    ∙ ap (λ (l : List ℕ). to_be_bytes w64 h.generation ++ l) (field_first bytes 16 8 24 (to_be_bytes w64 h.body_at) refl body_at
    ∙ ap (λ (l : List ℕ). to_be_bytes w64 h.body_at ++ l) (field_first bytes 24 8 32 (to_be_bytes w64 h.body_len) refl body_len
    ∙ ap (λ (l : List ℕ). to_be_bytes w64 h.body_len ++ l) (field_first bytes 32 8 40 (to_be_bytes w64 h.journal_at) refl journal_at
    ∙ ap (λ (l : List ℕ). to_be_bytes w64 h.journal_at ++ l) (field_first bytes 40 8 48 (to_be_bytes w64 h.journal_end) refl journal_end
    ∙ ap (λ (l : List ℕ). to_be_bytes w64 h.journal_end ++ l) last)))))))
