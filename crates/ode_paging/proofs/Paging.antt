-- Pages that are read one after another.
use Rattle.std.proofs.Common.{◌≡◌, ◌<◌, ℕ, ◌+◌, List, [], ◌∷◌, ◌++◌, length, refl, sym, ap, subst, ◌∙◌, arith, length-append}
use Rattle.std.specs.Map.{keys_of}
use Rattle.ode_gate.specs.declared.header.Header.{Header}
use Rattle.ode_host.specs.Host.{Tells}
use Rattle.ode_host.specs.View.{View}
use Rattle.ode_value.specs.Keys.{entry_kind}
use Rattle.ode_keep.specs.Entries.{Entries, HasRisingKeys, count_of_kind, record_bytes}
use Rattle.ode_paging.specs.Gathering.{AreApart, HaveNewKeys, gathered, joined}
use Rattle.ode_paging.specs.Images.{Image}
use Rattle.ode_paging.specs.Indexing.{Leads, indexed, led}
use Rattle.ode_paging.specs.Pageful.{AreRead, StopsAt}
use Rattle.ode_paging.specs.Standing.{HasPage, HavePages}
use Rattle.ode_paging.specs.Summed.{AreSums}
use Rattle.ode_paging.specs.declared.sums.Sums.{Sums}
use Rattle.ode_paging.proofs.Indexed.{indexed_keys, same_apart}
use Rattle.ode_paging.proofs.Summing.{sums_more}

indexed_push : (page : ℕ) (leads : Leads) (pages : List Entries) (es : Entries) → indexed page leads (pages ++ es ∷ []) ≡ led (page + length pages) (indexed page leads pages) es
indexed_push page leads [] es = let here : page ≡ page + 0 = omega arith in ap (λ (k : ℕ). led k leads es) here
indexed_push page leads (e ∷ pages) es =
    let here : page + 1 + length pages ≡ page + length (e ∷ pages) = omega arith in
    indexed_push (page + 1) (led page leads e) pages es ∙ ap (λ (k : ℕ). led k (indexed (page + 1) (led page leads e) pages) es) here

new_push : (entries : Entries) (pages : List Entries) (es : Entries) → HaveNewKeys entries pages → AreApart es (gathered entries pages) → HaveNewKeys entries (pages ++ es ∷ [])
new_push entries [] es new apart = (apart, tt)
new_push entries (e ∷ pages) es new apart = (new.0, new_push (joined entries e) pages es new.1 apart)

module _ (header : Header) (images : List Image) (file : List ℕ) where
  pages_push : (page : ℕ) (pages : List Entries) (es : Entries) → HavePages header images file page pages → HasPage header images file (page + length pages) es → HavePages header images file page (pages ++ es ∷ [])
  pages_push page [] es have here = let same : page + 0 ≡ page = omega arith in (subst (λ (k : ℕ). HasPage header images file k es) same here, tt)
  pages_push page (e ∷ pages) es have here =
      let same : page + length (e ∷ pages) ≡ page + 1 + length pages = omega arith in
      (have.0, pages_push (page + 1) pages es have.1 (subst (λ (k : ℕ). HasPage header images file k es) same here))

pub read_none : (view : View) (header : Header) (images : List Image) (leads : Leads) (sums : Sums) → leads ≡ [] → AreSums sums [] → AreRead view header images 0 leads sums
read_none view header images leads sums none are = record { pages = []; many = refl; each = λ file tells. tt; apart = tt; leads_are = none; sums_are = are }

module _ (view : View) (header : Header) (images : List Image) (page : ℕ) (leads : Leads) (sums : Sums) (is : AreRead view header images page leads sums) where
  same_keys : keys_of leads ≡ keys_of (gathered [] is.pages)
  same_keys = ap (λ (l : Leads). keys_of l) is.leads_are ∙ indexed_keys 0 [] [] is.pages refl

  pub read_more : (es : Entries) (next : Leads) (after : Sums) → ((file : List ℕ) → Tells view file → HasPage header images file page es) → AreApart es leads → next ≡ led page leads es
      → HasRisingKeys es → after.bytes ≡ sums.bytes + record_bytes es → after.queued ≡ sums.queued + count_of_kind entry_kind es → AreRead view header images (page + 1) next after
  read_more es next after stands apart made rising bytes queued =
      let own = same_apart es leads (gathered [] is.pages) same_keys apart in
      let here : page ≡ 0 + length is.pages = omega (arith, is.many) in
      record {
        pages = is.pages ++ es ∷ [];
        many = omega (arith, is.many, length-append is.pages (es ∷ []));
        each = λ file tells. pages_push header images file 0 is.pages es (is.each file tells) (subst (λ (k : ℕ). HasPage header images file k es) here (stands file tells));
        apart = new_push [] is.pages es is.apart own;
        leads_are = made ∙ ap (λ (k : ℕ). led k leads es) here ∙ ap (λ (l : Leads). led (0 + length is.pages) l es) is.leads_are ∙ sym (indexed_push 0 [] is.pages es);
        sums_are = sums_more is.pages es sums after is.sums_are rising own bytes queued;
      }

  pub stops : (count : ℕ) → page < count → ((file : List ℕ) → Tells view file → (es : Entries) → HasPage header images file page es → AreApart es leads → ⊥)
      → StopsAt view header images count page
  stops count within bad = record {
    front = is.pages;
    place = is.many;
    within = within;
    each = is.each;
    apart = is.apart;
    bad = λ file tells es stands apart. bad file tells es stands (same_apart es (gathered [] is.pages) leads (sym same_keys) apart);
  }
