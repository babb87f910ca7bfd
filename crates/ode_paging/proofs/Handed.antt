-- What a change of a page in hand makes of the pages.
use Rattle.std.proofs.Common.{◌≡◌, ◌<◌, ◌≤◌, max, ℕ, zero, suc, ◌+◌, List, [], ◌∷◌, Bool, true, false, cond, length, Option, Some, None, refl, sym, ap, subst, ◌∙◌, arith}
use Rattle.std.specs.Prelude.{IsSome}
use Rattle.std.specs.BTreeMap.{insert_entry, is_at}
use Rattle.std.specs.Cmp.{Equal-is}
use Rattle.std.specs.Map.{set_value}
use Rattle.std.specs.Option.{unwrap_or}
use Rattle.std.specs.Ordering.{eq_by_cmp, is_eq, match_ordering, nat_cmp}
use Rattle.std.specs.declared.cmp.Ordering.{Ordering}
use Rattle.std.specs.declared.cmp.Ordering.TheVariants.{Less, Equal, Greater}
use Rattle.std.proofs.lemmas.Cmp.{eq_by_cmp_equiv, nat_cmp_total, tied_itself}
use Rattle.std.proofs.lemmas.Map.{length-set_value, lookup-set_value}
use Rattle.std.proofs.lemmas.Map.Lookups.{exact_unsigned}
use Rattle.ode_gate.specs.declared.header.Header.{Header}
use Rattle.ode_keep.specs.Entries.{Entries}
use Rattle.ode_keep.proofs.Maps.{lookup_put}
use Rattle.ode_paging.specs.Hands.{AreCovered, entries_of}
use Rattle.ode_paging.specs.Images.{Image}
use Rattle.ode_paging.specs.Replacing.{page_at, with_page}
use Rattle.ode_paging.specs.Standing.{HasPage, HavePages}

here : (pages : List Entries) (page : ℕ) (es : Entries) → page ≤ length pages → page_at (with_page pages page es) page ≡ es
here [] zero es within = refl
here [] (suc page) es within = absurd (omega (arith, within))
here (p ∷ pages) zero es within = refl
here (p ∷ pages) (suc page) es within = here pages page es (omega (arith, within))

elsewhere : (pages : List Entries) (page : ℕ) (es : Entries) (n : ℕ) → page ≤ length pages → (n ≡ page → ⊥) → page_at (with_page pages page es) n ≡ page_at pages n
elsewhere [] zero es zero within apart = absurd (apart refl)
elsewhere [] zero es (suc n) within apart = refl
elsewhere [] (suc page) es n within apart = absurd (omega (arith, within))
elsewhere (p ∷ pages) zero es zero within apart = absurd (apart refl)
elsewhere (p ∷ pages) zero es (suc n) within apart = refl
elsewhere (p ∷ pages) (suc page) es zero within apart = refl
elsewhere (p ∷ pages) (suc page) es (suc n) within apart =
    elsewhere pages page es n (omega (arith, within)) (λ (same : n ≡ page). apart (ap suc same))

pub length-with_page : (pages : List Entries) (page : ℕ) (es : Entries) → page ≤ length pages → length (with_page pages page es) ≡ max (length pages) (page + 1)
length-with_page [] page es within = omega (arith, within)
length-with_page (p ∷ pages) zero es within = omega arith
length-with_page (p ∷ pages) (suc page) es within = omega (arith, length-with_page pages page es (omega (arith, within)))

same_page : (page n : ℕ) → is_at (nat_cmp page) n ≡ true → page ≡ n
same_page page n h = exact_unsigned page n ((Equal-is (nat_cmp page n)).0 h)

itself : (page : ℕ) → is_at (nat_cmp page) page ≡ true
itself page = ap is_eq (tied_itself nat_cmp_total page)

one_page : (page x y : ℕ) → is_at (nat_cmp page) x ≡ true → is_at (nat_cmp page) y ≡ eq_by_cmp nat_cmp x y
one_page page x y h = ap (λ (z : ℕ). is_at (nat_cmp z) y) (same_page page x h)

-- in hand this page has these entries now, and the others are as they were
abbrev pub TakesOne : List (ℕ × Entries) → List (ℕ × Entries) → ℕ → Entries → Type 0
TakesOne old new page es = (n : ℕ) → entries_of new n ≡ cond (is_at (nat_cmp page) n) (Some es) (entries_of old n)

pub inserted : (old new : List (ℕ × Entries)) (page : ℕ) (es : Entries) → new ≡ insert_entry nat_cmp old page es → TakesOne old new page es
inserted old new page es made n = ap (λ (l : List (ℕ × Entries)). entries_of l n) made ∙ lookup_put nat_cmp_total page es n old

pub written : (old new : List (ℕ × Entries)) (page : ℕ) (es was : Entries) → Some was ≡ entries_of old page → new ≡ set_value (is_at (nat_cmp page)) old es → TakesOne old new page es
written old new page es was found made n =
    ap (λ (l : List (ℕ × Entries)). entries_of l n) made
    ∙ lookup-set_value (eq_by_cmp_equiv nat_cmp_total) (is_at (nat_cmp page)) (one_page page) n es old (subst (λ (o : Option Entries). IsSome o) found refl)

module _ (old new : List (ℕ × Entries)) (count next : ℕ) (pages now : List Entries) (page : ℕ) (es : Entries)
    (covers : AreCovered old count pages now) (within : page ≤ length now) (one : TakesOne old new page es) where
  each_at : (n : ℕ) (b : Bool) → is_at (nat_cmp page) n ≡ b → page_at (with_page now page es) n ≡ unwrap_or (cond b (Some es) (entries_of old n)) (page_at pages n)
  each_at n true is = ap (λ (m : ℕ). page_at (with_page now page es) m) (sym (same_page page n is)) ∙ here now page es within
  each_at n false is =
      elsewhere now page es n within (λ (same : n ≡ page). let there = ap (λ (m : ℕ). is_at (nat_cmp page) m) same ∙ itself page in cc (is, there))
      ∙ covers.each n

  some_at : (n : ℕ) (b : Bool) → IsSome (entries_of old n) → IsSome (cond b (Some es) (entries_of old n))
  some_at n true some = refl
  some_at n false some = some

  new_at : (n : ℕ) → (b : Bool) → is_at (nat_cmp page) n ≡ b → length pages ≤ n → n < length (with_page now page es) → IsSome (cond b (Some es) (entries_of old n))
  new_at n true is from below = refl
  new_at n false is from below =
      let apart : n ≡ page → ⊥ = λ same. let there = ap (λ (m : ℕ). is_at (nat_cmp page) m) same ∙ itself page in cc (is, there) in
      covers.new n from (omega (arith, below, length-with_page now page es within, apart, covers.many, within))

  within_at : (n : ℕ) (b : Bool) → is_at (nat_cmp page) n ≡ b → IsSome (cond b (Some es) (entries_of old n)) → n < length (with_page now page es)
  within_at n true is some = omega (arith, same_page page n is, length-with_page now page es within)
  within_at n false is some = omega (arith, covers.within n some, length-with_page now page es within)

  pub covered : next ≡ max count (page + 1) → AreCovered new next pages (with_page now page es)
  covered many = record {
    each = λ n. each_at n (is_at (nat_cmp page) n) refl ∙ ap (λ (o : Option Entries). unwrap_or o (page_at pages n)) (sym (one n));
    many = omega (arith, many, covers.many, length-with_page now page es within);
    grown = omega (arith, covers.grown, length-with_page now page es within);
    new = λ n from below. subst (λ (o : Option Entries). IsSome o) (sym (one n)) (new_at n (is_at (nat_cmp page) n) refl from below);
    within = λ n some. within_at n (is_at (nat_cmp page) n) refl (subst (λ (o : Option Entries). IsSome o) (one n) some);
  }

-- a page in hand is the one that there is now
pub in_hand : (hand : List (ℕ × Entries)) (count : ℕ) (pages now : List Entries) (page : ℕ) (es : Entries) → AreCovered hand count pages now → Some es ≡ entries_of hand page
    → (page < length now) × (page_at now page ≡ es)
in_hand hand count pages now page es covers found = (
  covers.within page (subst (λ (o : Option Entries). IsSome o) found refl),
  covers.each page ∙ ap (λ (o : Option Entries). unwrap_or o (page_at pages page)) (sym found),
)

there_at : (x : Option Entries) (es now : Entries) → now ≡ unwrap_or x es → IsSome x → Some now ≡ x
there_at None es now is some = absurd (cc (some))
there_at (Some x) es now is some = ap (λ (e : Entries). Some e) is

pub page_in_hand : (hand : List (ℕ × Entries)) (count : ℕ) (pages now : List Entries) (page : ℕ) → AreCovered hand count pages now → IsSome (entries_of hand page)
    → Some (page_at now page) ≡ entries_of hand page
page_in_hand hand count pages now page covers some = there_at (entries_of hand page) (page_at pages page) (page_at now page) (covers.each page) some

-- of a page in hand one value changes
pub changed_hand : (old new : List (ℕ × Entries)) (count next : ℕ) (pages now : List Entries) (page : ℕ) (was es : Entries) → (f : Entries → Entries)
    → AreCovered old count pages now → Some was ≡ entries_of old page → es ≡ f was → new ≡ set_value (is_at (nat_cmp page)) old es → next ≡ count
    → (page ≤ length now) × AreCovered new next pages (with_page now page (f (page_at now page)))
changed_hand old new count next pages now page was es f covers found made is same =
    let known = in_hand old count pages now page was covers found in
    let within : page ≤ length now = omega (arith, known.0) in
    let entries : es ≡ f (page_at now page) = made ∙ ap f (sym known.1) in
    let many : next ≡ max count (page + 1) = omega (arith, same, covers.many, known.0) in
    (within, subst (λ (x : Entries). AreCovered new next pages (with_page now page x)) entries (covered old new count next pages now page es covers within (written old new page es was found is) many))

-- nothing of it changes
pub same_hand : (old new : List (ℕ × Entries)) (count next : ℕ) (pages now : List Entries) → AreCovered old count pages now → new ≡ old → next ≡ count → AreCovered new next pages now
same_hand old new count next pages now covers same many =
    subst (λ (l : List (ℕ × Entries)). AreCovered l next pages now) (sym same) (subst (λ (n : ℕ). AreCovered old n pages now) (sym many) covers)

-- The page of a file that isn't in hand is the one that there is now.
not_there : (page : ℕ) (found : Option Entries) → found ≡ None → IsSome found → ⊥
not_there page None none some = cc (some)
not_there page (Some es) none some = cc (none)

pub not_in_hand : (hand : List (ℕ × Entries)) (count : ℕ) (pages now : List Entries) (page : ℕ) → AreCovered hand count pages now → entries_of hand page ≡ None → page < length now
    → (page < length pages) × (page_at now page ≡ page_at pages page)
not_in_hand hand count pages now page covers none within = (
  omega (arith, λ (from : length pages ≤ page). not_there page (entries_of hand page) none (covers.new page from within)),
  covers.each page ∙ ap (λ (o : Option Entries). unwrap_or o (page_at pages page)) none,
)

same_pages : (pages : List Entries) (page : ℕ) → page < length pages → with_page pages page (page_at pages page) ≡ pages
same_pages [] page within = absurd (omega (arith, within))
same_pages (p ∷ pages) zero within = refl
same_pages (p ∷ pages) (suc page) within = ap (λ (l : List Entries). p ∷ l) (same_pages pages page (omega (arith, within)))

beyond : (pages : List Entries) (page : ℕ) → page ≡ length pages → page_at pages page ≡ []
beyond [] page is = refl
beyond (p ∷ pages) zero is = absurd (omega (arith, is))
beyond (p ∷ pages) (suc page) is = beyond pages page (omega (arith, is))

module _ (old new : List (ℕ × Entries)) (count next : ℕ) (pages now : List Entries) (page : ℕ) (covers : AreCovered old count pages now) (many : next ≡ max count (page + 1)) where
  -- a page of the file comes in hand
  pub brought : entries_of old page ≡ None → page < length now → new ≡ insert_entry nat_cmp old page (page_at pages page) → AreCovered new next pages now
  brought none within made =
      let same : with_page now page (page_at pages page) ≡ now =
      ap (λ (es : Entries). with_page now page es) (sym (not_in_hand old count pages now page covers none within).1) ∙ same_pages now page within in
      subst (λ (l : List Entries). AreCovered new next pages l) same
      (covered old new count next pages now page (page_at pages page) covers (omega (arith, within)) (inserted old new page (page_at pages page) made) many)

  -- a changed page of the file comes in hand
  pub brought_changed : (f : Entries → Entries) (es : Entries) → entries_of old page ≡ None → page < length now → es ≡ f (page_at pages page) → new ≡ insert_entry nat_cmp old page es
      → AreCovered new next pages (with_page now page (f (page_at now page)))
  brought_changed f es none within made is =
      let entries : es ≡ f (page_at now page) = made ∙ ap f (sym (not_in_hand old count pages now page covers none within).1) in
      subst (λ (x : Entries). AreCovered new next pages (with_page now page x)) entries
      (covered old new count next pages now page es covers (omega (arith, within)) (inserted old new page es is) many)

  -- a new page
  pub new_page : (f : Entries → Entries) (es : Entries) → page ≡ length now → es ≡ f [] → new ≡ insert_entry nat_cmp old page es
      → AreCovered new next pages (with_page now page (f (page_at now page)))
  new_page f es last made is =
      let entries : es ≡ f (page_at now page) = made ∙ ap f (sym (beyond now page last)) in
      subst (λ (x : Entries). AreCovered new next pages (with_page now page x)) entries
      (covered old new count next pages now page es covers (omega (arith, last)) (inserted old new page es is) many)

-- with none in hand
pub none_in_hand : (count : ℕ) (pages : List Entries) → count ≡ length pages → AreCovered [] count pages pages
none_in_hand count pages many = record {
  each = λ page. refl;
  many = many;
  grown = omega arith;
  new = λ page from below. absurd (omega (arith, from, below));
  within = λ page some. absurd (cc (some));
}

-- of pages one behind the other each stands
module _ (header : Header) (images : List Image) (file : List ℕ) where
  stands_from : (first : ℕ) (pages : List Entries) (page : ℕ) → HavePages header images file first pages → page < length pages → HasPage header images file (first + page) (page_at pages page)
  stands_from first [] page have within = absurd (omega (arith, within))
  stands_from first (es ∷ pages) zero have within =
      let same : first ≡ first + 0 = omega arith in subst (λ (n : ℕ). HasPage header images file n es) same have.0
  stands_from first (es ∷ pages) (suc page) have within =
      let same : first + 1 + page ≡ first + suc page = omega arith in
      subst (λ (n : ℕ). HasPage header images file n (page_at pages page)) same (stands_from (first + 1) pages page have.1 (omega (arith, within)))

  pub page_stands : (pages : List Entries) (page : ℕ) → HavePages header images file 0 pages → page < length pages → HasPage header images file page (page_at pages page)
  page_stands pages page have within =
      let same : 0 + page ≡ page = omega arith in
      subst (λ (n : ℕ). HasPage header images file n (page_at pages page)) same (stands_from 0 pages page have within)

-- a page that comes in hand is there
pub one_there : (old new : List (ℕ × Entries)) (page : ℕ) (es : Entries) → new ≡ insert_entry nat_cmp old page es → IsSome (entries_of new page)
one_there old new page es made =
    subst (λ (o : Option Entries). IsSome o)
    (sym (inserted old new page es made page ∙ ap (λ (b : Bool). cond b (Some es) (entries_of old page)) (itself page))) refl

-- At most one more is in hand.
few_at : (page : ℕ) (es : Entries) (h : ℕ × Entries) (hand rest : List (ℕ × Entries)) → length rest ≤ length hand + 1 → (r : Ordering)
    → length (match_ordering r ((page, es) ∷ h ∷ hand) ((h.0, es) ∷ hand) (h ∷ rest)) ≤ length (h ∷ hand) + 1
few_at page es h hand rest more Less = omega arith
few_at page es h hand rest more Equal = omega arith
few_at page es h hand rest more Greater = omega (arith, more)

pub inserted_few : (hand : List (ℕ × Entries)) (page : ℕ) (es : Entries) → length (insert_entry nat_cmp hand page es) ≤ length hand + 1
inserted_few [] page es = omega arith
inserted_few (h ∷ hand) page es = few_at page es h hand (insert_entry nat_cmp hand page es) (inserted_few hand page es) (nat_cmp page h.0)

pub written_few : (old new : List (ℕ × Entries)) (page : ℕ) (es : Entries) → new ≡ set_value (is_at (nat_cmp page)) old es → length new ≤ length old + 0
written_few old new page es made = omega (arith, ap (λ (l : List (ℕ × Entries)). length l) made, length-set_value (is_at (nat_cmp page)) old es)
