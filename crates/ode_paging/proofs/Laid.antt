-- The pages of a file, once the images of pages in hand are laid over those that it had.
use Rattle.std.proofs.Common.{◌≡◌, ◌<◌, ◌≤◌, max, ⊎_elim, ℕ, suc, ◌+◌, ◌-◌, List, [], ◌∷◌, Bool, true, false, cond, length, Option, Some, None, refl, sym, ap, subst, ◌∙◌, arith}
use Rattle.std.specs.Prelude.{IsSome}
use Rattle.std.specs.BTreeMap.{insert_entry, is_at}
use Rattle.std.specs.List.{AllByRecursion, IsDistinct}
use Rattle.std.specs.Map.{keys_of}
use Rattle.std.specs.Option.{is_some, unwrap_or}
use Rattle.std.specs.Ordering.{eq_by_cmp, is_eq, match_ordering, nat_cmp}
use Rattle.std.specs.declared.cmp.Ordering.{Ordering}
use Rattle.std.specs.declared.cmp.Ordering.TheVariants.{Less, Equal, Greater}
use Rattle.std.proofs.lemmas.Bool.{cases_lt}
use Rattle.std.proofs.lemmas.Cmp.{eq_by_cmp_equiv, nat_cmp_total, tied_itself}
use Rattle.std.proofs.lemmas.Map.{lookup-none}
use Rattle.std.proofs.lemmas.Map.Entries.{none_past_head}
use Rattle.std.proofs.lemmas.Map.Keys.{IsDistinct-from_sorted, IsDistinct-tail}
use Rattle.std.proofs.lemmas.Map.Lookups.{exact_unsigned}
use Rattle.std.specs.Cmp.{Equal-is}
use Rattle.ode_gate.specs.declared.header.Header.{Header}
use Rattle.ode_gate.specs.declared.places.TheConstants.{PAGE_LEN}
use Rattle.ode_keep.specs.Entries.{Entries}
use Rattle.ode_keep.proofs.Maps.{back, lookup_put}
use Rattle.ode_pages.specs.Pages.{IsPage}
use Rattle.ode_paging.specs.Hands.{AreCovered, entries_of}
use Rattle.ode_paging.specs.Images.{HasRisingPages, Image}
use Rattle.ode_paging.specs.Imaging.{AreImages}
use Rattle.ode_paging.specs.Overlays.{laid}
use Rattle.ode_paging.specs.Replacing.{page_at}
use Rattle.ode_paging.specs.Standing.{HasPage, HavePages, bytes_at, filled, image_of, page_count}
use Rattle.ode_paging.proofs.Handed.{not_in_hand, page_stands}

-- What an image that is laid leaves at a page.
module _ (n : ℕ) (i : Image) (over images : List Image) where
  abbrev next : List Image
  next = insert_entry nat_cmp images i.0 i.1

  put_at : (b : Bool) → is_at (nat_cmp n) i.0 ≡ b → image_of next n ≡ cond b (Some i.1) (image_of images n)
  put_at b is = lookup_put nat_cmp_total i.0 i.1 n images ∙ ap (λ (t : Bool). cond t (Some i.1) (image_of images n)) (back nat_cmp_total i.0 n ∙ is)

  other_at : (b : Bool) → is_at (nat_cmp n) i.0 ≡ b → cond b (Some i.1) (image_of over n) ≡ None → (image_of over n ≡ None → image_of (laid over next) n ≡ image_of next n)
      → image_of (laid over next) n ≡ image_of images n
  other_at true is none more = absurd (cc (none))
  other_at false is none more = more none ∙ put_at false is

  there_at : (b : Bool) → is_at (nat_cmp n) i.0 ≡ b → (v : List ℕ) → cond b (Some i.1) (image_of over n) ≡ Some v → (b ≡ true → image_of (laid over next) n ≡ image_of next n)
      → (image_of over n ≡ Some v → image_of (laid over next) n ≡ Some v) → image_of (laid over next) n ≡ Some v
  there_at true is v found here later = here refl ∙ put_at true is ∙ found
  there_at false is v found here later = later found

laid_other : (n : ℕ) (over images : List Image) → image_of over n ≡ None → image_of (laid over images) n ≡ image_of images n
laid_other n [] images none = refl
laid_other n (i ∷ over) images none =
    other_at n i over images (is_at (nat_cmp n) i.0) refl none (λ later. laid_other n over (insert_entry nat_cmp images i.0 i.1) later)

laid_there : (n : ℕ) (v : List ℕ) (over images : List Image) → IsDistinct (eq_by_cmp nat_cmp) (keys_of over) → image_of over n ≡ Some v → image_of (laid over images) n ≡ Some v
laid_there n v [] images distinct found = absurd (cc (found))
laid_there n v (i ∷ over) images distinct found =
    there_at n i over images (is_at (nat_cmp n) i.0) refl v found
    (λ is. laid_other n over (insert_entry nat_cmp images i.0 i.1) (lookup-none (is_at (nat_cmp n)) over (none_past_head (eq_by_cmp_equiv nat_cmp_total) n i over distinct is)))
    (λ later. laid_there n v over (insert_entry nat_cmp images i.0 i.1) (IsDistinct-tail (eq_by_cmp nat_cmp) i.0 (keys_of over) distinct) later)

-- what a page in hand has, and its image
abbrev Matches : Option Entries → Option (List ℕ) → Type 0
Matches None None = Unit {0}
Matches (Some es) (Some used) = IsPage PAGE_LEN es (filled used)
Matches _ _ = ⊥

match_at : (b c : Bool) → b ≡ c → (es : Entries) (used : List ℕ) (x : Option Entries) (y : Option (List ℕ)) → IsPage PAGE_LEN es (filled used) → Matches x y
    → Matches (cond b (Some es) x) (cond c (Some used) y)
match_at true true same es used x y form more = form
match_at false false same es used x y form more = more
match_at true false same es used x y form more = absurd (cc (same))
match_at false true same es used x y form more = absurd (cc (same))

matches : (n : ℕ) (hand : List (ℕ × Entries)) (over : List Image) → AreImages hand over → Matches (entries_of hand n) (image_of over n)
matches n [] [] are = tt
matches n [] (i ∷ over) are = absurd are
matches n (h ∷ hand) [] are = absurd are
matches n (h ∷ hand) (i ∷ over) are =
    match_at (is_at (nat_cmp n) h.0) (is_at (nat_cmp n) i.0) (ap (λ (m : ℕ). is_at (nat_cmp n) m) (sym are.0.page)) h.1 i.1 (entries_of hand n) (image_of over n) are.0.form
    (matches n hand over are.1)

-- How many pages there are.
count_more : (c m : ℕ) (images : List Image) → page_count (max c m) images ≡ max (page_count c images) m
count_more c m [] = refl
count_more c m (i ∷ images) =
    let same : max (max c m) (i.0 + 1) ≡ max (max c (i.0 + 1)) m = omega arith in
    ap (λ (k : ℕ). page_count k images) same ∙ count_more (max c (i.0 + 1)) m images

count_from : (c : ℕ) (images : List Image) → c ≤ page_count c images
count_from c [] = omega arith
count_from c (i ∷ images) = omega (arith, count_from (max c (i.0 + 1)) images)

count_put_at : (c k : ℕ) (v : List ℕ) (i : Image) (images rest : List Image) → page_count (max c (i.0 + 1)) rest ≡ max (page_count (max c (i.0 + 1)) images) (k + 1) → (r : Ordering) → nat_cmp k i.0 ≡ r
    → page_count c (match_ordering r ((k, v) ∷ i ∷ images) ((i.0, v) ∷ images) (i ∷ rest)) ≡ max (page_count (max c (i.0 + 1)) images) (k + 1)
count_put_at c k v i images rest more Less is =
    let same : max (max c (k + 1)) (i.0 + 1) ≡ max (max c (i.0 + 1)) (k + 1) = omega arith in
    ap (λ (m : ℕ). page_count m images) same ∙ count_more (max c (i.0 + 1)) (k + 1) images
count_put_at c k v i images rest more Equal is =
    let same : k ≡ i.0 = exact_unsigned k i.0 is in
    omega (arith, same, count_from (max c (i.0 + 1)) images)
count_put_at c k v i images rest more Greater is = more

count_put : (c k : ℕ) (v : List ℕ) (images : List Image) → page_count c (insert_entry nat_cmp images k v) ≡ max (page_count c images) (k + 1)
count_put c k v [] = refl
count_put c k v (i ∷ images) =
    count_put_at c k v i images (insert_entry nat_cmp images k v) (count_put (max c (i.0 + 1)) k v images) (nat_cmp k i.0) refl

count_laid : (c : ℕ) (over images : List Image) → page_count c (laid over images) ≡ page_count (page_count c images) over
count_laid c [] images = refl
count_laid c (i ∷ over) images =
    count_laid c over (insert_entry nat_cmp images i.0 i.1) ∙ ap (λ (k : ℕ). page_count k over) (count_put c i.0 i.1 images)

count_within : (c bound : ℕ) (hand : List (ℕ × Entries)) (over : List Image) → AreImages hand over → c ≤ bound → AllByRecursion (λ (h : ℕ × Entries). h.0 < bound) hand → page_count c over ≤ bound
count_within c bound [] [] are within all = within
count_within c bound [] (i ∷ over) are within all = absurd are
count_within c bound (h ∷ hand) [] are within all = absurd are
count_within c bound (h ∷ hand) (i ∷ over) are within all = count_within (max c (i.0 + 1)) bound hand over are.1 (omega (arith, within, all.0, are.0.page)) all.1

reaches_at : (n c : ℕ) (i : Image) (over : List Image) → (IsSome (image_of over n) → n + 1 ≤ page_count (max c (i.0 + 1)) over) → (b : Bool) → is_at (nat_cmp n) i.0 ≡ b
    → IsSome (cond b (Some i.1) (image_of over n)) → n + 1 ≤ page_count (max c (i.0 + 1)) over
reaches_at n c i over more true is some =
    let same : n ≡ i.0 = exact_unsigned n i.0 ((Equal-is (nat_cmp n i.0)).0 is) in
    omega (arith, same, count_from (max c (i.0 + 1)) over)
reaches_at n c i over more false is some = more some

reaches : (n c : ℕ) (over : List Image) → IsSome (image_of over n) → n + 1 ≤ page_count c over
reaches n c [] some = absurd (cc (some))
reaches n c (i ∷ over) some = reaches_at n c i over (λ later. reaches n (max c (i.0 + 1)) over later) (is_at (nat_cmp n) i.0) refl some

matched : (x : Option Entries) (y : Option (List ℕ)) → Matches x y → IsSome x → IsSome y
matched None y match some = absurd (cc (some))
matched (Some es) None match some = absurd match
matched (Some es) (Some used) match some = refl

some_later : (b : Bool) (es : Entries) (found : Option Entries) → IsSome found → IsSome (cond b (Some es) found)
some_later true es found some = refl
some_later false es found some = some

each_within : (bound : ℕ) (hand : List (ℕ × Entries)) → ((n : ℕ) → IsSome (entries_of hand n) → n < bound) → AllByRecursion (λ (h : ℕ × Entries). h.0 < bound) hand
each_within bound [] within = tt
each_within bound (h ∷ hand) within = (
  within h.0 (ap (λ (b : Bool). is_some (cond b (Some h.1) (entries_of hand h.0))) (ap is_eq (tied_itself nat_cmp_total h.0))),
  each_within bound hand (λ n some. within n (some_later (is_at (nat_cmp n) h.0) h.1 (entries_of hand n) some)),
)

module _ (header : Header) (file : List ℕ) (images over : List Image) (hand : List (ℕ × Entries)) (count : ℕ) (pages now : List Entries)
    (covers : AreCovered hand count pages now) (stand : HavePages header images file 0 pages) (are : AreImages hand over) (rising : HasRisingPages over) where
  has_at : (n : ℕ) → n < length now → (x : Option Entries) (y : Option (List ℕ)) → entries_of hand n ≡ x → image_of over n ≡ y → Matches x y → HasPage header (laid over images) file n (page_at now n)
  has_at n within None None none no_image match =
      let inside = not_in_hand hand count pages now n covers none within in
      let old = page_stands header images file pages n stand inside.0 in
      record {
        bytes = old.bytes;
        stands = ap (λ (o : Option (List ℕ)). bytes_at header file n o) (laid_other n over images no_image) ∙ old.stands;
        form = subst (λ (es : Entries). IsPage PAGE_LEN es old.bytes) (sym inside.1) old.form;
      }
  has_at n within None (Some used) none image match = absurd match
  has_at n within (Some es) None there no_image match = absurd match
  has_at n within (Some es) (Some used) there image match = record {
    bytes = filled used;
    stands = ap (λ (o : Option (List ℕ)). bytes_at header file n o) (laid_there n used over images (IsDistinct-from_sorted nat_cmp (keys_of over) rising) image);
    form = subst (λ (l : Entries). IsPage PAGE_LEN l (filled used)) (sym (covers.each n ∙ ap (λ (o : Option Entries). unwrap_or o (page_at pages n)) there)) match;
  }

  have_from : (first : ℕ) (those : List Entries) → ((m : ℕ) → m < length those → HasPage header (laid over images) file (first + m) (page_at those m)) → HavePages header (laid over images) file first those
  have_from first [] each = tt
  have_from first (es ∷ those) each = (
    (let same : first + 0 ≡ first = omega arith in subst (λ (n : ℕ). HasPage header (laid over images) file n es) same (each 0 (omega arith))),
    have_from (first + 1) those
        (λ m within. let same : first + suc m ≡ first + 1 + m = omega arith in
        subst (λ (n : ℕ). HasPage header (laid over images) file n (page_at those m)) same (each (suc m) (omega (arith, within)))),
  )

  -- these pages stand there then
  pub laid_pages : HavePages header (laid over images) file 0 now
  laid_pages = have_from 0 now (λ m within.
      let same : m ≡ 0 + m = omega arith in
      subst (λ (n : ℕ). HasPage header (laid over images) file n (page_at now m)) same
      (has_at m within (entries_of hand m) (image_of over m) refl refl (matches m hand over are)))

  last_in_hand : length pages < length now → IsSome (image_of over (length now - 1))
  last_in_hand more =
      matched (entries_of hand (length now - 1)) (image_of over (length now - 1)) (matches (length now - 1) hand over are)
      (covers.new (length now - 1) (omega (arith, more)) (omega (arith, more)))

  -- and so many they are
  pub laid_count : length pages ≡ page_count header.body_len images → length now ≡ page_count header.body_len (laid over images)
  laid_count many =
      let all : page_count header.body_len (laid over images) ≡ page_count (length pages) over =
      count_laid header.body_len over images ∙ ap (λ (c : ℕ). page_count c over) (sym many) in
      let most : page_count (length pages) over ≤ length now = count_within (length pages) (length now) hand over are covers.grown (each_within (length now) hand covers.within) in
      ⊎_elim
      (λ (more : length pages < length now). let last = reaches (length now - 1) (length pages) over (last_in_hand more) in omega (arith, all, most, last, more))
      (λ (none : length now ≤ length pages). omega (arith, all, most, none, count_from (length pages) over, covers.grown))
      (cases_lt (length pages) (length now))
