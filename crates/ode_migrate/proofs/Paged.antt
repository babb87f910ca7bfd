-- A journal of one frame, which spells pages into which records are cut, has these records.
use Rattle.std.proofs.Common.{◌≡◌, ◌<◌, ◌≤◌, ◌^◌, ◌+◌, ◌-◌, ℕ, List, [], Bool, ◌∷◌, ◌++◌, Some, None, cond, length, max, replicate, refl, sym, ap, subst, ◌∙◌, arith, append_assoc}
use Rattle.std.proofs.lemmas.List.{append-nil}
use Rattle.std.proofs.lemmas.Cmp.{nat_cmp_total, tied_itself}
use Rattle.std.specs.BTreeMap.{insert_entry, is_at}
use Rattle.std.specs.Cmp.{nat_cmp_is}
use Rattle.std.specs.Int.{w16, to_be_bytes}
use Rattle.std.specs.List.{AllByRecursion}
use Rattle.std.specs.List.Sorted.{IsStrictlySortedBy}
use Rattle.std.specs.Map.{keys_of, lookup}
use Rattle.std.specs.Ordering.{is_eq, nat_cmp, ordering_reverse}
use Rattle.std.specs.declared.cmp.Ordering.{Ordering}
use Rattle.std.specs.declared.cmp.Ordering.TheVariants.{Less}
use Rattle.ode_cutting.specs.Cutting.{FitPage, SpellsPagesOf, all_entries, image_with, images_with}
use Rattle.ode_cutting.proofs.Frames.{images_count}
use Rattle.ode_gate.specs.declared.header.Header.{Header}
use Rattle.ode_gate.specs.declared.places.TheConstants.{PAGE_LEN}
use Rattle.ode_journal.specs.Frames.{IsJournal}
use Rattle.ode_keep.specs.Entries.{Entries, HasRisingKeys}
use Rattle.ode_keep.specs.Rising.{above_all, follows, inserted_last, rising_front}
use Rattle.ode_keep.specs.Snapshots.{FitsRow, FitsSnapshot}
use Rattle.ode_keep.proofs.Keys.{key_total}
use Rattle.ode_keep.proofs.Lists.{all_behind, all_front}
use Rattle.ode_pages.specs.Pages.{IsPage, entries_need, room_in}
use Rattle.ode_pages.proofs.Paging.{length-snapshot}
use Rattle.ode_paging.specs.Gathering.{AreApart, HaveNewKeys, gathered, joined}
use Rattle.ode_paging.specs.Images.{FitsImage, HasRisingPages, Image, IsPayload}
use Rattle.ode_paging.specs.Meaning.{HasImages, HasMap}
use Rattle.ode_paging.specs.Standing.{HavePages, filled, image_of, page_count}
use Rattle.ode_pagemap.proofs.Alikes.{has_image}
use Rattle.ode_pagemap.proofs.Renewing.{laid_alone}
use Rattle.ode_value.specs.declared.key.Key.{Key}
use Rattle.ode_value.specs.Keys.{key_cmp}
use Rattle.ode_value.specs.Records.{Row, snapshot}

-- ---- records in rising order, page behind page

rising_behind : (es ds : Entries) → HasRisingKeys (es ++ ds) → HasRisingKeys ds
unfolding IsStrictlySortedBy
rising_behind [] ds rising = rising
rising_behind (e ∷ es) ds rising = rising_behind es ds rising.1

-- a record that comes behind these is put at their end
put_last : (es : Entries) (e : Row) (more : Entries) → HasRisingKeys (es ++ e ∷ more) → insert_entry key_cmp es e.0 e.1 ≡ es ++ e ∷ []
put_last es e more rising =
    inserted_last key_total es e.0 e.1 (above_all key_total es e.0 (rising_front key_cmp es (e ∷ more) rising) (follows key_cmp es e more rising))

joined_behind : (es page : Entries) → HasRisingKeys (es ++ page) → joined es page ≡ es ++ page
joined_behind es [] rising = sym (append-nil es)
joined_behind es (e ∷ page) rising =
    let moved = append_assoc es (e ∷ []) page in
    ap (λ (l : Entries). joined l page) (put_last es e page rising) ∙ joined_behind (es ++ e ∷ []) page (subst HasRisingKeys (sym moved) rising) ∙ moved

gathered_behind : (es : Entries) (pages : List Entries) → HasRisingKeys (es ++ all_entries pages) → gathered es pages ≡ es ++ all_entries pages
gathered_behind es [] rising = sym (append-nil es)
gathered_behind es (page ∷ pages) rising =
    let moved = append_assoc es page (all_entries pages) in
    let order = subst HasRisingKeys (sym moved) rising in
    ap (λ (l : Entries). gathered l pages) (joined_behind es page (rising_front key_cmp (es ++ page) (all_entries pages) order))
    ∙ gathered_behind (es ++ page) pages order ∙ moved

-- ---- no key stands in two of the pages

-- a key above all others isn't among them
above_none : (k : Key) (es : Entries) → AllByRecursion (λ y. key_cmp y k ≡ Less) (keys_of es) → lookup (is_at (key_cmp k)) es ≡ None
above_none k [] above = refl
above_none k (e ∷ es) above =
    let other : key_cmp k e.0 ≡ ordering_reverse Less = key_total.antisymm k e.0 ∙ ap ordering_reverse above.0 in
    ap (λ (r : Ordering). cond (is_eq r) (Some e.1) (lookup (is_at (key_cmp k)) es)) other ∙ above_none k es above.1

further : (l k : Key) (ks : List Key) → key_cmp l k ≡ Less → AllByRecursion (λ y. key_cmp y l ≡ Less) ks → AllByRecursion (λ y. key_cmp y k ≡ Less) ks
further l k [] less above = tt
further l k (y ∷ ks) less above = (key_total.trans y l k above.0 less, further l k ks less above.1)

all_apart : (es : Entries) (l : Key) (ks : List Key) → AllByRecursion (λ y. key_cmp y l ≡ Less) (keys_of es) → AllByRecursion (λ k. key_cmp l k ≡ Less) ks
    → AllByRecursion (λ k. lookup (is_at (key_cmp k)) es ≡ None) ks
all_apart es l [] above later = tt
all_apart es l (k ∷ ks) above later = (above_none k es (further l k (keys_of es) later.0 above), all_apart es l ks above later.1)

apart_behind : (es page : Entries) → HasRisingKeys (es ++ page) → AreApart page es
unfolding IsStrictlySortedBy
apart_behind es [] rising = tt
apart_behind es (e ∷ page) rising =
    let above = above_all key_total es e.0 (rising_front key_cmp es (e ∷ page) rising) (follows key_cmp es e page rising) in
    (above_none e.0 es above, all_apart es e.0 (keys_of page) above (rising_behind es (e ∷ page) rising).0)

new_keys : (es : Entries) (pages : List Entries) → HasRisingKeys (es ++ all_entries pages) → HaveNewKeys es pages
new_keys es [] rising = tt
new_keys es (page ∷ pages) rising =
    let order = subst HasRisingKeys (sym (append_assoc es page (all_entries pages))) rising in
    let front = rising_front key_cmp (es ++ page) (all_entries pages) order in
    (apart_behind es page front, subst (λ (l : Entries). HaveNewKeys l pages) (sym (joined_behind es page front)) (new_keys (es ++ page) pages order))

-- ---- the images of the pages

count_with : (from : ℕ) (pages : List Entries) → page_count from (images_with from pages) ≡ from + length pages
count_with from [] = omega arith
count_with from (es ∷ pages) =
    let next : max from (from + 1) ≡ from + 1 = omega arith in
    let more : from + 1 + length pages ≡ from + length (es ∷ pages) = omega arith in
    ap (λ (n : ℕ). page_count n (images_with (from + 1) pages)) next ∙ count_with (from + 1) pages ∙ more

less_than : (m n : ℕ) → m < n → nat_cmp m n ≡ Less
less_than m n below = sym (nat_cmp_is m n Less below)

above_with : (n from : ℕ) (pages : List Entries) → n < from → AllByRecursion (λ y. nat_cmp n y ≡ Less) (keys_of (images_with from pages))
above_with n from [] below = tt
above_with n from (es ∷ pages) below = (less_than n from below, above_with n (from + 1) pages (omega (arith, below)))

rising_with : (from : ℕ) (pages : List Entries) → HasRisingPages (images_with from pages)
unfolding IsStrictlySortedBy
rising_with from [] = tt
rising_with from (es ∷ pages) = (above_with from (from + 1) pages (omega arith), rising_with (from + 1) pages)

fits_with : (from : ℕ) (pages : List Entries) → from + length pages < 2 ^ 32 → AllByRecursion FitPage pages → AllByRecursion FitsImage (images_with from pages)
fits_with from [] few each = tt
fits_with from (es ∷ pages) few each = (record { page = omega (arith, few); used = omega (arith, each.0) }, fits_with (from + 1) pages (omega (arith, few)) each.1)

-- a page with these records, filled with zeros
page_with : (page : ℕ) (es : Entries) → FitPage es → AllByRecursion FitsRow es → HasRisingKeys es → IsPage PAGE_LEN es (filled (image_with page es).1)
page_with page es fit rows rising =
    let need = length-snapshot es in
    let room : PAGE_LEN - length (image_with page es).1 ≡ room_in PAGE_LEN es = omega (arith, need) in
    record {
      spelled =
          append_assoc (to_be_bytes w16 (length es)) (snapshot es) (replicate (PAGE_LEN - length (image_with page es).1) 0)
          ∙ ap (λ (n : ℕ). to_be_bytes w16 (length es) ++ (snapshot es ++ replicate n 0)) room;
      fits = record { few = omega (arith, fit, need, many es); rows = rows; rising = rising; room = omega (arith, fit, need) };
    }
  where
    many : (es : Entries) → length es ≤ entries_need es
    many [] = omega arith
    many (e ∷ es) = omega (arith, many es)

image_at : (front : List Image) (page : ℕ) (used : List ℕ) (others : List Image) → AllByRecursion (λ i. i.0 < page) front → image_of (front ++ (page, used) ∷ others) page ≡ Some used
image_at [] page used others below = ap (λ (b : Bool). cond b (Some used) (image_of others page)) (ap is_eq (tied_itself nat_cmp_total page))
image_at (i ∷ front) page used others below =
    let less : nat_cmp i.0 page ≡ Less = less_than i.0 page below.0 in
    let other : nat_cmp page i.0 ≡ ordering_reverse Less = nat_cmp_total.antisymm page i.0 ∙ ap ordering_reverse less in
    ap (λ (r : Ordering). cond (is_eq r) (Some i.1) (image_of (front ++ (page, used) ∷ others) page)) other ∙ image_at front page used others below.1

all_below : (front : List Image) (page : ℕ) (used : List ℕ) → AllByRecursion (λ i. i.0 < page) front → AllByRecursion (λ i. i.0 < page + 1) (front ++ (page, used) ∷ [])
all_below [] page used below = (omega arith, tt)
all_below (i ∷ front) page used below = (omega (arith, below.0), all_below front page used below.1)

have_with : (header : Header) (file : List ℕ) (front : List Image) (from : ℕ) (pages : List Entries) → AllByRecursion (λ i. i.0 < from) front → AllByRecursion FitPage pages
    → AllByRecursion FitsRow (all_entries pages) → HasRisingKeys (all_entries pages) → HavePages header (front ++ images_with from pages) file from pages
have_with header file front from [] below each rows rising = tt
have_with header file front from (es ∷ pages) below each rows rising =
    let used = (image_with from es).1 in
    let moved = append_assoc front ((from, used) ∷ []) (images_with (from + 1) pages) in (
      has_image header (front ++ images_with from (es ∷ pages)) file from es used (image_at front from used (images_with (from + 1) pages) below)
          (page_with from es each.0 (all_front FitsRow es (all_entries pages) rows) (rising_front key_cmp es (all_entries pages) rising)),
      subst (λ (l : List Image). HavePages header l file (from + 1) pages) moved
          (have_with header file (front ++ (from, used) ∷ []) (from + 1) pages (all_below front from used below) each.1 (all_behind FitsRow es (all_entries pages) rows)
          (rising_behind es (all_entries pages) rising)),
    )

-- ---- the records

module _ (header : Header) (none : header.body_len ≡ 0) (file : List ℕ) (entries : Entries) (payload : List ℕ) (fits : FitsSnapshot entries) (cut : SpellsPagesOf entries payload)
    (journal : IsJournal header.journal_at header.journal_end (payload ∷ []) file) where
  abbrev images : List Image
  images = images_with 0 cut.pages

  order : HasRisingKeys (all_entries cut.pages)
  order = subst HasRisingKeys cut.cut.all fits.rising

  spells : IsPayload images payload
  spells = record {
    spelled = cut.spelled;
    few = omega (arith, cut.few, images_count 0 cut.pages);
    each = fits_with 0 cut.pages (omega (arith, cut.few)) cut.cut.each;
    rising = rising_with 0 cut.pages;
  }

  over : HasImages header file images
  over = record {
    frames = payload ∷ [];
    journal = journal;
    overlays = images ∷ [];
    payloads = (spells, tt);
    laid = sym (laid_alone images (rising_with 0 cut.pages));
  }

  pub cut_has : HasMap header file entries
  cut_has = record {
    images = images;
    over = over;
    pages = cut.pages;
    count = let here : page_count header.body_len images ≡ 0 + length cut.pages = ap (λ (n : ℕ). page_count n images) none ∙ count_with 0 cut.pages in omega (arith, here);
    each = have_with header file [] 0 cut.pages tt cut.cut.each (subst (λ (l : Entries). AllByRecursion FitsRow l) cut.cut.all fits.rows) order;
    apart = new_keys [] cut.pages order;
    map = cut.cut.all ∙ sym (gathered_behind [] cut.pages order);
  }
