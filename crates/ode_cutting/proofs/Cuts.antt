-- Records that are cut into pages, one page after another.
use Rattle.std.proofs.Common.{◌≡◌, ◌<◌, ◌≤◌, ◌+◌, ◌*◌, ℕ, List, [], ◌∷◌, ◌++◌, drop, length, take, refl, sym, ap, subst, ◌∙◌, arith, append_assoc, length-append}
use Rattle.std.proofs.lemmas.List.{append-nil, drop_at, flat_map_more, take_at}
use Rattle.std.proofs.lemmas.List.Concat.{flat_map-append}
use Rattle.std.specs.Int.{w16, w32, to_be_bytes}
use Rattle.std.specs.List.{AllByRecursion, flat_map}
use Rattle.ode_keep.specs.Entries.{Entries}
use Rattle.ode_keep.specs.Snapshots.{FitsRow}
use Rattle.ode_pages.specs.declared.layout.TheConstants.{COUNT_LEN}
use Rattle.ode_keep.proofs.Lists.{all_behind, all_push}
use Rattle.ode_paging.specs.Images.{Image, image_bytes}
use Rattle.ode_value.specs.Records.{row_bytes, snapshot}
use Rattle.ode_cutting.specs.Cutting.{AreImagesOf, FitPage, HasRoom, IsFront, all_entries, first_length, image_with, images_with}
use Rattle.ode_cutting.specs.declared.cutting.Pages.{Pages}
use Rattle.ode_cutting.specs.declared.front.Front.{Front}
use Rattle.ode_cutting.specs.declared.front.TheConstants.{PAGE_ROOM}

pub images_push : (from : ℕ) (pages : List Entries) (es : Entries) → images_with from (pages ++ es ∷ []) ≡ images_with from pages ++ image_with (from + length pages) es ∷ []
images_push from [] es = let same : from ≡ from + 0 = omega arith in ap (λ (n : ℕ). image_with n es ∷ []) same
images_push from (p ∷ pages) es =
    let same : from + 1 + length pages ≡ from + length (p ∷ pages) = omega arith in
    ap (λ (l : List Image). image_with from p ∷ l) (images_push (from + 1) pages es ∙ ap (λ (n : ℕ). images_with (from + 1) pages ++ image_with n es ∷ []) same)

-- The pages so far have these records, and these bytes of the others are left. The last page and the first record behind it
-- have more bytes than a page.
pub record IsCutTo (entries : Entries) (it : Pages) (rest : List ℕ) : Type 0 where
  pub pages : List Entries
  pub left : Entries
  pub all : entries ≡ all_entries pages ++ left
  pub each : AllByRecursion FitPage pages
  pub rest_is : rest ≡ snapshot left
  pub count : it.count ≡ length pages
  pub images : it.images.items ≡ flat_map image_bytes (images_with 0 pages)
  pub last : ℕ
  pub few : (PAGE_ROOM + 1) * length pages + last ≤ 2 * length (snapshot (all_entries pages)) + (PAGE_ROOM + 1)
  pub most : PAGE_ROOM < last + first_length left

pub none_cut : (entries : Entries) (it : Pages) (rest : List ℕ) → rest ≡ snapshot entries → it.count ≡ 0 → it.images.items ≡ [] → IsCutTo entries it rest
none_cut entries it rest is count images = record {
  pages = [];
  left = entries;
  all = refl;
  each = tt;
  rest_is = is;
  count = count;
  images = images;
  last = PAGE_ROOM + 1;
  few = omega arith;
  most = omega arith;
}

-- the parts of an image, put behind others one by one
pub image_put : (old one two three four : List ℕ) (page used rows : ℕ) (bytes : List ℕ) (es : Entries) → one ≡ old ++ to_be_bytes w32 page → two ≡ one ++ to_be_bytes w16 used
    → three ≡ two ++ to_be_bytes w16 rows → four ≡ three ++ bytes → used ≡ COUNT_LEN + length bytes → rows ≡ length es → bytes ≡ snapshot es → four ≡ old ++ image_bytes (image_with page es)
image_put old one two three four page used rows bytes es first second third fourth long many is =
    let number = to_be_bytes w32 page in
    let size = to_be_bytes w16 used in
    let count = to_be_bytes w16 rows in
    let sizes : used ≡ length (to_be_bytes w16 (length es) ++ snapshot es) = omega (arith, long, ap length is) in
    fourth ∙ ap (λ (l : List ℕ). l ++ bytes) (third ∙ ap (λ (l : List ℕ). l ++ count) (second ∙ ap (λ (l : List ℕ). l ++ size) first))
    ∙ append_assoc ((old ++ number) ++ size) count bytes ∙ append_assoc (old ++ number) size (count ++ bytes) ∙ append_assoc old number (size ++ (count ++ bytes))
    ∙ (λ i. old ++ (number ++ (to_be_bytes w16 (sizes i) ++ (to_be_bytes w16 (many i) ++ is i))))

first_within : (entries front left : Entries) (bytes : ℕ) → entries ≡ front ++ left → bytes ≡ length (snapshot front) → 0 < bytes → first_length entries ≤ bytes
first_within entries [] left bytes split is some = absurd (omega (arith, is, some))
first_within entries (e ∷ es) left bytes split is some =
    let first : first_length entries ≡ length (row_bytes e) = ap first_length split in
    omega (arith, first, is, length-append (row_bytes e) (snapshot es))

no_records : (es : Entries) → length (snapshot es) ≡ 0 → es ≡ []
no_records [] none = refl
no_records (e ∷ es) none = absurd (omega (arith, none))

all_short : (es : Entries) → AllByRecursion HasRoom es → PAGE_ROOM < first_length es → es ≡ []
all_short [] room most = refl
all_short (e ∷ es) room most = absurd (omega (arith, room.0, most))

module _ (entries : Entries) (it : Pages) (rest : List ℕ) (is : IsCutTo entries it rest) where
  -- what the records that are left fit, and the bytes of those at their front
  pub left_fit : AllByRecursion FitsRow entries → AllByRecursion FitsRow is.left
  left_fit fits = all_behind FitsRow (all_entries is.pages) is.left (subst (λ (l : Entries). AllByRecursion FitsRow l) is.all fits)

  pub front_bytes : (f : Front) (front : IsFront is.left f) → take f.bytes rest ≡ snapshot front.front
  front_bytes f front =
      ap (take f.bytes) (is.rest_is ∙ ap snapshot front.split ∙ flat_map-append row_bytes front.front front.left)
      ∙ take_at (snapshot front.front) (snapshot front.left) f.bytes (sym front.bytes)

  pub one_more_cut : (f : Front) (next : Pages) (front : IsFront is.left f) → f.bytes ≤ PAGE_ROOM → 0 < f.bytes → next.count ≡ it.count + 1
      → next.images.items ≡ it.images.items ++ image_bytes (image_with it.count front.front) → IsCutTo entries next (drop f.bytes rest)
  one_more_cut f next front room some count put =
      let here = front.front in
      let spelled : snapshot is.left ≡ snapshot here ++ snapshot front.left = ap snapshot front.split ∙ flat_map-append row_bytes here front.left in
      let more : all_entries (is.pages ++ here ∷ []) ≡ all_entries is.pages ++ here = sym (flat_map_more (λ (es : Entries). es) [] is.pages here) in
      let long : length (snapshot (all_entries (is.pages ++ here ∷ []))) ≡ length (snapshot (all_entries is.pages)) + length (snapshot here) =
      ap (λ (l : Entries). length (snapshot l)) more ∙ ap length (flat_map-append row_bytes (all_entries is.pages) here) ∙ length-append (snapshot (all_entries is.pages)) (snapshot here) in
      let number : it.count ≡ 0 + length is.pages = omega (arith, is.count) in
      let first = first_within is.left here front.left f.bytes front.split front.bytes some in
      record {
        pages = is.pages ++ here ∷ [];
        left = front.left;
        all =
            is.all ∙ ap (λ (l : Entries). all_entries is.pages ++ l) front.split ∙ sym (append_assoc (all_entries is.pages) here front.left)
            ∙ ap (λ (l : Entries). l ++ front.left) (sym more);
        each = all_push FitPage is.pages here is.each (omega (arith, room, front.bytes));
        rest_is = ap (drop f.bytes) (is.rest_is ∙ spelled) ∙ drop_at (snapshot here) (snapshot front.left) f.bytes (sym front.bytes);
        count = omega (arith, count, is.count, length-append is.pages (here ∷ []));
        images =
            put ∙ ap (λ (l : List ℕ). l ++ image_bytes (image_with it.count here)) is.images
            ∙ ap (λ (n : ℕ). flat_map image_bytes (images_with 0 is.pages) ++ image_bytes (image_with n here)) number
            ∙ flat_map_more image_bytes [] (images_with 0 is.pages) (image_with (0 + length is.pages) here)
            ∙ ap (λ (l : List Image). flat_map image_bytes l) (sym (images_push 0 is.pages here));
        last = f.bytes;
        few = omega (arith, is.few, is.most, first, long, front.bytes, length-append is.pages (here ∷ []));
        most = front.most;
      }

  pub all_cut : length rest ≡ 0 → AreImagesOf entries it
  all_cut none =
      let nothing : is.left ≡ [] = no_records is.left (sym (ap length is.rest_is) ∙ none) in
      let all : entries ≡ all_entries is.pages = is.all ∙ ap (λ (l : Entries). all_entries is.pages ++ l) nothing ∙ append-nil (all_entries is.pages) in
      record {
        pages = is.pages;
        cut = record { all = all; each = is.each };
        count = is.count;
        images = is.images;
        few = omega (arith, is.few, ap (λ (l : Entries). length (snapshot l)) all);
      }

  -- a page has room for the first record, if that isn't too long for one
  pub none_long : (f : Front) → IsFront is.left f → f.bytes ≡ 0 → 0 < length rest → AllByRecursion HasRoom entries → ⊥
  none_long f front none some room =
      let no_front : front.front ≡ [] = no_records front.front (sym front.bytes ∙ none) in
      let same : is.left ≡ front.left = front.split ∙ ap (λ (l : Entries). l ++ front.left) no_front in
      let left_room = all_behind HasRoom (all_entries is.pages) is.left (subst (λ (l : Entries). AllByRecursion HasRoom l) is.all room) in
      let nothing : is.left ≡ [] = all_short is.left left_room (omega (arith, front.most, none, ap first_length same)) in
      omega (arith, some, ap length is.rest_is, ap (λ (l : Entries). length (snapshot l)) nothing)
