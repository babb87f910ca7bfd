-- Images whose pages are made room for, and that are laid then.
use Rattle.std.proofs.Common.{◌≡◌, ℕ, List, [], ◌∷◌, ◌++◌, append_assoc, reverse, Bool, true, false, cond, Option, Some, None, Result, Ok, Err, OnErr, OnOk, refl, sym, ap, subst, ◌∙◌}
use Rattle.std.specs.Prelude.{T, ◌&&◌, IsSome, not}
use Rattle.std.specs.BTreeMap.{insert_entry, is_at}
use Rattle.std.specs.FinMap.Entries.{same_entries, find, below_all, is_sorted}
use Rattle.std.specs.List.{AllByRecursion}
use Rattle.std.specs.List.Sorted.{IsStrictlySortedBy}
use Rattle.std.specs.Map.{keys_of, remove_entry}
use Rattle.std.specs.Option.{is_some, option_or}
use Rattle.std.specs.Ordering.{eq_by_cmp, is_eq, is_lt, nat_cmp}
use Rattle.std.specs.declared.cmp.Ordering.{Ordering}
use Rattle.std.specs.declared.cmp.Ordering.TheVariants.{Less}
use Rattle.std.specs.Cmp.{Equal-is}
use Rattle.std.proofs.lemmas.Cmp.{eq_by_cmp_equiv, nat_cmp_total, tied_itself}
use Rattle.std.proofs.lemmas.List.{append-nil, reverse-append}
use Rattle.std.proofs.lemmas.Map.{lookup-remove_entry}
use Rattle.std.proofs.lemmas.Map.Keys.{IsDistinct-from_sorted}
use Rattle.std.proofs.lemmas.Map.Lookups.{exact_unsigned}
use Rattle.ode_keep.proofs.Maps.{lookup_put, one_gone, rising_put, rising_some}
use Rattle.ode_paging.specs.Images.{HasRisingPages, Image}
use Rattle.ode_paging.specs.Overlays.{laid}
use Rattle.ode_paging.specs.Standing.{image_of}
use Rattle.ode_pagemap.specs.Reserving.{HasImage, HaveImages, bared}
use Rattle.ode_pagemap.proofs.Renewing.{image_of_laid}

same_page : (page q : ℕ) → is_at (nat_cmp page) q ≡ true → page ≡ q
same_page page q here = exact_unsigned page q ((Equal-is (nat_cmp page q)).0 here)

one_page : (page x y : ℕ) → is_at (nat_cmp page) x ≡ true → is_at (nat_cmp page) y ≡ eq_by_cmp nat_cmp x y
one_page page x y here = ap (λ (n : ℕ). is_at (nat_cmp n) y) (same_page page x here)

-- Rising images with the same one of each page.
both : (a b : Bool) → T a → T b → T (a && b)
both true b p q = q
both false b p q = p

found_same : (q : ℕ) (is : List Image) → find nat_cmp q is ≡ image_of is q
found_same q [] = refl
found_same q (i ∷ is) = ap (λ (r : Option (List ℕ)). cond (is_at (nat_cmp q) i.0) (Some i.1) r) (found_same q is)

below : (n : ℕ) (is : List Image) → AllByRecursion (λ m. nat_cmp n m ≡ Less) (keys_of is) → T (below_all nat_cmp n is)
below n [] all = tt
below n (i ∷ is) all = both (is_lt (nat_cmp n i.0)) (below_all nat_cmp n is) (subst (λ o. T (is_lt o)) (sym all.0) tt) (below n is all.1)

sorted : (is : List Image) → HasRisingPages is → T (is_sorted nat_cmp is)
unfolding IsStrictlySortedBy
sorted [] rising = tt
sorted (i ∷ is) rising = both (below_all nat_cmp i.0 is) (is_sorted nat_cmp is) (below i.0 is rising.0) (sorted is rising.1)

same_images : (is js : List Image) → HasRisingPages is → HasRisingPages js → ((q : ℕ) → image_of is q ≡ image_of js q) → is ≡ js
same_images is js s t same =
    same_entries nat_cmp nat_cmp_total exact_unsigned is js (sorted is s) (sorted js t) (λ q. found_same q is ∙ same q ∙ sym (found_same q js))

-- Images stay in order.
put_rising : (images : List Image) (page : ℕ) (used : List ℕ) → HasRisingPages images → HasRisingPages (insert_entry nat_cmp images page used)
put_rising images page used rising = rising_put nat_cmp_total page used images rising

laid_rising : (over images : List Image) → HasRisingPages images → HasRisingPages (laid over images)
laid_rising [] images rising = rising
laid_rising (i ∷ over) images rising = laid_rising over (insert_entry nat_cmp images i.0 i.1) (put_rising images i.0 i.1 rising)

-- An image under another of its page doesn't count.
covered_at : (b : Bool) (used : List ℕ) (first found : Option (List ℕ)) → (b ≡ true → IsSome first) → option_or first (cond b (Some used) found) ≡ option_or first found
covered_at false used first found some = refl
covered_at true used None found some = absurd (cc (some refl))
covered_at true used (Some x) found some = refl

covered : (over images : List Image) (page : ℕ) (used : List ℕ) → HasRisingPages over → HasRisingPages images → HasImage over page → laid over (insert_entry nat_cmp images page used) ≡ laid over images
covered over images page used order rising has =
    let next = insert_entry nat_cmp images page used in
    same_images (laid over next) (laid over images) (laid_rising over next (put_rising images page used rising)) (laid_rising over images rising)
    (λ q. image_of_laid q over next order
    ∙ ap (λ (found : Option (List ℕ)). option_or (image_of over q) found) (lookup_put nat_cmp_total page used q images)
    ∙ covered_at (is_at (nat_cmp page) q) used (image_of over q) (image_of images q) (λ here. subst (λ (n : ℕ). HasImage over n) (same_page page q here) has)
    ∙ sym (image_of_laid q over images order))

-- An image that is put where there was none, and removed again.
none_at : (b : Bool) (used : List ℕ) (found : Option (List ℕ)) → (b ≡ true → found ≡ None) → cond b None (cond b (Some used) found) ≡ found
none_at true used found none = sym (none refl)
none_at false used found none = refl

removed : (images : List Image) (page : ℕ) (used : List ℕ) → HasRisingPages images → image_of images page ≡ None → remove_entry (is_at (nat_cmp page)) (insert_entry nat_cmp images page used) ≡ images
removed images page used rising none =
    let next = insert_entry nat_cmp images page used in
    let order = put_rising images page used rising in
    let distinct = IsDistinct-from_sorted nat_cmp (keys_of next) order in
    same_images (remove_entry (is_at (nat_cmp page)) next) images
    (subst (λ (l : List Image). HasRisingPages l) (one_gone nat_cmp_total page next distinct) (rising_some nat_cmp (λ i. not (is_at (nat_cmp page) i.0)) next order)) rising
    (λ q. lookup-remove_entry (eq_by_cmp_equiv nat_cmp_total) (is_at (nat_cmp page)) (one_page page) q next distinct
    ∙ ap (λ (found : Option (List ℕ)). cond (is_at (nat_cmp page) q) None found) (lookup_put nat_cmp_total page used q images)
    ∙ none_at (is_at (nat_cmp page) q) used (image_of images q) (λ here. subst (λ (n : ℕ). image_of images n ≡ None) (same_page page q here) none))

-- one page more is noted
back_more : (images after : List Image) (added noted : List ℕ) (page : ℕ) (used : List ℕ) (old : List Image) → HasRisingPages images → image_of images page ≡ None
    → after ≡ insert_entry nat_cmp images page used → noted ≡ added ++ page ∷ [] → bared (reverse added) images ≡ old → bared (reverse noted) after ≡ old
back_more images after added noted page used old rising none made is before =
    (λ i. bared (reverse (is i)) (made i))
    ∙ ap (λ (ps : List ℕ). bared ps (insert_entry nat_cmp images page used)) (reverse-append added (page ∷ []))
    ∙ ap (λ (l : List Image). bared (reverse added) l) (removed images page used rising none)
    ∙ before

pub room_back : {A E : Type 0} (r : Result A E) (images after : List Image) (added noted : List ℕ) (page : ℕ) (used : List ℕ) (old : List Image)
    → OnOk r (after ≡ insert_entry nat_cmp images page used) → OnOk r (noted ≡ added ++ page ∷ []) → OnErr r (after ≡ images) → OnErr r (noted ≡ added) → HasRisingPages images
    → image_of images page ≡ None → bared (reverse added) images ≡ old → bared (reverse noted) after ≡ old
room_back (Ok x) images after added noted page used old made is same no_note rising none before = back_more images after added noted page used old rising none made is before
room_back (Err e) images after added noted page used old made is same no_note rising none before = (λ i. bared (reverse (no_note i)) (same i)) ∙ before

-- A page that has an image still has one.
some_at : (b : Bool) (used : List ℕ) (found : Option (List ℕ)) → IsSome found → IsSome (cond b (Some used) found)
some_at true used found some = refl
some_at false used found some = some

put_some : (images : List Image) (page : ℕ) (used : List ℕ) (q : ℕ) → HasImage images q → HasImage (insert_entry nat_cmp images page used) q
put_some images page used q some =
    subst (λ (o : Option (List ℕ)). IsSome o) (sym (lookup_put nat_cmp_total page used q images)) (some_at (is_at (nat_cmp page) q) used (image_of images q) some)

pub still_have : (over images after : List Image) (page : ℕ) (used : List ℕ) → after ≡ insert_entry nat_cmp images page used → HaveImages over images → HaveImages over after
still_have [] images after page used made have = tt
still_have (i ∷ over) images after page used made have = (
  subst (λ (l : List Image). HasImage l i.0) (sym made) (put_some images page used i.0 have.0),
  still_have over images after page used made have.1,
)

pub put_there : (images after : List Image) (page : ℕ) (used : List ℕ) → after ≡ insert_entry nat_cmp images page used → HasImage after page
put_there images after page used made =
    subst (λ (l : List Image). HasImage l page) (sym made)
    (subst (λ (o : Option (List ℕ)). IsSome o) (sym (lookup_put nat_cmp_total page used page images))
    (ap (λ (r : Ordering). is_some (cond (is_eq r) (Some used) (image_of images page))) (tied_itself nat_cmp_total page)))

pub covered_then : (images after over : List Image) (page : ℕ) (used : List ℕ) → HasRisingPages images → after ≡ insert_entry nat_cmp images page used → HasRisingPages over → HasImage over page
    → laid over after ≡ laid over images
covered_then images after over page used rising made order has = ap (λ (l : List Image). laid over l) made ∙ covered over images page used order rising has

-- One step through the images.
later_some : (b : Bool) (used : List ℕ) (found : Option (List ℕ)) → IsSome found → IsSome (cond b (Some used) found)
later_some true used found some = refl
later_some false used found some = some

among : (done : List Image) (i : Image) (more : List Image) → HasImage (done ++ i ∷ more) i.0
among [] i more = ap (λ (r : Ordering). is_some (cond (is_eq r) (Some i.1) (image_of more i.0))) (tied_itself nat_cmp_total i.0)
among (j ∷ done) i more = later_some (is_at (nat_cmp i.0) j.0) j.1 (image_of (done ++ i ∷ more) i.0) (among done i more)

have_push : (done : List Image) (i : Image) (images : List Image) → HaveImages done images → HasImage images i.0 → HaveImages (done ++ i ∷ []) images
have_push [] i images have here = (here, tt)
have_push (j ∷ done) i images have here = (have.0, have_push done i images have.1 here)

-- of these images so many have room, and this is left
pub record AreReserved (over rest images : List Image) : Type 0 where
  pub done : List Image
  pub split : over ≡ done ++ rest
  pub have : HaveImages done images

pub none_reserved : (over rest images : List Image) → rest ≡ over → AreReserved over rest images
none_reserved over rest images same = record { done = []; split = sym same; have = tt }

module _ (over rest more : List Image) (i : Image) (images : List Image) (so_far : AreReserved over rest images) (first : rest ≡ i ∷ more) where
  whole : over ≡ so_far.done ++ i ∷ more
  whole = so_far.split ∙ ap (λ (l : List Image). so_far.done ++ l) first

  pub next_among : HasImage over i.0
  next_among = subst (λ (l : List Image). HasImage l i.0) (sym whole) (among so_far.done i more)

  pub one_reserved : (after : List Image) → (HaveImages so_far.done images → HaveImages so_far.done after) → HasImage after i.0 → AreReserved over more after
  one_reserved after kept here = record {
    done = so_far.done ++ i ∷ [];
    split = whole ∙ sym (append_assoc so_far.done (i ∷ []) more);
    have = have_push so_far.done i after (kept so_far.have) here;
  }

pub all_reserved : (over rest images : List Image) → AreReserved over rest images → rest ≡ [] → HaveImages over images
all_reserved over rest images so_far none =
    let whole : so_far.done ≡ over = sym (append-nil so_far.done) ∙ ap (λ (l : List Image). so_far.done ++ l) (sym none) ∙ sym so_far.split in
    subst (λ (l : List Image). HaveImages l images) whole so_far.have
