-- Images that are looked up by their pages.
use Rattle.std.proofs.Common.{◌≡◌, ◌<◌, inl, inr, ℕ, List, [], ◌∷◌, cond, Some, None, refl, sym, ◌∙◌, ap, subst, arith}
use Rattle.std.proofs.lemmas.Cmp.{ranked}
use Rattle.std.specs.List.{AllByRecursion}
use Rattle.std.specs.Ordering.{is_eq, nat_cmp}
use Rattle.std.specs.declared.cmp.Ordering.{Ordering}
use Rattle.std.specs.declared.cmp.Ordering.TheVariants.{Less, Equal, Greater}
use Rattle.ode_gate.specs.declared.places.TheConstants.{PAGE_LEN}
use Rattle.ode_paging.specs.Images.{Image}
use Rattle.ode_paging.specs.Standing.{image_of}
use Rattle.ode_pagemap.specs.Placing.{TouchesNone, place_at}

-- what holds of each image holds of the one that is found
found_at : (P : Image → Type 0) (page : ℕ) (used : List ℕ) (i : Image) (images : List Image) → (r : Ordering) → r ≡ nat_cmp page i.0 → P i → (image_of images page ≡ Some used → P (page, used))
    → image_of (i ∷ images) page ≡ Some used → P (page, used)
found_at P page used i images Less is own more found = more (ap (λ (r : Ordering). cond (is_eq r) (Some i.1) (image_of images page)) is ∙ found)
found_at P page used i images Equal is own more found =
    let here : page ≡ i.0 = ranked page i.0 Equal is in
    let some : Some i.1 ≡ Some used = ap (λ (r : Ordering). cond (is_eq r) (Some i.1) (image_of images page)) is ∙ found in
    let same : i.1 ≡ used = cc (some) in
    subst (λ (j : Image). P j) (λ k. (sym here k, same k)) own
found_at P page used i images Greater is own more found = more (ap (λ (r : Ordering). cond (is_eq r) (Some i.1) (image_of images page)) is ∙ found)

pub found_all : (P : Image → Type 0) (page : ℕ) (used : List ℕ) (images : List Image) → AllByRecursion P images → image_of images page ≡ Some used → P (page, used)
found_all P page used [] all found = absurd (cc (found))
found_all P page used (i ∷ images) all found = found_at P page used i images (nat_cmp page i.0) refl all.0 (found_all P page used images all.1) found

-- a page without an image is beside their places
missed_by : (page : ℕ) (i : Image) (images : List Image) → (r : Ordering) → r ≡ nat_cmp page i.0 → (image_of images page ≡ None → TouchesNone (place_at page) PAGE_LEN images)
    → image_of (i ∷ images) page ≡ None → TouchesNone (place_at page) PAGE_LEN (i ∷ images)
missed_by page i images Less is more none =
    let below : page < i.0 = ranked page i.0 Less is in
    (inl (omega (arith, below)), more (ap (λ (r : Ordering). cond (is_eq r) (Some i.1) (image_of images page)) is ∙ none))
missed_by page i images Equal is more none =
    let some : Some i.1 ≡ None = ap (λ (r : Ordering). cond (is_eq r) (Some i.1) (image_of images page)) is ∙ none in
    absurd (cc (some))
missed_by page i images Greater is more none =
    let above : i.0 < page = ranked page i.0 Greater is in
    (inr (omega (arith, above)), more (ap (λ (r : Ordering). cond (is_eq r) (Some i.1) (image_of images page)) is ∙ none))

pub missing_misses : (page : ℕ) (images : List Image) → image_of images page ≡ None → TouchesNone (place_at page) PAGE_LEN images
missing_misses page [] none = tt
missing_misses page (i ∷ images) none = missed_by page i images (nat_cmp page i.0) refl (missing_misses page images) none
