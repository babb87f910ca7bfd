-- Pages that a commit changes are taken into the cache.
use Rattle.std.proofs.Common.{◌≡◌, ℕ, List, [], ◌∷◌, Bool, true, false, cond, Option, Some, None, nat_eq, take, sym, ap, subst, ◌∙◌, refl}
use Rattle.std.specs.Prelude.{Result, Ok, Err, OnErr, OnOk}
use Rattle.std.specs.BTreeMap.{is_at}
use Rattle.std.specs.List.{AllByRecursion, IsDistinct, slice_get}
use Rattle.std.specs.Map.{keys_of, remove_entry}
use Rattle.std.specs.Ordering.{eq_by_cmp, is_eq, nat_cmp}
use Rattle.std.proofs.lemmas.Cmp.{eq_by_cmp_equiv, nat_cmp_total, tied_itself}
use Rattle.std.proofs.lemmas.Map.{lookup-none}
use Rattle.std.proofs.lemmas.Map.Entries.{none_past_head}
use Rattle.std.proofs.lemmas.Map.Keys.{IsDistinct-from_sorted, IsDistinct-tail}
use Rattle.ode_gate.specs.declared.places.TheConstants.{PAGE_LEN}
use Rattle.ode_keep.specs.Entries.{Entries}
use Rattle.ode_pages.proofs.Decoding.{same_entries}
use Rattle.ode_paging.specs.Images.{HasRisingPages, Image}
use Rattle.ode_paging.specs.Imaging.{AreImages}
use Rattle.ode_paging.specs.Standing.{filled, image_of}
use Rattle.ode_pagemap.specs.declared.cache.Cache.{Cache}
use Rattle.ode_pagemap.specs.Cached.{AreAmong, most_of}
use Rattle.ode_pagemap.specs.Steps.{AreRenewed}
use Rattle.ode_pagemap.proofs.Caching.{all_gone, all_taken}

-- what holds of all pages that are held holds still after one was let go and taken in again
pub all_renewed : {A E : Type 0} (n : ℕ) (P : ℕ × Entries → Type 0) (r : Result A E) (x : Entries) (es : List (ℕ × Entries)) (left now : Cache) → left.pages.entries ≡ remove_entry (nat_eq n) es
    → OnOk r (now.pages.entries ≡ take (most_of left) ((n, x) ∷ left.pages.entries)) → OnErr r (now ≡ left) → P (n, x) → AllByRecursion P es → AllByRecursion P now.pages.entries
all_renewed n P (Ok a) x es left now gone taken same here all =
    subst (λ (l : List (ℕ × Entries)). AllByRecursion P l) (sym taken)
    (all_taken n P (most_of left) x left.pages.entries here (subst (λ (l : List (ℕ × Entries)). AllByRecursion P l) (sym gone) (all_gone n P es all)))
all_renewed n P (Err e) x es left now gone taken same here all =
    subst (λ (c : Cache). AllByRecursion P c.pages.entries) (sym same) (subst (λ (l : List (ℕ × Entries)). AllByRecursion P l) (sym gone) (all_gone n P es all))

-- each image is found under the number of its page
found_later : (b : Bool) (x y : List ℕ) (found : Option (List ℕ)) → (b ≡ true → found ≡ None) → found ≡ Some x → cond b (Some y) found ≡ Some x
found_later true x y found none here = absurd (cc (none refl, here))
found_later false x y found none here = here

all_later : (i : Image) (images rest : List Image) → IsDistinct (eq_by_cmp nat_cmp) (keys_of (i ∷ images)) → AllByRecursion (λ (j : Image). image_of images j.0 ≡ Some j.1) rest
    → AllByRecursion (λ (j : Image). image_of (i ∷ images) j.0 ≡ Some j.1) rest
all_later i images [] distinct all = tt
all_later i images (j ∷ rest) distinct all = (
  found_later (is_at (nat_cmp j.0) i.0) j.1 i.1 (image_of images j.0)
      (λ is. lookup-none (is_at (nat_cmp j.0)) images (none_past_head (eq_by_cmp_equiv nat_cmp_total) j.0 i images distinct is)) all.0,
  all_later i images rest distinct all.1,
)

each_found : (images : List Image) → IsDistinct (eq_by_cmp nat_cmp) (keys_of images) → AllByRecursion (λ (i : Image). image_of images i.0 ≡ Some i.1) images
each_found [] distinct = tt
each_found (i ∷ images) distinct = (
  ap (λ (b : Bool). cond b (Some i.1) (image_of images i.0)) (ap is_eq (tied_itself nat_cmp_total i.0)),
  all_later i images images distinct (each_found images (IsDistinct-tail (eq_by_cmp nat_cmp) i.0 (keys_of images) distinct)),
)

module _ (over : List Image) (old new : List Entries) (renewed : AreRenewed over old new) where
  among_new : (pages : List (ℕ × Entries)) (images : List Image) → AreImages pages images → AllByRecursion (λ (i : Image). image_of over i.0 ≡ Some i.1) images → AreAmong new pages
  among_new [] [] are all = tt
  among_new [] (i ∷ images) are all = absurd are
  among_new (p ∷ pages) [] are all = absurd are
  among_new (p ∷ pages) (i ∷ images) are all =
      let here = renewed.each i.0 i.1 all.0 in
      let same : here.0 ≡ p.1 = same_entries PAGE_LEN here.0 p.1 (filled i.1) here.2 are.0.form in
      (ap (λ (n : ℕ). slice_get new n) (sym are.0.page) ∙ here.1 ∙ ap (λ (es : Entries). Some es) same, among_new pages images are.1 all.1)

  -- the pages of which these are the images are the new ones
  pub pages_among : (pages : List (ℕ × Entries)) → AreImages pages over → HasRisingPages over → AreAmong new pages
  pages_among pages are rising = among_new pages over are (each_found over (IsDistinct-from_sorted nat_cmp (keys_of over) rising))
