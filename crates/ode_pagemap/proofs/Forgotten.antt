-- Pages in memory that have no images.
use Rattle.std.proofs.Common.{◌≡◌, ℕ, List, [], ◌∷◌, ◌++◌, append_assoc, Bool, true, false, cond, Option, Some, None, nat_eq, refl, sym, ap, subst, ◌∙◌}
use Rattle.std.specs.BTreeMap.{is_at}
use Rattle.std.specs.Cmp.{Equal-is, nat_eq_equiv}
use Rattle.std.specs.List.{AllByRecursion}
use Rattle.std.specs.Map.{lookup, remove_entry}
use Rattle.std.specs.Ordering.{nat_cmp}
use Rattle.std.proofs.lemmas.List.{append-nil}
use Rattle.std.proofs.lemmas.Map.Lookups.{exact_unsigned}
use Rattle.ode_keep.specs.Entries.{Entries}
use Rattle.ode_paging.specs.Images.{Image}
use Rattle.ode_paging.specs.Standing.{image_of}
use Rattle.ode_pagemap.specs.Cached.{without}
use Rattle.ode_pagemap.proofs.Caching.{all_gone}

-- none of these has an image
abbrev pub HaveNone : List Image → List (ℕ × Entries) → Type 0
HaveNone images es = AllByRecursion (λ e. image_of images e.0 ≡ None) es

-- of these images so many were looked at, and this is left: no page has one of those
pub record AreForgotten (images rest : List Image) (es : List (ℕ × Entries)) : Type 0 where
  pub done : List Image
  pub split : images ≡ done ++ rest
  pub gone : HaveNone done es

no_images : (es : List (ℕ × Entries)) → HaveNone [] es
no_images [] = tt
no_images (e ∷ es) = (refl, no_images es)

pub none_forgotten : (images rest : List Image) (es : List (ℕ × Entries)) → rest ≡ images → AreForgotten images rest es
none_forgotten images rest es same = record { done = []; split = sym same; gone = no_images es }

pub all_forgotten : (images rest : List Image) (es : List (ℕ × Entries)) → AreForgotten images rest es → rest ≡ [] → HaveNone images es
all_forgotten images rest es so_far none =
    let whole : so_far.done ≡ images = sym (append-nil so_far.done) ∙ ap (λ (l : List Image). so_far.done ++ l) (sym none) ∙ sym so_far.split in
    subst (λ (l : List Image). HaveNone l es) whole so_far.gone

-- an image more, of another page
missing_push_at : (b : Bool) (x : List ℕ) (found : Option (List ℕ)) → (b ≡ true → ⊥) → cond b (Some x) found ≡ found
missing_push_at true x found other = absurd (other refl)
missing_push_at false x found other = refl

kept_at : (b : Bool) (used : List ℕ) (before after : Option (List ℕ)) → (before ≡ None → after ≡ None) → cond b (Some used) before ≡ None → cond b (Some used) after ≡ None
kept_at true used before after more none = absurd (cc (none))
kept_at false used before after more none = more none

missing_push : (done : List Image) (i : Image) (n : ℕ) → (is_at (nat_cmp n) i.0 ≡ true → ⊥) → image_of done n ≡ None → image_of (done ++ i ∷ []) n ≡ None
missing_push [] i n other none = missing_push_at (is_at (nat_cmp n) i.0) i.1 None other
missing_push (j ∷ done) i n other none =
    kept_at (is_at (nat_cmp n) j.0) j.1 (image_of done n) (image_of (done ++ i ∷ []) n) (λ before. missing_push done i n other before) none

tail_none : (b : Bool) (es : Entries) (found : Option Entries) → cond b (Some es) found ≡ None → (b ≡ true → ⊥) × (found ≡ None)
tail_none true es found none = absurd (cc (none))
tail_none false es found none = ((λ same. absurd (cc (same))), none)

other_page : (page n : ℕ) → (nat_eq page n ≡ true → ⊥) → is_at (nat_cmp n) page ≡ true → ⊥
other_page page n other here =
    let same : n ≡ page = exact_unsigned n page ((Equal-is (nat_cmp n page)).0 here) in
    other (subst (λ (m : ℕ). nat_eq page m ≡ true) (sym same) (nat_eq_equiv.refl page))

none_push : (done : List Image) (i : Image) (es : List (ℕ × Entries)) → lookup (nat_eq i.0) es ≡ None → HaveNone done es → HaveNone (done ++ i ∷ []) es
none_push done i [] absent none = tt
none_push done i (e ∷ es) absent none =
    let tail = tail_none (nat_eq i.0 e.0) e.1 (lookup (nat_eq i.0) es) absent in
    (missing_push done i e.0 (other_page i.0 e.0 tail.0) none.0, none_push done i es tail.1 none.1)

pub one_forgotten : (images rest more : List Image) (i : Image) (es after : List (ℕ × Entries)) → AreForgotten images rest es → rest ≡ i ∷ more → lookup (nat_eq i.0) after ≡ None
    → after ≡ remove_entry (nat_eq i.0) es → AreForgotten images more after
one_forgotten images rest more i es after so_far first absent made = record {
  done = so_far.done ++ i ∷ [];
  split = so_far.split ∙ ap (λ (l : List Image). so_far.done ++ l) first ∙ sym (append_assoc so_far.done (i ∷ []) more);
  gone = none_push so_far.done i after absent (subst (λ (l : List (ℕ × Entries)). HaveNone so_far.done l) (sym made) (all_gone i.0 (λ e. image_of so_far.done e.0 ≡ None) es so_far.gone));
}

-- what holds of all pages holds of those without images
pub all_without : (P : ℕ × Entries → Type 0) (images : List Image) (es : List (ℕ × Entries)) → AllByRecursion P es → AllByRecursion P (without images es)
all_without P [] es all = all
all_without P (i ∷ images) es all = all_without P images (remove_entry (nat_eq i.0) es) (all_gone i.0 P es all)
