-- Pages in hand that became images, and the room in them.
use Rattle.std.proofs.Common.{◌≡◌, ◌≤◌, ℕ, suc, List, [], ◌∷◌, ◌++◌, length, refl, sym, ap, subst, ◌∙◌, append_assoc}
use Rattle.std.proofs.lemmas.List.{append-nil}
use Rattle.std.specs.BTreeMap.{insert_entry}
use Rattle.std.specs.List.{AllByRecursion}
use Rattle.std.specs.List.Sorted.{IsStrictlySortedBy}
use Rattle.std.specs.Map.{keys_of}
use Rattle.std.specs.Ordering.{nat_cmp}
use Rattle.std.specs.declared.cmp.Ordering.TheVariants.{Less}
use Rattle.std.proofs.lemmas.Cmp.{nat_cmp_total}
use Rattle.ode_gate.specs.declared.places.TheConstants.{PAGE_LEN}
use Rattle.ode_keep.specs.Entries.{Entries}
use Rattle.ode_keep.specs.Rising.{above_all, follows, inserted_last, rising_front}
use Rattle.ode_pages.specs.Pages.{IsPage, room_in}
use Rattle.ode_paging.specs.Images.{Image, IsShortImage}
use Rattle.ode_paging.specs.Imaging.{AreImages, IsImageOf, rooms_in}
use Rattle.ode_paging.specs.Standing.{filled}

pub are_keys : (hand : List (ℕ × Entries)) (images : List Image) → AreImages hand images → keys_of images ≡ keys_of hand
are_keys [] [] are = refl
are_keys [] (i ∷ images) are = absurd are
are_keys (h ∷ hand) [] are = absurd are
are_keys (h ∷ hand) (i ∷ images) are = (λ k. are.0.page k ∷ are_keys hand images are.1 k)

are_push : (hand : List (ℕ × Entries)) (images : List Image) (h : ℕ × Entries) (i : Image) → AreImages hand images → IsImageOf h i → AreImages (hand ++ h ∷ []) (images ++ i ∷ [])
are_push [] [] h i are is = (is, tt)
are_push [] (j ∷ images) h i are is = absurd are
are_push (g ∷ hand) [] h i are is = absurd are
are_push (g ∷ hand) (j ∷ images) h i are is = (are.0, are_push hand images h i are.1 is)

-- of the pages in hand these became images, and this is left
pub record IsImaged (hand rest : List (ℕ × Entries)) (images : List Image) : Type 0 where
  pub done : List (ℕ × Entries)
  pub split : hand ≡ done ++ rest
  pub are : AreImages done images

pub none_imaged : (hand rest : List (ℕ × Entries)) (images : List Image) → rest ≡ hand → images ≡ [] → IsImaged hand rest images
none_imaged hand rest images same none = record { done = []; split = sym same; are = subst (λ (l : List Image). AreImages [] l) (sym none) tt }

pub one_imaged : (hand rest more : List (ℕ × Entries)) (images next : List Image) (page : ℕ) (es : Entries) (used : List ℕ) → IsImaged hand rest images → rest ≡ (page, es) ∷ more
    → IsStrictlySortedBy nat_cmp (keys_of hand) → next ≡ insert_entry nat_cmp images page used → IsPage PAGE_LEN es (filled used) → length used ≤ PAGE_LEN → IsImaged hand more next
one_imaged hand rest more images next page es used so_far first rising made form short =
    let whole : hand ≡ so_far.done ++ (page, es) ∷ more = so_far.split ∙ ap (λ (l : List (ℕ × Entries)). so_far.done ++ l) first in
    let order = subst (λ (l : List (ℕ × Entries)). IsStrictlySortedBy nat_cmp (keys_of l)) whole rising in
    let above = above_all nat_cmp_total so_far.done page (rising_front nat_cmp so_far.done ((page, es) ∷ more) order) (follows nat_cmp so_far.done (page, es) more order) in
    let last : next ≡ images ++ (page, used) ∷ [] =
    made ∙ inserted_last nat_cmp_total images page used (subst (λ (ks : List ℕ). AllByRecursion (λ (y : ℕ). nat_cmp y page ≡ Less) ks) (sym (are_keys so_far.done images so_far.are)) above) in
    record {
      done = so_far.done ++ (page, es) ∷ [];
      split = whole ∙ sym (append_assoc so_far.done ((page, es) ∷ []) more);
      are = subst (λ (l : List Image). AreImages (so_far.done ++ (page, es) ∷ []) l) (sym last)
          (are_push so_far.done images (page, es) (page, used) so_far.are (record { page = refl; form = form; short = short }));
    }

pub all_imaged : (hand rest : List (ℕ × Entries)) (images : List Image) → IsImaged hand rest images → rest ≡ [] → AreImages hand images
all_imaged hand rest images so_far none =
    let whole : so_far.done ≡ hand = sym (append-nil so_far.done) ∙ ap (λ (l : List (ℕ × Entries)). so_far.done ++ l) (sym none) ∙ sym so_far.split in
    subst (λ (l : List (ℕ × Entries)). AreImages l images) whole so_far.are

pub are_length : (hand : List (ℕ × Entries)) (images : List Image) → AreImages hand images → length images ≡ length hand
are_length [] [] are = refl
are_length [] (i ∷ images) are = absurd are
are_length (h ∷ hand) [] are = absurd are
are_length (h ∷ hand) (i ∷ images) are = ap suc (are_length hand images are.1)

pub are_short : (hand : List (ℕ × Entries)) (images : List Image) → AreImages hand images → AllByRecursion IsShortImage images
are_short [] [] are = tt
are_short [] (i ∷ images) are = absurd are
are_short (h ∷ hand) [] are = absurd are
are_short (h ∷ hand) (i ∷ images) are = (are.0.short, are_short hand images are.1)

-- the rooms of some pages in hand are known, and these are left
pub one_room : (hand rest more : List (ℕ × Entries)) (rooms next : List (ℕ × ℕ)) (page room : ℕ) (es : Entries) → rooms ++ rooms_in rest ≡ rooms_in hand → rest ≡ (page, es) ∷ more
    → room ≡ room_in PAGE_LEN es → next ≡ rooms ++ (page, room) ∷ [] → next ++ rooms_in more ≡ rooms_in hand
one_room hand rest more rooms next page room es so_far first is pushed =
    ap (λ (l : List (ℕ × ℕ)). l ++ rooms_in more) pushed ∙ append_assoc rooms ((page, room) ∷ []) (rooms_in more)
    ∙ ap (λ (n : ℕ). rooms ++ (page, n) ∷ rooms_in more) is ∙ ap (λ (l : List (ℕ × Entries)). rooms ++ rooms_in l) (sym first) ∙ so_far

pub all_rooms : (hand rest : List (ℕ × Entries)) (rooms : List (ℕ × ℕ)) → rooms ++ rooms_in rest ≡ rooms_in hand → rest ≡ [] → rooms ≡ rooms_in hand
all_rooms hand rest rooms so_far none = sym (append-nil rooms) ∙ ap (λ (l : List (ℕ × Entries)). rooms ++ rooms_in l) (sym none) ∙ so_far

pub rooms_keys : (hand : List (ℕ × Entries)) → keys_of (rooms_in hand) ≡ keys_of hand
rooms_keys [] = refl
rooms_keys (h ∷ hand) = ap (λ (ks : List ℕ). h.0 ∷ ks) (rooms_keys hand)
